-- `entries_refusal` meets its contract. Counts in range keep the products small, and entries in range name letters of a word.
use Rattle.std.proofs.Common.{arith}
use Rattle.coder.proofs.Accepted.{in_limits, entries_high, naming_asked}
use Rattle.coder.proofs.Refusals.{via}
use Rattle.reader.proofs.inner.entries_refusal.Goals as goal

pub overflow_mul-n : goal.overflow_mul-n
overflow_mul-n c = omega (arith, entries_high _ _ _ (in_limits _ _ _ (via c.in_range.ensures c.if-not-in_range.false)))

pub overflow_mul-n-2 : goal.overflow_mul-n-2
overflow_mul-n-2 c = omega (arith, entries_high _ _ _ (in_limits _ _ _ (via c.in_range.ensures c.if-not-in_range.false)))

pub all_named-requires : goal.all_named-requires
all_named-requires c =
    naming_asked _ _ _ _ (in_limits _ _ _ (via c.in_range.ensures c.if-not-in_range.false)) c.if-entries-n.false
    (via c.entries_in_range.ensures c.if-not-entries_in_range.false)
