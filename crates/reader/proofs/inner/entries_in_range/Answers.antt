use Rattle.std.proofs.Common.{sym, arith}
use Rattle.coder.proofs.Refusals.{all_not, via}
use Rattle.reader.proofs.inner.entries_in_range.Goals as goal

pub returns-then-not-entry_in_range : goal.returns-then-not-entry_in_range
returns-then-not-entry_in_range c = sym (all_not _ _ _ (omega arith) (via c.entry_in_range.ensures c.if-not-entry_in_range.true))
