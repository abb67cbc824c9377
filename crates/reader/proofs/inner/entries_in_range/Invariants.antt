-- `entries_in_range` meets its contract. The entries below j are in range.
use Rattle.std.proofs.Common.{◌≡◌, true}
use Rattle.coder.specs.Refusal.{all_below}
use Rattle.coder.specs.File.{entry_in_range}
use Rattle.reader.proofs.inner.entries_in_range.Given as goal

abbrev pub invariant-loop-j : goal.invariant-loop-j
invariant-loop-j l = all_below l.j (entry_in_range l.states l.outputs l.entries) ≡ true
