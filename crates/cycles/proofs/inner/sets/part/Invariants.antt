-- `part` meets its contract: the rows below x are parted.
use Rattle.cycles.proofs.PairSets.{RowsParted}
use Rattle.cycles.proofs.inner.sets.part.Given as goal

abbrev pub invariant-loop-x : goal.invariant-loop-x
invariant-loop-x l = RowsParted l.initial.to l.initial.seen l.to l.seen l.x
