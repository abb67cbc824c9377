-- `add_row` meets its contract: the set has the successors of the pairs whose v is not in the rest.
use Rattle.cycles.proofs.PairSets.{RowPassed}
use Rattle.cycles.proofs.inner.sets.add_row.Given as goal

abbrev pub invariant-loop-v : goal.invariant-loop-v
invariant-loop-v l = RowPassed l.words l.u l.row l.initial.set l.set l.v-iterator.rest
