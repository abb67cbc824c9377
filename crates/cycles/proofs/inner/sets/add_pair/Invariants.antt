-- `add_pair` meets its contract: the rows below x have the successors besides.
use Rattle.cycles.specs.Successors.{word_at}
use Rattle.coder.proofs.Fill.{Filled}
use Rattle.cycles.proofs.PairSets.{besides}
use Rattle.cycles.proofs.inner.sets.add_pair.Given as goal

abbrev pub invariant-loop-x : goal.invariant-loop-x
invariant-loop-x l = Filled 16 (besides (word_at l.words l.a) l.initial.set) l.initial.set l.x l.set
