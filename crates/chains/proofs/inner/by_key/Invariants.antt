-- `by_key` meets its contract. The entries below place p are chained.
use Rattle.chains.proofs.Building.{ChainedBelow}
use Rattle.chains.proofs.inner.by_key.Given as goal

abbrev pub invariant-loop-p : goal.invariant-loop-p
invariant-loop-p l = ChainedBelow l.keys l.states l.inputs l.p l.last l.previous
