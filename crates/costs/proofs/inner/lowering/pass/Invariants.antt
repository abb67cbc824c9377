-- `pass` meets its contract: the pairs from a on are done.
use Rattle.costs.proofs.Lowering.{Passing}
use Rattle.costs.proofs.inner.lowering.pass.Given as goal

abbrev pub invariant-loop-a : goal.invariant-loop-a
invariant-loop-a l = Passing l.words l.states l.step l.low l.initial.t l.t l.fell l.a
