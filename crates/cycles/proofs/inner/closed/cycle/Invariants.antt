-- `cycle` meets its contract: the pairs that k letters lead to, and those met before.
use Rattle.cycles.proofs.Breadth.{Ahead}
use Rattle.cycles.proofs.inner.closed.cycle.Given as goal

abbrev pub invariant-loop-k : goal.invariant-loop-k
invariant-loop-k l = Ahead l.words l.states l.u l.v l.k l.set l.seen
