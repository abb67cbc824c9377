-- `closure` meets its contract: with the counter at k the set has the states within k - 1 steps of state 0; these are all where a step adds
-- none, and at the end.
use Rattle.starts.proofs.Closure.{SoFar}
use Rattle.starts.proofs.inner.closure.Given as goal

abbrev pub invariant-loop : goal.invariant-loop
invariant-loop l = SoFar l.words l.states l.counter l.set
