-- `after` meets its contract: after as many steps as are counted the set has the start states of that settle count; they are those of any
-- larger one where a step changes nothing.
use Rattle.starts.specs.Steps.{AfterOf}
use Rattle.starts.proofs.inner.after.Given as goal

abbrev pub invariant-loop : goal.invariant-loop
invariant-loop l = AfterOf l.words l.reachable l.counter l.to
