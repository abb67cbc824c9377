-- `first_start` meets its contract: the first with the fewest letters of the pairs passed so far.
use Rattle.first_pair.specs.Cost.{too_long}
use Rattle.costs.specs.Starts.{total_of, StartPair}
use Rattle.costs.proofs.FirstStarts.{FirstBelow}
use Rattle.costs.proofs.inner.starts.first_start.Given as goal

abbrev pub invariant-loop-a : goal.invariant-loop-a
invariant-loop-a l = FirstBelow (StartPair l.states l.starts) (total_of l.loops l.heads) too_long l.fewest l.first l.a
