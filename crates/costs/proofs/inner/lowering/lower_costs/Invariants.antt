-- `lower_costs` meets its contract: the sum of all costs falls until none falls.
use lib.ListN.{get_or}
use Rattle.mealy.specs.Sum.{sum}
use Rattle.costs.proofs.Lowering.{LoweringSoFar}
use Rattle.costs.proofs.inner.lowering.lower_costs.Given as goal

abbrev pub invariant-loop : goal.invariant-loop
invariant-loop l = LoweringSoFar l.words l.states l.step l.low l.initial.t l.t

abbrev pub decreases-loop : goal.decreases-loop
decreases-loop l = sum 256 (λ k. get_or l.t k 0)
