-- `least_of` meets its contract: no cost that is passed is lower.
use Prim.Native.Nat.{ℕ, ◌≤◌, ◌<◌}
use lib.ListN.{get_or}
use Rattle.first_pair.specs.Cost.{no_cost}
use Rattle.costs.proofs.inner.lowering.least_of.Given as goal

abbrev pub invariant-loop-cost : goal.invariant-loop-cost
invariant-loop-cost l = ((j : ℕ) → j < l.cost-index → l.least ≤ get_or l.t j 0) × (l.least ≤ no_cost)
