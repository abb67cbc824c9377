-- `marked` meets its contract: the places passed so far have the costs.
use Rattle.first_pair.specs.Cost.{CostTable}
use Rattle.costs.proofs.ConflictCosts.{PlaceCost, CostsBelow}
use Rattle.costs.proofs.inner.marked.marked.Given as goal

abbrev pub invariant-loop-a : goal.invariant-loop-a
invariant-loop-a l = CostsBelow (PlaceCost l.c l.letters l.conflicts l.t) l.a l.table × CostTable l.table
