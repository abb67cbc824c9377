-- `least_next` meets its contract: the least over the rows of the states below x.
use Prim.Native.Nat.{◌<◌}
use Rattle.first_pair.specs.Cost.{Capped, no_cost}
use Rattle.mealy.specs.Image.{Image}
use Rattle.first_pair.specs.Successors.{word_at}
use Rattle.costs.specs.Lowering.{RowCost}
use Rattle.costs.proofs.inner.lowering.least_next.Given as goal

abbrev pub invariant-loop-x : goal.invariant-loop-x
invariant-loop-x l = Capped (Image (λ y. RowCost l.t y (word_at l.words l.a y)) (λ y. y < l.x)) no_cost l.least
