use mathlib.Core.Path.{refl}
use native.Mathlib.Omega.{arith}
use Rattle.setting.proofs.Passing.{member_below}
use Rattle.first_pair.proofs.Capping.{least_none, least_all, capped_min}
use Rattle.costs.proofs.Lowering.{row_cost}
use Rattle.costs.proofs.LeastOfMembers.{least_one}
use Rattle.costs.proofs.inner.lowering.least_in_row.Goals as goal

pub loop-y-init : goal.loop-y-init
loop-y-init c = rw (c.into_iter-y-iterator.ensures.into_iter_gives, c.of-y-items.ensures) (least_none (omega arith))

pub bounds-t-x : goal.bounds-t-x
bounds-t-x c = omega (arith, member_below c.in-Some.ensures.steps c.loop-y.invariant.left)

pub loop-y-preserved : goal.loop-y-preserved
loop-y-preserved c = least_one c.in-Some.ensures.steps c.loop-y.invariant (capped_min refl c.min-least.ensures)

pub returns : goal.returns
returns c = row_cost (least_all c.loop-y.invariant c.in-None.ensures.steps)
