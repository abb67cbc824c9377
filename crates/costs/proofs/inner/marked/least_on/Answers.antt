use Prim.Native.Nat.{◌+◌, ◌*◌}
use mathlib.Core.Path.{refl}
use native.Mathlib.Omega.{arith}
use Rattle.setting.proofs.Passing.{member_below}
use Rattle.first_pair.proofs.Capping.{least_none, least_all, capped_min}
use Rattle.costs.proofs.ConflictCosts.{on_letters}
use Rattle.costs.proofs.LeastOfMembers.{least_one}
use Rattle.costs.proofs.inner.marked.least_on.Goals as goal

pub loop-j-init : goal.loop-j-init
loop-j-init c = rw (c.into_iter-j-iterator.ensures.into_iter_gives, c.of-j-items.ensures) (least_none (omega arith))

pub bounds-c-v : goal.bounds-c-v
bounds-c-v c = omega (arith, member_below c.in-Some.ensures.steps c.loop-j.invariant.left)

pub bounds-t-x : goal.bounds-t-x
bounds-t-x c = omega (arith, c.requires.2 (16 * c.args.v + c.in-Some.j))

pub loop-j-preserved : goal.loop-j-preserved
loop-j-preserved c = least_one c.in-Some.ensures.steps c.loop-j.invariant (capped_min refl (rw c.from-y.ensures at c.min-least.ensures))

pub returns : goal.returns
returns c = on_letters (least_all c.loop-j.invariant c.in-None.ensures.steps)
