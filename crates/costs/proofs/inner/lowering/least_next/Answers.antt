use mathlib.Core.Path.{◌≡◌}
use native.Mathlib.Omega.{arith}
use Rattle.first_pair.proofs.Capping.{below_none, below_one}
use Rattle.costs.proofs.Lowering.{next_cost}
use Rattle.costs.proofs.inner.lowering.least_next.Goals as goal

pub loop-x-init : goal.loop-x-init
loop-x-init c = below_none

pub loop-x-preserved : goal.loop-x-preserved
loop-x-preserved c = below_one c.loop-x.invariant c.least_in_row-least.ensures

pub returns : goal.returns
returns c = let e : c.loop-x.x ≡ c.args.states = omega arith in next_cost (rw e at c.loop-x.invariant)
