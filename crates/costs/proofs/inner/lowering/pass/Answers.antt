use native.Mathlib.Omega.{arith}
use Rattle.costs.proofs.Lowering.{passing_none, passing_low, passing_high, passing_fell, passing_all}
use Rattle.costs.proofs.inner.lowering.pass.Goals as goal

pub loop-a-init : goal.loop-a-init
loop-a-init c = passing_none c.requires

pub loop-a-preserved-then-next-cost : goal.loop-a-preserved-then-next-cost
loop-a-preserved-then-next-cost c =
    passing_fell c.requires
    c.loop-a.invariant (omega arith) c.least_next.ensures c.if-next-cost.true

pub loop-a-preserved-else-next-cost : goal.loop-a-preserved-else-next-cost
loop-a-preserved-else-next-cost c =
    passing_high c.requires
    c.loop-a.invariant (omega arith) c.least_next.ensures c.if-next-cost.false

pub loop-a-preserved : goal.loop-a-preserved
loop-a-preserved c = passing_low c.requires c.loop-a.invariant (omega arith) c.if-low-step.false

pub returns : goal.returns
returns c = passing_all c.requires c.loop-a.invariant (omega arith)
