use Rattle.costs.proofs.Lowering.{lowering_none, lowering_asked, lowering_more, lowering_done}
use Rattle.costs.proofs.inner.lowering.lower_costs.Goals as goal

pub loop-init : goal.loop-init
loop-init c = lowering_none c.requires c.least_of-low.ensures.1 c.least_of-low.ensures.0

pub pass-requires : goal.pass-requires
pass-requires c = lowering_asked c.requires c.loop.invariant

pub loop-smaller : goal.loop-smaller
loop-smaller c = c.pass.ensures.less c.loop-test.true

pub loop-preserved : goal.loop-preserved
loop-preserved c = lowering_more c.requires c.loop.invariant c.pass.ensures

pub returns : goal.returns
returns c = (c.pass.ensures.table, lowering_done c.requires c.loop.invariant c.loop-test.ensures)
