use Rattle.placing.proofs.Placing.{slice_more}
use native.Mathlib.Omega.{arith}
use Rattle.placing.proofs.inner.put.Goals as goal

pub loop-i-preserved : goal.loop-i-preserved
loop-i-preserved c = slice_more _ _ _ c.loop-i-test.true c.loop-i.invariant (omega arith)
