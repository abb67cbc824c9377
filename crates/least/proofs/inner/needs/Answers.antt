use Rattle.least.proofs.Choosing.{needs_more}
use native.Mathlib.Omega.{arith}
use Rattle.least.proofs.inner.needs.Goals as goal

pub loop-f-preserved : goal.loop-f-preserved
loop-f-preserved c = needs_more c.loop-f.invariant (omega arith) (omega arith) (omega arith) c.max-most.ensures
