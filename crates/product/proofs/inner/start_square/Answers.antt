use Rattle.product.proofs.Beginning.{filled_start, filled_put, filled_skip}
use native.Mathlib.Omega.{arith}
use Rattle.product.proofs.inner.start_square.Goals as goal
use Rattle.product.proofs.inner.start_square.Goals.{then-both_start, else-both_start}

pub loop-u-init : goal.loop-u-init
loop-u-init c = filled_start _

pub loop-v-preserved : goal.loop-v-preserved
loop-v-preserved c = elim c.if-both_start.branch [
  | then-both_start w ↦ rw w.d-is (filled_put _ c.loop-v.invariant (omega arith) (omega arith) (c.both_start.ensures.yes' w.if-both_start.true))
  | else-both_start w ↦ rw w.d-is (filled_skip _ c.loop-v.invariant (omega arith) (omega arith) (c.both_start.ensures.no' w.if-both_start.false))
]
