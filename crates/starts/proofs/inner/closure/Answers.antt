use native.Mathlib.Omega.{arith}
use Rattle.starts.proofs.Closure.{so_far_first, so_far_more, so_far_same, so_far_end}
use Rattle.starts.proofs.inner.closure.Goals as goal

pub loop-init : goal.loop-init
loop-init c = so_far_first

pub returns-then-more-set : goal.returns-then-more-set
returns-then-more-set c = let i = c.loop in so_far_same i.counter i.invariant c.image.ensures c.if-more-set.true

pub loop-preserved : goal.loop-preserved
loop-preserved c = let i = c.loop in so_far_more i.counter i.invariant (omega arith) c.image.ensures

pub returns : goal.returns
returns c = let i = c.loop in so_far_end i.counter i.invariant (omega arith)
