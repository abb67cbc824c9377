use native.Mathlib.Omega.{arith}
use Rattle.mealy.proofs.Letters.{letter_at_lem}
use Rattle.fitting.proofs.Steps.{followed_more, followed_all, followed_empty}
use Rattle.fitting.proofs.inner.sets.follow.Goals as goal

pub returns-then-to-eq0 : goal.returns-then-to-eq0
returns-then-to-eq0 c = followed_empty c.loop-y.invariant c.if-to-eq0.true

pub image-to-requires : goal.image-to-requires
image-to-requires c = (c.requires.0, rw c.from.ensures (letter_at_lem 64 c.args.w.now c.requires.1 _ (omega arith)))

pub loop-y-preserved : goal.loop-y-preserved
loop-y-preserved c = followed_more c.loop-y.invariant c.loop-y-test.true c.from.ensures c.image-to.ensures

pub returns : goal.returns
returns c = followed_all c.loop-y.invariant (omega arith)
