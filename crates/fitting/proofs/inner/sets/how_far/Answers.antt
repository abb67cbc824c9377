use native.Mathlib.Omega.{arith}
use Rattle.mealy.proofs.Letters.{letter_at_lem}
use Rattle.fitting.proofs.Steps.{still_more, still_stops, still_all}
use Rattle.fitting.proofs.inner.sets.how_far.Goals as goal

pub image-next-requires : goal.image-next-requires
image-next-requires c = (c.requires.0, rw c.from.ensures (letter_at_lem 64 c.args.w.now c.requires.1 _ (omega arith)))

pub returns-then-next-eq0 : goal.returns-then-next-eq0
returns-then-next-eq0 c = still_stops c.loop-k.invariant c.loop-k-test.true c.from.ensures c.image-next.ensures c.if-next-eq0.true

pub loop-k-preserved : goal.loop-k-preserved
loop-k-preserved c = still_more c.loop-k.invariant c.loop-k-test.true c.from.ensures c.image-next.ensures c.if-next-eq0.false

pub returns : goal.returns
returns c = still_all c.loop-k.invariant (omega arith)
