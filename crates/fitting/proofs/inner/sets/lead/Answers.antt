use Rattle.fitting.proofs.Backward.{leads_none, last_letter, leads_more, leads_empty, leads_all}
use Rattle.fitting.proofs.inner.sets.lead.Goals as goal

pub loop-y-init : goal.loop-y-init
loop-y-init c = leads_none (rw (c.into_iter-y-iterator.ensures.into_iter_gives, c.rev-y-items.ensures.source) c.iter.ensures.rest)

pub returns-then-from-eq0 : goal.returns-then-from-eq0
returns-then-from-eq0 c = leads_empty c.loop-y.invariant c.if-from-eq0.true

pub image-from-requires : goal.image-from-requires
image-from-requires c = (c.requires.0, rw c.from.ensures (last_letter c.loop-y.invariant _ _ c.in-Some.ensures.steps c.requires.1))

pub loop-y-preserved : goal.loop-y-preserved
loop-y-preserved c = leads_more c.loop-y.invariant _ _ c.in-Some.ensures.steps (rw c.from.ensures at c.image-from.ensures)

pub returns : goal.returns
returns c = leads_all c.loop-y.invariant c.in-None.ensures.steps.0
