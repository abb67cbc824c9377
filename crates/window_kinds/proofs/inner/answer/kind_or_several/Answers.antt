-- `kind_or_several` meets its contract: the kind of the least letter, where all share it.
use Rattle.coder.proofs.Refusals.{via}
use Rattle.window_kinds.specs.Answer.{kind_or_several}
use Rattle.window_kinds.proofs.inner.answer.kind_or_several.Goals as goal

pub returns-then-share : goal.returns-then-share
unfolding kind_or_several
returns-then-share c = rw (← c.kind_of-k.ensures, via c.share.ensures c.if-share.true)

pub returns : goal.returns
unfolding kind_or_several
returns c = rw (← c.kind_of-k.ensures, via c.share.ensures c.if-share.false)
