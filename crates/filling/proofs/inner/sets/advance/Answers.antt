use lib.ListN.{length-set}
use Rattle.filling.specs.Sets.{gather, add, added}
use Rattle.filling.proofs.Steps.{walked_none, walked_more, walked_all}
use Rattle.filling.proofs.inner.sets.advance.Goals as goal

pub loop-j-init : goal.loop-j-init
loop-j-init c = (c.requires.3, rw c.from-j.ensures (walked_none c.requires.0 c.requires.2))

pub loop-j-preserved : goal.loop-j-preserved
unfolding add gather
loop-j-preserved c = (
  simp length-set c.loop-j.invariant.0,
  walked_more c.loop-j.invariant.1 (rw c.from-j-end.ensures at c.loop-j-test.true) c.requires.0 c.requires.2
      (rw (c.contribution.ensures, c.from.ensures, c.from-p.ensures)),
)

pub returns : goal.returns
unfolding added
returns c = walked_all c.loop-j.invariant.1 (rw c.from-j-end.ensures at c.loop-j-test.false)
