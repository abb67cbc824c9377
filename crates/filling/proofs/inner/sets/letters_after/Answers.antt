use Rattle.filling.specs.Sets.{gather}
use Rattle.filling.proofs.Steps.{walked_none, walked_more, walked_all}
use Rattle.filling.proofs.Sets.{letters_hold}
use Rattle.filling.proofs.inner.sets.letters_after.Goals as goal

pub loop-j-init : goal.loop-j-init
loop-j-init c = rw c.from-j.ensures (walked_none c.requires.0 c.requires.2)

pub loop-j-preserved : goal.loop-j-preserved
unfolding gather
loop-j-preserved c =
    walked_more c.loop-j.invariant (rw c.from-j-end.ensures at c.loop-j-test.true) c.requires.0 c.requires.2
    (rw (c.contribution-u.ensures, c.from-p.ensures))

pub returns : goal.returns
returns c = λ d a.
    rw (walked_all c.loop-j.invariant (rw c.from-j-end.ensures at c.loop-j-test.false) d a)
    (letters_hold d a.sound c.args.v.now c.args.o c.args.here c.requires.1)
