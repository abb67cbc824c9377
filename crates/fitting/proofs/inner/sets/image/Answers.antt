use Rattle.setting.proofs.Passing.{member_below, passed_one}
use Rattle.mealy.proofs.Members.{passed_all}
use Rattle.fitting.proofs.Making.{leads_holds}
use Rattle.fitting.proofs.inner.sets.image.Goals as goal

pub loop-s-preserved : goal.loop-s-preserved
loop-s-preserved c =
    let p = c.loop-s.invariant in
    let m = c.in-Some.ensures.steps in
    let l = member_below m p.left in
    passed_one m p (leads_holds c.args.words.now c.args.o _ l (c.requires.0 c.args.o _ c.requires.1 l))

pub returns : goal.returns
returns c = passed_all c.loop-s.invariant c.in-None.ensures.steps
