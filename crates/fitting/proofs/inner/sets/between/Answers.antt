use Rattle.mealy.proofs.Words.{holds_map}
use Rattle.mealy.proofs.Members.{passed_all}
use Rattle.setting.proofs.Passing.{member_below, passed_one}
use Rattle.fitting.proofs.inner.sets.between.Goals as goal

pub loop-s-preserved : goal.loop-s-preserved
loop-s-preserved c =
    let l = member_below c.in-Some.ensures.steps c.loop-s.invariant.left in
    passed_one c.in-Some.ensures.steps c.loop-s.invariant
    (holds_map (λ x h. ((l, h.0), h.1)) (λ x h. (h.0.1, h.1)) c.of_state-fit.ensures)

pub returns : goal.returns
returns c = passed_all c.loop-s.invariant c.in-None.ensures.steps
