use mathlib.Core.Path.{refl}
use Rattle.mealy.proofs.Words.{holds_map}
use Rattle.mealy.proofs.Members.{passed_all}
use Rattle.setting.proofs.Passing.{passed_one}
use Rattle.fitting.proofs.inner.sets.of_state.Goals as goal

pub loop-x-preserved : goal.loop-x-preserved
loop-x-preserved c = passed_one c.in-Some.ensures.steps c.loop-x.invariant c.on_letter-fit.ensures

pub returns : goal.returns
returns c =
    holds_map (λ x i. let e = i.step.0 in (rw (← e) at i.from, rw (← e) at i.step.1))
    (λ x h. record { s = x; from = h.0; step = (refl, h.1) })
    (passed_all c.loop-x.invariant c.in-None.ensures.steps)
