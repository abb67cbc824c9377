use mathlib.Core.Path.{refl, ap, ◌∙◌}
use Rattle.mealy.specs.Answer.{byte_of}
use Rattle.fitting.specs.Answer.{meaning}
use Rattle.filling.proofs.Filling.{last_none, last_more}
use native.Mathlib.Omega.{arith}
use Rattle.filling.proofs.inner.table.fill_last.Goals as goal

pub loop-o-init : goal.loop-o-init
loop-o-init c = last_none refl

pub letters_after-requires : goal.letters_after-requires
letters_after-requires c = let p = c.requires in let z = c.loop-o.invariant.size in (p.rows, p.words, omega (arith, p.outputs_high, c.loop-o-test.true))

pub loop-o-preserved : goal.loop-o-preserved
loop-o-preserved c =
    let z = c.loop-o.invariant.size in
    last_more c.loop-o.invariant (omega (arith, c.loop-o-test.true))
    c.letters_after.ensures (c.answer_byte.ensures ∙ ap (λ x. byte_of (meaning x)) c.answer_of.ensures)

pub returns : goal.returns
returns c = let z = c.loop-o.invariant.size in λ d a k l. c.loop-o.invariant.is d a k (omega (arith, c.loop-o-test.false))
