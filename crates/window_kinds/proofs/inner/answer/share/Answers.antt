use mathlib.Core.Path.{◌≡◌, sym, refl}
use native.Mathlib.Omega.{arith}
use Rattle.coder.specs.Refusal.{all_below}
use Rattle.coder.proofs.Refusals.{all_more, all_not, via}
use Rattle.window_kinds.specs.Answer.{shared}
use Rattle.window_kinds.proofs.inner.answer.share.Goals as goal

pub loop-x-init : goal.loop-x-init
unfolding all_below
loop-x-init c = refl

pub loop-x-preserved : goal.loop-x-preserved
loop-x-preserved c = all_more _ _ (via c.of_kind.ensures c.if-not-of_kind.false) c.loop-x.invariant

pub returns-then-not-of_kind : goal.returns-then-not-of_kind
unfolding shared
returns-then-not-of_kind c = sym (all_not _ _ _ c.loop-x-test.true (via c.of_kind.ensures c.if-not-of_kind.true))

pub returns : goal.returns
unfolding shared
returns c = let e : c.loop-x.x ≡ 16 = omega arith in sym (rw e at c.loop-x.invariant)
