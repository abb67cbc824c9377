use mathlib.Core.Path.{refl, sym, ◌≡◌, ◌∙◌}
use native.Mathlib.Omega.{arith}
use lib.ListN.{length}
use lib.Seq.{drop-length}
use Rattle.coder.proofs.Refusals.{letters_more, letters_not}
use Rattle.coder.proofs.inner.bytes.letters_below.Goals as goal

pub loop-x-init : goal.loop-x-init
loop-x-init c = refl

pub loop-x-preserved : goal.loop-x-preserved
loop-x-preserved c =
    let l = c.if-n-from.false in
    letters_more _ _ _ c.loop-x-test.true (rw c.from.ensures at l) c.loop-x.invariant

pub returns-then-n-from : goal.returns-then-n-from
returns-then-n-from c =
    let l = c.if-n-from.true in
    sym (letters_not _ _ _ c.loop-x-test.true (rw c.from.ensures at l) c.loop-x.invariant)

pub returns : goal.returns
returns c =
    let e : c.loop-x.x-index ≡ length c.args.letters.now = omega arith in
    sym (c.loop-x.invariant ∙ rw (e, drop-length))
