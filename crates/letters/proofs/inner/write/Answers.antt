use native.Mathlib.Omega.{arith}
use Rattle.letters.proofs.Edges.{all_letters}
use Rattle.letters.proofs.Steps.{kept_more, walked_asks, walked_more, walked_all}
use Rattle.letters.proofs.inner.write.Goals as goal

pub lowest-x-requires : goal.lowest-x-requires
lowest-x-requires c =
    let pre = c.requires in
    let more = c.loop-k-test.true in
    walked_asks pre.arrays _ all_letters (c.loop-k.invariant.1 pre.c pre.arrays pre.walk) _ (omega arith)

pub after-a-requires : goal.after-a-requires
after-a-requires c =
    let pre = c.requires in
    (omega (arith, (c.loop-k.invariant.1 pre.c pre.arrays pre.walk).pair.0, pre.arrays.sound.states_high), c.lowest-x.ensures.1)

pub loop-k-preserved : goal.loop-k-preserved
loop-k-preserved c =
    let kept = c.loop-k.invariant.0 in
    let more = c.loop-k-test.true in
    let pre = c.requires in
    rw c.write_at.ensures (
      kept_more _ _ kept,
      λ d arrays w.
          walked_more arrays _ all_letters (c.loop-k.invariant.1 d arrays w) _ (omega arith) c.lowest-x.result
          (omega arith) (omega arith) w c.lowest-x.ensures.0 c.after-a.ensures,
    )

pub returns : goal.returns
returns c = λ d arrays w.
    walked_all arrays.sound.states_high (omega arith) (omega arith) (c.loop-k.invariant.1 d arrays w) c.loop-k.invariant.0
