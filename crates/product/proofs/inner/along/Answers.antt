use Rattle.product.proofs.Depths.{near_keys, arrays_of, before_start, round_along, before_next, changed_low, depths_found}
use native.Mathlib.Omega.{arith}
use Rattle.product.proofs.inner.along.Goals as goal

pub by_key-chain-requires : goal.by_key-chain-requires
by_key-chain-requires c = let r = c.requires in rw r.near_is (near_keys _ r.sound r.d)

pub loop-chain-init : goal.loop-chain-init
loop-chain-init c =
    let sound = c.requires.sound in (
      omega arith,
      λ w n f. before_start _ w _ sound c.start_square-d.ensures (arrays_of _ w sound n f c.by_key-chain.ensures) c.first_edges-edges.ensures,
    )

pub loop-chain-preserved : goal.loop-chain-preserved
loop-chain-preserved c =
    let p = c.requires in
    let r = round_along p.sound c.by_key-chain.ensures c.round.ensures c.loop-chain.invariant.1 in
    let l = changed_low _ _ _ p.sound (r p.d p.near_is p.far_is) c.loop-chain-test.true in
    (omega arith, λ w n f. before_next _ _ _ p.sound (omega arith) (r w n f).after)

pub returns : goal.returns
returns c = λ w n f.
    let r = round_along c.requires.sound c.by_key-chain.ensures c.round.ensures c.loop-chain.invariant.1 w n f in
    depths_found _ _ _ c.requires.sound c.loop-chain.invariant.0 r.after (r.changed.no' c.loop-chain-test.false)
