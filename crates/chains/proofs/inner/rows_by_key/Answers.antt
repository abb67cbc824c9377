use mathlib.Core.Path.{refl}
use Prim.Native.Nat.{◌-◌}
use native.Mathlib.Omega.{arith}
use Rattle.chains.proofs.Rows.{rowed_none, rowed_all, walk_none, walk_room, walk_less, walk_more, walk_all}
use Rattle.chains.proofs.inner.rows_by_key.Goals as goal

pub loop-k-init : goal.loop-k-init
loop-k-init c = (rowed_none _ _ _, refl)

pub loop-q-init : goal.loop-q-init
loop-q-init c = let i = c.loop-k.invariant in walk_none _ _ _ i.0 i.1 (omega arith) c.by_key-chain.ensures c.from-q.ensures

pub bounds-entries-n : goal.bounds-entries-n
bounds-entries-n c = walk_room _ _ _ c.loop-q.invariant (c.loop-q.q - 1) (omega arith)

pub loop-q-smaller : goal.loop-q-smaller
loop-q-smaller c = let i = c.loop-q in walk_less _ _ _ i.invariant (i.q - 1) (omega arith) c.by_key-chain.ensures c.from-q-in-loop-q.ensures

pub loop-q-preserved : goal.loop-q-preserved
loop-q-preserved c =
    let i = c.loop-q in
    walk_more _ _ _ i.invariant (i.q - 1) (omega arith) c.by_key-chain.ensures c.from-q-in-loop-q.ensures

pub loop-k-preserved : goal.loop-k-preserved
loop-k-preserved c = walk_all _ _ _ c.loop-q.invariant (omega arith) (omega arith)

pub returns : goal.returns
returns c = rowed_all _ _ _ _ (omega arith) c.loop-k.invariant.0
