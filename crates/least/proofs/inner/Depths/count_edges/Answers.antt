use Rattle.chains.proofs.Entries.{is_entry_lem}
use Rattle.least.proofs.Counting.{rows_start, rows_at, rows_state, rows_end}
use Prim.Native.Nat.{◌+◌, ◌*◌}
use native.Mathlib.Omega.{arith}
use Rattle.least.proofs.inner.Depths.count_edges.Goals as goal

pub loop-s-init : goal.loop-s-init
loop-s-init c = rows_start _ _ _ _

pub row-requires : goal.row-requires
row-requires c =
    let sound = c.args.self.now.sound in
    let n = sound.inputs_high in
    is_entry_lem _ _ (16 * c.loop-s.s + c.loop-i.i) (omega arith) (omega arith)

pub loop-s-preserved : goal.loop-s-preserved
loop-s-preserved c =
    rows_state _ _ _ _ c.loop-s.s (rows_at _ _ _ _ (omega arith) c.loop-i.invariant)

pub returns : goal.returns
returns c = rows_end _ _ _ _ (rows_at _ _ _ _ (omega arith) c.loop-s.invariant)
