-- `joined_entry` meets its contract: all that it looks up is small.
use native.Mathlib.Omega.{arith}
use native.Mathlib.Nat.{lt_of_le_of_lt, le-add_right}
use Prim.Native.Nat.{◌*◌, ◌<◌}
use Rattle.joining.proofs.inner.joined_entry.Goals as goal

pub overflow_mul-next : goal.overflow_mul-next
overflow_mul-next c =
    let l : c.entry.result * c.args.d.now.states < 16 = rw c.entry.ensures.0 (lt_of_le_of_lt (le-add_right _ _) (c.requires.next_state _ _ 0 0)) in
    omega arith
