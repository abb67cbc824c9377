-- `write_between` meets its contract: each part begins where the one before it ends.
use native.Mathlib.Omega.{arith}
use Rattle.loops.proofs.ClosedParts.{own_arrays}
use Rattle.loops.proofs.BetweenParts.{few, start_below, head_walk, head_asks, mark_follows, tail_walk, tail_asks, between_written}
use Rattle.loops.proofs.inner.parts.write_between.Goals as goal

pub overflow_mul-from : goal.overflow_mul-from
overflow_mul-from c =
    let f = c.requires.from in
    omega (arith, (start_below f).0, f.sound.states_high)

pub overflow_add-from : goal.overflow_add-from
overflow_add-from c =
    let f = c.requires.from in
    omega (arith, (start_below f).0, (start_below f).1, f.sound.states_high)

pub write-u-requires : goal.write-u-requires
write-u-requires c = let pre = c.requires in head_asks pre.from pre.room

pub write_mark-next-requires : goal.write_mark-next-requires
write_mark-next-requires c =
    let pre = c.requires in
    mark_follows pre.from (c.write-u.ensures _ (own_arrays pre.from.sound) (head_walk pre.from)) pre.room

pub overflow_add-mark-2 : goal.overflow_add-mark-2
overflow_add-mark-2 c =
    omega (arith, few c.requires.from)

pub write-requires : goal.write-requires
write-requires c =
    let pre = c.requires in
    tail_asks pre.from (c.write-u.ensures _ (own_arrays pre.from.sound) (head_walk pre.from)) c.write_mark-next.ensures pre.room

pub returns : goal.returns
returns c = λ starts loops f.
    let h = c.write-u.ensures _ (own_arrays f.sound) (head_walk f) in
    between_written f h c.write_mark-next.ensures (c.write.ensures _ (own_arrays f.sound) (tail_walk f h c.write_mark-next.ensures))
