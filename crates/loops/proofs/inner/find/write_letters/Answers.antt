-- `write_letters` meets its contract: the back loop, what lies between the loops, the forward loop.
use native.Mathlib.Omega.{arith}
use mathlib.Core.Path.{refl}
use mathlib.Core.List.{[]}
use Rattle.first_pair.proofs.Lowest.{lowest_within}
use Rattle.loops.proofs.Finding.{back_asked, forward_asked, letters_written}
use Rattle.loops.proofs.inner.find.write_letters.Goals as goal

pub overflow_add-unlooped : goal.overflow_add-unlooped
overflow_add-unlooped c = let f = c.requires.between.from.found.few in omega arith

pub overflow_add-unlooped-2 : goal.overflow_add-unlooped-2
overflow_add-unlooped-2 c = let f = c.requires.between.from.found.few in omega arith

pub overflow_add-unlooped-3 : goal.overflow_add-unlooped-3
overflow_add-unlooped-3 c = let f = c.requires.between.from.found.few in omega arith

pub overflow_mul-start : goal.overflow_mul-start
overflow_mul-start c =
    let f = c.requires.between.from in
    omega (arith, (f.found.lengths []).start₁.0, f.sound.states_high)

pub overflow_add-start : goal.overflow_add-start
overflow_add-start c =
    let f = c.requires.between.from in
    let w = f.found.lengths [] in
    omega (arith, w.start₁.0, w.start₂.0, f.sound.states_high)

pub write_closed-requires : goal.write_closed-requires
write_closed-requires c =
    let p = c.requires in
    back_asked p.between.from p.successors p.between.room _ refl

pub write_between-end-requires : goal.write_between-end-requires
write_between-end-requires c =
    let p = c.requires.between in
    record {
      starts = p.starts;
      loops = p.loops;
      from = p.from;
      room = omega (arith, p.room, c.write_closed.ensures.kept.size);
    }

pub write_closed-requires-2 : goal.write_closed-requires-2
write_closed-requires-2 c =
    let p = c.requires in
    let b = p.between in
    let y = c.write_between-end.ensures b.starts b.loops b.from in
    forward_asked b.from p.successors (omega (arith, b.room, c.write_closed.ensures.kept.size, y.kept.size)) _ y.pair
    (lowest_within y.lead_out)

pub returns : goal.returns
returns c =
    λ starts loops from.
    letters_written from refl c.write_closed.ensures (c.write_between-end.ensures starts loops from) c.write_closed-2.ensures
