use mathlib.Core.Path.{refl}
use Rattle.product.proofs.Rounds.{round_at, round_fallen, seeking_here, round_stands, round_falls, round_end}
use native.Mathlib.Omega.{arith}
use Rattle.product.proofs.inner.round.Goals as goal
use Rattle.product.proofs.inner.round.Goals.{then-d-u+in-Some, then-d-u+in-None, else-d-u}

pub loop-v-init : goal.loop-v-init
loop-v-init c = λ d starts arrays low b. round_at _ _ _ _ _ _ (omega arith) (c.loop-u.invariant d starts arrays low b)

pub seek-requires : goal.seek-requires
seek-requires c =
    let p = c.requires in
    let h = p.arrays.sound.states_high in
    record {
      d = p.d;
      u = c.loop-u.u;
      arrays = p.arrays;
      seeking =
          seeking_here _ _ _ _ _ p.level (c.loop-v.invariant _ _ p.arrays p.level p.before) (omega arith) (omega arith) c.if-d-u.true refl;
    }

pub loop-v-preserved : goal.loop-v-preserved
loop-v-preserved c = λ d starts arrays low b.
    let h = arrays.sound.states_high in
    let r = c.loop-v.invariant d starts arrays low b in
    elim c.if-d-u.branch [
      | then-d-u+in-Some w ↦
          rw (w.d-is, w.edges-is, w.changed-is)
          (round_stands _ _ _ _ _ low r (omega arith) (omega arith) w.if-d-u.true (w.in-Some.ensures d c.loop-u.u arrays
          (seeking_here _ _ _ _ _ low r (omega arith) (omega arith) w.if-d-u.true refl)))
      | then-d-u+in-None w ↦
          rw (w.d-is, w.edges-is, w.changed-is)
          (round_falls _ _ _ _ _ low r (omega arith) (omega arith) w.if-d-u.true (w.in-None.ensures d c.loop-u.u arrays
          (seeking_here _ _ _ _ _ low r (omega arith) (omega arith) w.if-d-u.true refl)))
      | else-d-u w ↦
          rw (w.d-is, w.edges-is, w.changed-is)
          (round_fallen _ _ _ _ _ low r (omega arith) (omega arith) w.if-d-u.false)
    ]

pub loop-u-preserved : goal.loop-u-preserved
loop-u-preserved c = λ d starts arrays low b. round_at _ _ _ _ _ _ (omega arith) (c.loop-v.invariant d starts arrays low b)

pub returns : goal.returns
returns c = λ d starts arrays b.
    let low = c.requires.level in
    round_end _ _ _ _ _ low (c.loop-u.invariant d starts arrays low b) (omega arith)
