use mathlib.Core.Path.{◌≡◌, refl}
use Prim.Native.Nat.{◌*◌}
use Rattle.coder.proofs.Fill.{get_or_zeros}
use Rattle.mealy.proofs.StepWords.{steps_none}
use Rattle.cycles.proofs.Filling.{steps_pair, steps_filled}
use native.Mathlib.Omega.{arith}
use Rattle.cycles.proofs.inner.successors.fill.Goals as goal

pub loop-p-init : goal.loop-p-init
loop-p-init c = steps_none refl (get_or_zeros 4096)

pub loop-v-preserved : goal.loop-v-preserved
loop-v-preserved c =
    let k = c.args.c.now in
    let p = c.requires in
    rw c.from-x.ensures (steps_pair k.next k.output c.args.to.now (omega arith) (omega (arith, p.states_high)) (p.next_high _) c.loop-v.invariant c.given.ensures)

pub returns : goal.returns
returns c =
    let i = c.loop-p in
    let e : 16 * i.p ≡ 256 * c.args.c.now.states = omega arith in
    steps_filled c.requires.states_high c.requires.next_high (rw e at i.invariant)
