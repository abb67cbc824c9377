use native.Mathlib.Omega.{arith}
use Prim.Native.Nat.{◌<◌}
use Rattle.letters.proofs.Choosing.{none_yet, none_more, not_below, lowest_number}
use Rattle.letters.proofs.inner.lowest.Goals as goal

pub loop-k-init : goal.loop-k-init
loop-k-init c = none_yet

pub returns-then-edge_to : goal.returns-then-edge_to
returns-then-edge_to c =
    let high = c.requires.inputs_high in (
      lowest_number (λ i j e. omega (arith, e.below₂, high)) c.loop-k.invariant (c.edge_to.ensures.yes' c.if-edge_to.true),
      omega arith,
    )

pub loop-k-preserved : goal.loop-k-preserved
loop-k-preserved c = none_more c.loop-k.invariant (c.edge_to.ensures.no' c.if-edge_to.false)

pub returns : goal.returns
returns c =
    let asked = c.requires in
    let e = asked.some.edge in
    let j : asked.some.j < 16 = omega (arith, e.below₂, asked.inputs_high) in
    absurd (omega (arith, e.below₁, asked.inputs_high, not_below c.loop-k.invariant e j))
