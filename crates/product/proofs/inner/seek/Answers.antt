use Rattle.product.proofs.Seeking.{first_less, second_less, last_high, row_step, far_first, far_second, passed, taken}
use Rattle.coder.proofs.Refusals.{via}
use mathlib.Core.Path.{ap}
use Prim.Native.Nat.{◌-◌}
use native.Mathlib.Omega.{arith}
use Rattle.product.proofs.inner.seek.Goals as goal

pub loop-x-smaller-then-y-eq0 : goal.loop-x-smaller-then-y-eq0
loop-x-smaller-then-y-eq0 c =
    let a = c.requires.arrays in
    let s = c.loop-x.invariant.2 _ _ a c.requires.seeking in
    omega (arith, first_less a s c.loop-x-test.true (ap (λ z. z - 1) c.from.ensures), last_high a s)

pub loop-x-preserved-then-y-eq0 : goal.loop-x-preserved-then-y-eq0
loop-x-preserved-then-y-eq0 c =
    let a = c.requires.arrays in
    let s = c.loop-x.invariant.2 _ _ a c.requires.seeking in (
      omega (arith, first_less a s c.loop-x-test.true (ap (λ z. z - 1) c.from.ensures)),
      last_high a s,
      λ d u a t. row_step a (c.loop-x.invariant.2 d u a t) c.loop-x-test.true c.if-y-eq0.true (ap (λ z. z - 1) c.from.ensures),
    )

pub stands-requires : goal.stands-requires
stands-requires c =
    let a = c.requires.arrays in
    let s = c.loop-x.invariant.2 _ _ a c.requires.seeking in
    (omega arith, omega arith, far_first a s (omega arith) (ap (λ z. z - 1) c.from-p.ensures), far_second a s (omega arith) (ap (λ z. z - 1) c.from-q.ensures))

pub returns-then-stands : goal.returns-then-stands
returns-then-stands c = λ d u a t.
    taken a c.args.d.now c.args.k (c.loop-x.invariant.2 d u a t) (omega arith) (omega arith) (ap (λ z. z - 1) c.from-p.ensures) (ap (λ z. z - 1) c.from-q.ensures)
    (via c.stands.ensures c.if-stands.true)

pub loop-x-smaller : goal.loop-x-smaller
loop-x-smaller c = omega (arith, second_less c.requires.arrays (c.loop-x.invariant.2 _ _ c.requires.arrays c.requires.seeking) (omega arith) (ap (λ z. z - 1) c.from-q.ensures))

pub loop-x-preserved : goal.loop-x-preserved
loop-x-preserved c = (
  c.loop-x.invariant.0,
  omega (arith, second_less c.requires.arrays (c.loop-x.invariant.2 _ _ c.requires.arrays c.requires.seeking) (omega arith) (ap (λ z. z - 1) c.from-q.ensures)),
  λ d u a t.
      passed a c.args.d.now c.args.k (c.loop-x.invariant.2 d u a t) (omega arith) (omega arith) (ap (λ z. z - 1) c.from-p.ensures) (ap (λ z. z - 1) c.from-q.ensures)
      (via c.stands.ensures c.if-stands.false),
)
