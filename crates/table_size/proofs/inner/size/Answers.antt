use mathlib.Core.Path.{◌≡◌, sym, ap, ◌∙◌}
use Prim.Native.Nat.{◌+◌, ◌*◌, ◌^◌}
use native.Mathlib.Nat.{pow-zero, pow-suc, pow-le-pow_right}
use native.Mathlib.Numerals.{add-one}
use native.Mathlib.Omega.{arith}
use Rattle.table_size.proofs.inner.size.Goals as goal
use Rattle.table_size.proofs.inner.size.Goals.{In-loop}

pub loop-init : goal.loop-init
loop-init c = sym (pow-zero _)

-- the size with one letter more
one_more :
    (c : In-loop) →
    let a = c.args in c.loop.size * a.outputs ≡ a.outputs ^ (c.loop.counter + 1)
one_more c = rw (add-one, pow-suc, c.loop.invariant)

pub overflow_mul-size : goal.overflow_mul-size
overflow_mul-size c =
    let a = c.args in
    omega (
      arith,
      one_more c,
      pow-le-pow_right {n = a.outputs} c.requires.0 {i = c.loop.counter + 1} {j = a.n} (omega (arith, c.loop-test.true)),
    )

pub loop-preserved : goal.loop-preserved
loop-preserved c = one_more c

pub returns : goal.returns
returns c = c.loop.invariant ∙ ap (λ k. c.args.outputs ^ k) (omega arith)
