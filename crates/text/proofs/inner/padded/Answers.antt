-- `padded` meets its contract: what the number's digits leave of the width is filled.
use mathlib.Core.Path.{◌≡◌}
use Prim.Native.Nat.{◌+◌, ◌-◌}
use lib.ListN.{length}
use Rattle.text.specs.Decimal.{decimal}
use Rattle.text.proofs.Decimals.{decimal_of, length_of}
use Rattle.placing.proofs.Placing.{written_then, fill_all, fill_end}
use native.Mathlib.Omega.{arith}
use Rattle.text.proofs.inner.padded.Goals as goal

pub overflow_sub-at : goal.overflow_sub-at
overflow_sub-at c =
    let d = c.decimal-k in
    omega (arith, length_of d.result c.args.n d.ensures.len, c.requires.0)

pub put-requires : goal.put-requires
put-requires c =
    let a = c.args in
    let d = c.decimal-k in
    omega (
      arith,
      length_of d.result a.n d.ensures.len,
      d.ensures.in_bounds,
      c.requires,
      c.fill-first.auto.out,
      fill_end a.pad (a.at + a.width - d.result - a.at) c.fill-first.ensures,
    )

pub returns : goal.returns
returns c =
    let a = c.args in
    let d = c.decimal-k in
    let e : a.at + a.width - d.result - a.at ≡ a.width - length (decimal a.n) = omega (arith, length_of d.result a.n d.ensures.len, c.requires) in
    written_then (fill_all a.pad _ _ e c.fill-first.ensures) (rw (decimal_of d.result a.n d.ensures.len d.ensures.digits) at c.put.ensures)
