-- `number` meets its contract: the fewest digits that hold the number are its text.
use Rattle.text.proofs.Decimals.{decimal_of, length_of}
use native.Mathlib.Omega.{arith}
use Rattle.text.proofs.inner.number.Goals as goal

pub put-requires : goal.put-requires
put-requires c =
    let d = c.decimal-k in
    let n = c.args.n in
    omega (arith, length_of d.result n d.ensures.len, d.ensures.in_bounds)

pub returns : goal.returns
returns c =
    let d = c.decimal-k in
    let n = c.args.n in
    rw (decimal_of d.result n d.ensures.len d.ensures.digits) at c.put.ensures
