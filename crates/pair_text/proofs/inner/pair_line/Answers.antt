-- `pair_line` meets its contract.
use mathlib.Core.List.{[]}
use Rattle.values.specs.Pair.{pair_of}
use Rattle.placing.proofs.Placing.{written_then}
use Rattle.pair_text.proofs.Spaced.{two_length, spaced_then}
use Rattle.pair_text.proofs.Lengths.{pair_length}
use native.Mathlib.Omega.{arith}
use Rattle.pair_text.proofs.inner.pair_line.Goals as goal

pub put-a-requires : goal.put-a-requires
put-a-requires c =
    grind (arith, two_length, pair_length (pair_of c.args.p []))

pub two-b-requires : goal.two-b-requires
two-b-requires c =
    grind (arith, two_length, pair_length (pair_of c.args.p []))

pub two-c-requires : goal.two-c-requires
two-c-requires c =
    grind (arith, two_length, pair_length (pair_of c.args.p []))

pub two-d-requires : goal.two-d-requires
two-d-requires c =
    grind (arith, two_length, pair_length (pair_of c.args.p []))

pub put-requires : goal.put-requires
put-requires c =
    grind (arith, two_length, pair_length (pair_of c.args.p []))

pub returns : goal.returns
returns c =
    let six = spaced_then _ _ (spaced_then _ _ c.two-b.ensures c.two-c.ensures) c.two-d.ensures in
    written_then (written_then c.put-a.ensures six) c.put.ensures
