use Prim.Native.Nat.{◌*◌}
use lib.ListN.{take}
use Rattle.placing.proofs.Placing.{written_then}
use Rattle.pair_text.proofs.Spaced.{spaced_none, spaced_more, spaced_all, two_length, room_more}
use Rattle.pair_text.proofs.Lengths.{letters_length}
use native.Mathlib.Omega.{arith}
use Rattle.pair_text.proofs.inner.letters_line.Goals as goal

pub loop-i-init : goal.loop-i-init
loop-i-init c = spaced_none _ _

pub two-next-requires : goal.two-next-requires
two-next-requires c =
    let letters = c.args.letters.now in
    rw (c.from-x.ensures, c.from-y.ensures)
    (simp two_length (omega (
      arith,
      room_more letters c.loop-i.i c.args.n c.loop-i-test.true c.requires.0,
      letters_length (take (2 * c.args.n) letters),
      c.requires.1,
      c.put-next.ensures.end,
      c.loop-i.invariant.end,
    )))

pub loop-i-preserved : goal.loop-i-preserved
loop-i-preserved c =
    let two = rw (c.from-x.ensures, c.from-y.ensures) at c.two-next.ensures in
    spaced_more c.args.letters.now c.loop-i.i (omega (arith, c.requires.0, c.loop-i-test.true)) c.loop-i.invariant two

pub returns : goal.returns
returns c =
    let letters = c.args.letters.now in
    let all = spaced_all letters c.loop-i.i c.args.n c.loop-i.auto.i-end c.loop-i-test.false c.loop-i.invariant in
    written_then (written_then c.put-next.ensures all) c.put.ensures
