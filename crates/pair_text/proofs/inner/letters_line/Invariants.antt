-- `letters_line` meets its contract: before the turn with i the first i letters are written, two bytes each.
use Prim.Native.Nat.{◌*◌}
use lib.ListN.{take}
use Rattle.placing.specs.Placed.{Placed}
use Rattle.pair_text.specs.Lines.{spaced}
use Rattle.pair_text.proofs.inner.letters_line.Given as goal

abbrev pub invariant-loop-i : goal.invariant-loop-i
invariant-loop-i l = Placed l.initial.out l.initial.next (spaced (take (2 * l.i) l.letters)) l.out l.next
