-- `put` meets its contract: before the turn with i the first i bytes are written.
use Prim.Native.Nat.{◌+◌}
use lib.ListN.{take}
use Rattle.placing.specs.Placed.{Placed}
use Rattle.placing.proofs.inner.put.Given as goal

abbrev pub invariant-loop-i : goal.invariant-loop-i
invariant-loop-i l = Placed l.initial.out l.at (take l.i l.bytes) l.out (l.at + l.i)
