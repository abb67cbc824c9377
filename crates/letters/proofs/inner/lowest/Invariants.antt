-- `lowest` meets its contract. Invariant: no letters with a number below k are on such an edge.
use Prim.Native.Nat.{◌/◌, ◌%◌}
use Rattle.letters.specs.Walk.{EdgeTo}
use Rattle.letters.proofs.Choosing.{NoneBelow}
use Rattle.letters.proofs.inner.lowest.Given as goal

abbrev pub invariant-loop-k : goal.invariant-loop-k
invariant-loop-k l = NoneBelow (EdgeTo l.c.next l.c.output l.c.inputs l.allowed l.t (l.a / 16) (l.a % 16) l.want) l.k
