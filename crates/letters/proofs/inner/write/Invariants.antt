-- `write` meets its contract. Invariant: k letters are written, the lowest ones, and the walk can go on.
use Prim.Native.Nat.{◌-◌}
use Rattle.coder.specs.declared.inner.tables.Coder.{Coder}
use Rattle.letters.specs.Walk.{CoderArrays, WriteFrom, StaysOutside}
use Rattle.letters.proofs.Steps.{WalkSoFar}
use Rattle.letters.proofs.inner.write.Given as goal

abbrev pub invariant-loop-k : goal.invariant-loop-k
invariant-loop-k l =
    StaysOutside l.place l.k l.initial.letters l.letters ×
    ((d : Coder) → CoderArrays d l.c.next l.c.output l.c.inputs → WriteFrom d l.costs.table.now l.costs.step l.costs.base l.from l.n →
    WalkSoFar d l.costs.table.now l.costs.step l.costs.base l.from l.n l.place l.k (l.n - l.k) l.a l.letters)
