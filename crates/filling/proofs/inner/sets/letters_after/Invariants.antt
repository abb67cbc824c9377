-- `letters_after` meets its contract. The walk along the row of o has come to place j.
use Rattle.filling.specs.Sets.{gather}
use Rattle.filling.proofs.Steps.{Walked}
use Rattle.filling.proofs.inner.sets.letters_after.Given as goal

abbrev pub invariant-loop-j : goal.invariant-loop-j
invariant-loop-j l = Walked l.rows.start l.rows.entries l.o (gather l.v l.here) 0 l.u l.j
