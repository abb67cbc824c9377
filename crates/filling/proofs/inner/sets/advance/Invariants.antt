-- `advance` meets its contract. The walk along the row of o has come to place j.
use mathlib.Core.Path.{◌≡◌}
use lib.ListN.{length}
use Rattle.filling.specs.Sets.{add}
use Rattle.filling.proofs.Steps.{Walked}
use Rattle.filling.proofs.inner.sets.advance.Given as goal

abbrev pub invariant-loop-j : goal.invariant-loop-j
invariant-loop-j l = (length l.to ≡ 16) × Walked l.rows.start l.rows.entries l.o (add l.next l.v l.here) l.initial.to l.to l.j
