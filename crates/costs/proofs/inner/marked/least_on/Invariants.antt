-- `least_on` meets its contract: the least over the letters that are not in the rest.
use Prim.Native.Nat.{◌+◌, ◌*◌}
use mathlib.Core.Path.{◌≡◌}
use lib.ListN.{get_or}
use Rattle.first_pair.specs.Cost.{entry}
use Rattle.first_pair.proofs.Capping.{LeastPassed}
use Rattle.costs.proofs.inner.marked.least_on.Given as goal

abbrev pub invariant-loop-j : goal.invariant-loop-j
invariant-loop-j l = LeastPassed l.row l.j-iterator.rest (λ j n. entry l.t l.x (get_or l.c.next (16 * l.v + j) 0) ≡ n) l.cap l.least
