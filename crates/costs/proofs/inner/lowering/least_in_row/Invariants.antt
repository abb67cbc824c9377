-- `least_in_row` meets its contract: the least over the members of the row that are not in the rest.
use mathlib.Core.Path.{◌≡◌}
use Rattle.first_pair.specs.Cost.{entry}
use Rattle.first_pair.proofs.Capping.{LeastPassed}
use Rattle.costs.proofs.inner.lowering.least_in_row.Given as goal

abbrev pub invariant-loop-y : goal.invariant-loop-y
invariant-loop-y l = LeastPassed l.row l.y-iterator.rest (λ y n. entry l.t l.x y ≡ n) l.cap l.least
