-- `contribution` meets its contract: an empty set, the present place, another place.
use borrow.Author.Tests.{ne_eqb}
use native.Mathlib.Omega.{arith}
use Rattle.coder.proofs.Refusals.{tests}
use Rattle.filling.specs.Sets.{contribution}
use Rattle.mealy.proofs.Words.{shifted}
use Rattle.filling.proofs.inner.sets.contribution.Goals as goal

pub returns-then-u-eq-EMPTY : goal.returns-then-u-eq-EMPTY
unfolding contribution
returns-then-u-eq-EMPTY c = search tests

pub returns-then-here : goal.returns-then-here
unfolding contribution
returns-then-here c = rw (ne_eqb _ 0 c.if-u-eq-EMPTY.false, c.if-here.true) (shifted 16 _ (omega arith))

pub returns-else-here : goal.returns-else-here
unfolding contribution
returns-else-here c = rw (ne_eqb _ 0 c.if-u-eq-EMPTY.false, c.if-here.false)
