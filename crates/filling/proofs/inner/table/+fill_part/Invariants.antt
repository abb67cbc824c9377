-- The proof of the cycle of calls {fill_part}: the measure is `left`. A part with one letter left is filled by `fill_last`; a part with
-- more is filled letter by letter, each letter's part by a call with one letter less.
use Rattle.filling.proofs.Filling.{Filling}
use Rattle.filling.proofs.inner.table.+fill_part.Given as goal

abbrev pub decreases-fill_part : goal.decreases-fill_part
decreases-fill_part l = l.left

abbrev pub invariant-loop-o : goal.invariant-loop-o
invariant-loop-o l = Filling l.coder.next l.rows.start l.rows.entries l.coder.outputs l.v l.left l.present l.size l.after l.table l.o
