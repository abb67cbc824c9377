-- `Depths::row` meets its contract. The entries of the chain above the one numbered y are counted.
use Rattle.least.proofs.Counting.{RowAt}
use Rattle.least.proofs.inner.Depths.row.Given as goal

abbrev pub invariant-loop-y : goal.invariant-loop-y
invariant-loop-y l = RowAt l.self.coder.now l.conflicts l.self.back l.self.forward l.p l.fn.worst l.y l.worst

abbrev pub decreases-loop-y : goal.decreases-loop-y
decreases-loop-y l = l.y
