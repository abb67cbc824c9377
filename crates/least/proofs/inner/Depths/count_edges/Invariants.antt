-- `Depths::count_edges` meets its contract. The edges of the entries before that of s and i are counted.
use Prim.Native.Nat.{◌+◌, ◌*◌}
use Rattle.least.proofs.Counting.{RowsTo}
use Rattle.least.proofs.inner.Depths.count_edges.Given as goal

abbrev pub invariant-loop-s : goal.invariant-loop-s
invariant-loop-s l = RowsTo l.self.coder.now l.conflicts l.self.back l.self.forward (16 * l.s) l.worst

abbrev pub invariant-loop-i : goal.invariant-loop-i
invariant-loop-i l = RowsTo l.self.coder.now l.conflicts l.self.back l.self.forward (16 * l.s + l.i) l.worst
