-- `rows_by_key` meets its contract. The rows of the keys below k are laid out; inside, the walk along the chain of k has come to the
-- entry with number q.
use mathlib.Core.Path.{◌≡◌}
use Prim.Native.Nat.{◌*◌}
use lib.ListN.{get_or}
use Rattle.chains.proofs.Rows.{RowedBelow, Walking}
use Rattle.chains.proofs.inner.rows_by_key.Given as goal

abbrev pub invariant-loop-q : goal.invariant-loop-q
invariant-loop-q l = Walking l.keys l.states l.inputs l.k l.q l.n l.start l.entries

abbrev pub decreases-loop-q : goal.decreases-loop-q
decreases-loop-q l = l.q

abbrev pub invariant-loop-k : goal.invariant-loop-k
invariant-loop-k l = RowedBelow l.keys l.states l.inputs l.k (256 * l.k) l.n l.start l.entries × (get_or l.start l.k 0 ≡ l.n)
