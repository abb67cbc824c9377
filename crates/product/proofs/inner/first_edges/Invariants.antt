-- `first_edges` meets its contract. The edges of the pairs before that of u and v are set.
use Prim.Native.Nat.{◌+◌, ◌*◌}
use Rattle.product.proofs.Beginning.{FirstEdgesTo}
use Rattle.product.proofs.inner.first_edges.Given as goal

abbrev pub invariant-loop-u : goal.invariant-loop-u
invariant-loop-u l = FirstEdgesTo l.last (16 * l.u) l.edges

abbrev pub invariant-loop-v : goal.invariant-loop-v
invariant-loop-v l = FirstEdgesTo l.last (16 * l.u + l.v) l.edges
