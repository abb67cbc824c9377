-- `start_square` meets its contract. The pairs before that of u and v are set, the others are 0.
use Prim.Native.Nat.{◌+◌, ◌*◌}
use Rattle.product.specs.Rounds.{BothStart}
use Rattle.product.proofs.Beginning.{FilledTo}
use Rattle.product.proofs.inner.start_square.Given as goal

abbrev pub invariant-loop-u : goal.invariant-loop-u
invariant-loop-u l = FilledTo (BothStart l.states l.starts) (16 * l.u) l.d

abbrev pub invariant-loop-v : goal.invariant-loop-v
invariant-loop-v l = FilledTo (BothStart l.states l.starts) (16 * l.u + l.v) l.d
