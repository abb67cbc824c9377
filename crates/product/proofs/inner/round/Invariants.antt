-- `round` meets its contract. The pairs before that of u and v have had their round, the others not.
use Prim.Native.Nat.{ℕ, suc, ◌+◌, ◌*◌, ◌<◌}
use Rattle.mealy.specs.Product.{Direction}
use Rattle.product.specs.Depth.{endless}
use Rattle.product.specs.Entries.{ArraysOf}
use Rattle.product.specs.Rounds.{Before}
use Rattle.product.proofs.Rounds.{InRound}
use Rattle.product.proofs.inner.round.Given as goal

abbrev pub invariant-loop-u : goal.invariant-loop-u
invariant-loop-u l =
    (d : Direction) (starts : ℕ) → (arrays : ArraysOf l.c d l.chain l.far) → (low : suc l.k < endless) →
    Before l.c d starts l.k l.fn.d l.fn.edges → InRound l.c d starts arrays.sound l.k low (16 * l.u) l.d l.edges l.changed

abbrev pub invariant-loop-v : goal.invariant-loop-v
invariant-loop-v l =
    (d : Direction) (starts : ℕ) → (arrays : ArraysOf l.c d l.chain l.far) → (low : suc l.k < endless) →
    Before l.c d starts l.k l.fn.d l.fn.edges → InRound l.c d starts arrays.sound l.k low (16 * l.u + l.v) l.d l.edges l.changed
