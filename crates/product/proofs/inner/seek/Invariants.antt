-- `seek` meets its contract. No edge before the one of x and y leads to a pair that stands.
use Prim.Native.Nat.{ℕ, ◌≤◌, ◌+◌, ◌*◌}
use Rattle.mealy.specs.Product.{Direction}
use Rattle.product.specs.Entries.{ArraysOf}
use Rattle.product.specs.Rounds.{Above, Seeking}
use Rattle.product.proofs.inner.seek.Given as goal

abbrev pub invariant-loop-x : goal.invariant-loop-x
invariant-loop-x l =
    (l.x ≤ 256) × (l.y ≤ 256) ×
    ((d : Direction) (u : ℕ) → ArraysOf l.c d l.chain l.far →
    Seeking l.c d (Above l.d l.k) u l.v l.initial.x l.initial.y → Seeking l.c d (Above l.d l.k) u l.v l.x l.y)

abbrev pub decreases-loop-x : goal.decreases-loop-x
decreases-loop-x l = 257 * l.x + l.y
