-- `along` meets its contract. Before round k every depth is right up to level k; a round that changes nothing is the last.
use Prim.Native.Nat.{suc, ◌≤◌, ◌-◌}
use mathlib.Core.Path.{◌≡◌}
use Rattle.coder.specs.Limits.{max_side}
use Rattle.mealy.specs.Product.{Direction, pairs}
use Rattle.product.specs.Entries.{near_ends, far_ends}
use Rattle.product.specs.Rounds.{Before}
use Rattle.product.proofs.inner.along.Given as goal

abbrev pub invariant-loop-chain : goal.invariant-loop-chain
invariant-loop-chain l =
    (l.k ≤ pairs l.c.states) ×
    ((w : Direction) → l.near ≡ near_ends w l.c → l.far ≡ far_ends w l.c → Before l.c w l.starts l.k l.d l.edges)

abbrev pub decreases-loop-chain : goal.decreases-loop-chain
decreases-loop-chain l = suc max_side - l.k
