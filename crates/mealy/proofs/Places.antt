-- The pairs of states that two runs pass, place by place.
use Prim.Native.Nat.{ℕ, suc, ◌<◌}
use Rattle.mealy.specs.Machine.{Machine}
use Rattle.mealy.specs.Product.{Edge}
use Rattle.mealy.specs.LoopedPair.{LoopedPair, Run, first, second, letter_at}

-- σ r k is the state of run r before place k; at each of the first n places there is an edge
abbrev pub Edges : Machine → LoopedPair → (Run → ℕ → ℕ) → ℕ → Type 0
Edges M p σ n = (k : ℕ) → k < n → Edge M (σ first k) (σ second k) (letter_at p first k) (letter_at p second k) (σ first (suc k)) (σ second (suc k))
