-- The depth of a pair of states in a direction, and the square of all depths.
use Rattle.std.specs.Prelude.{ℕ, ◌≤◌, ◌<◌, ◌≡◌, List, [], length, get_or}
use Rattle.mealy.specs.Machine.{Machine}
use Rattle.mealy.specs.Product.{Direction, LevelOf, pairs}

-- the place of row u and column v
abbrev pub at : List (List ℕ) → ℕ → ℕ → ℕ
at d u v = get_or (get_or d u []) v 0

-- 16 rows of 16 columns
pub record Square {A : Type 0} (d : List (List A)) : Type 0 where
  pub rows : length d ≡ 16
  pub columns : (u : ℕ) → u < 16 → length (get_or d u []) ≡ 16

-- The depth of an endless pair: one that stands at every level.
abbrev pub endless : ℕ
endless = 255

-- The depth x of a pair, P k saying that it is in level k: the number of levels at which it stands, levels 0 to x − 1, or `endless`
-- if it stands at every level. Document 01 ("Looped pair", last sentence) marks how far equal outputs can go: a pair that stands at
-- level k has two runs of k letters with equal outputs, so the depth is one more than that count, and 0 for a pair that may not
-- start.
pub record Depth (P : ℕ → Type 0) (x : ℕ) : Type 0 where
  pub stands : (k : ℕ) → k < x → P k
  pub falls : x < endless → P x → ⊥
  pub always : x ≡ endless → (k : ℕ) → P k
  pub high : x ≤ endless

-- The square has each pair's depth; one that is not endless is at most N × (N + 1) / 2.
pub record Depths (M : Machine) (Start : ℕ → Type 0) (d : Direction) (square : List (List ℕ)) : Type 0 where
  pub shape : Square square
  pub depth : (u v : ℕ) → u < 16 → v < 16 → Depth (λ k. LevelOf M Start d k u v) (at square u v)
  pub finite : (u v : ℕ) → u < 16 → v < 16 → at square u v < endless → at square u v ≤ pairs M.states
