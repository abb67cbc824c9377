-- Least costs in a table, pair by pair, until none falls.
use Rattle.std.specs.Prelude.{ℕ, ◌+◌, ◌*◌, ◌≤◌, ◌<◌, ◌≡◌, Bool, true, false, List, get_or}
use Rattle.mealy.specs.Machine.{Machine}
use Rattle.mealy.specs.Word.{Has}
use Rattle.mealy.specs.Sum.{sum}
use Rattle.first_pair.specs.Reach.{Pairs}
use Rattle.first_pair.specs.Cost.{CostTable, Cost, LeastCosts, Seeds, entry, no_cost}
use Rattle.first_pair.specs.Successors.{PairWords, word_at, SuccessorsOf}

-- n is the cost of a pair (x, y), y in the row
pub record RowCost (t : List ℕ) (x row n : ℕ) : Type 0 where
  pub y : ℕ
  pub within : Has row y
  pub is : entry t x y ≡ n

-- n is the cost of a pair that follows the pair a, its first state below `states`
pub record NextCost (words t : List ℕ) (states a n : ℕ) : Type 0 where
  pub x : ℕ
  pub below : x < states
  pub row : RowCost t x (word_at words a x) n

-- what one pass asks
pub record PassAsked (words : List ℕ) (states step low : ℕ) (t : List ℕ) : Type 0 where
  pub shape : PairWords words
  pub few : states ≤ 16
  pub step_high : step ≤ no_cost
  pub low_high : low ≤ no_cost
  pub table : CostTable t
  pub low_least : (k : ℕ) → k < 256 → low ≤ get_or t k 0

-- every entry below `endless` is a cost of its pair
abbrev pub CostsIn : ℕ → (ℕ → Pairs) → List ℕ → Type 0
CostsIn n A t = (u v : ℕ) → u < n → v < n → entry t u v < no_cost → A (entry t u v) u v

-- What one pass does: each cost is as it was or lower, and is still a cost of its pair, whatever machine has these successors. Where none
-- fell, no pair costs more than a step and a pair that follows it; where one did, the sum of all costs fell.
pub record PassDone (words : List ℕ) (states step low : ℕ) (t t' : List ℕ) (fell : Bool) : Type 0 where
  pub table : CostTable t'
  pub low_least : (k : ℕ) → k < 256 → low ≤ get_or t' k 0
  pub costs :
      (M : Machine) (t₀ : List ℕ) → SuccessorsOf M words → M.states ≡ states → CostsIn states (Cost M step (Seeds t₀)) t →
      CostsIn states (Cost M step (Seeds t₀)) t'
  pub falls : (k : ℕ) → get_or t' k 0 ≤ get_or t k 0
  pub still : fell ≡ false → (a n : ℕ) → a < 16 * states → NextCost words t' states a n → get_or t' a 0 ≤ n + step
  pub less : fell ≡ true → sum 256 (λ k. get_or t' k 0) < sum 256 (λ k. get_or t k 0)

-- what lowering all costs asks
pub record LoweringAsked (words : List ℕ) (states step : ℕ) (t : List ℕ) : Type 0 where
  pub shape : PairWords words
  pub few : states ≤ 16
  pub step_high : step ≤ no_cost
  pub table : CostTable t

-- What it does, whatever machine has these successors: each pair has then its least cost over all walks that end at the costs of before.
abbrev pub LoweringDone : List ℕ → ℕ → ℕ → List ℕ → List ℕ → Type 0
LoweringDone words states step t t' =
    (M : Machine) → SuccessorsOf M words → M.states ≡ states → LeastCosts states (Cost M step (Seeds t)) t'
