-- The lowest letters along a table of costs.
use Rattle.std.specs.Prelude.{ℕ, suc, ◌+◌, ◌*◌, ◌/◌, ◌%◌, ◌≤◌, ◌<◌, ◌≡◌, List, length, get_or}
use lib.ListN.{set}
use Rattle.mealy.specs.Word.{Has}
use Rattle.coder.specs.Table.{machine_of_coder, Sound}
use Rattle.coder.specs.declared.inner.tables.Coder.{Coder}
use Rattle.first_pair.specs.Reach.{Pairs, Into}
use Rattle.first_pair.specs.Lowest.{Lowest, bytes_at}
pub use Rattle.first_pair.specs.Cost.{CostOf}
use Rattle.first_pair.specs.Cost.{entry, no_cost, letter_cost, too_long}

-- The letters i and j are on an edge from (u, v) to a pair whose cost is `want`, and j is in word i of `allowed`.
pub record EdgeTo (next output : List ℕ) (inputs : ℕ) (allowed t : List ℕ) (u v want i j : ℕ) : Type 0 where
  pub below₁ : i < inputs
  pub below₂ : j < inputs
  pub same : get_or output (16 * u + i) 0 ≡ get_or output (16 * v + j) 0
  pub within : Has (get_or allowed i 0) j
  pub cost : entry t (get_or next (16 * u + i) 0) (get_or next (16 * v + j) 0) ≡ want

-- there are such letters
pub record SomeEdgeTo (next output : List ℕ) (inputs : ℕ) (allowed t : List ℕ) (u v want : ℕ) : Type 0 where
  pub i : ℕ
  pub j : ℕ
  pub edge : EdgeTo next output inputs allowed t u v want i j

-- what finding the lowest asks
pub record LowestAsked (next output : List ℕ) (inputs : ℕ) (allowed t : List ℕ) (a want : ℕ) : Type 0 where
  pub pair : a < 256
  pub inputs_high : inputs ≤ 16
  pub next_high : (p : ℕ) → get_or next p 0 < 16
  pub some : SomeEdgeTo next output inputs allowed t (a / 16) (a % 16) want

-- r is the pair to which the letters 16 i + j lead from the pair a
abbrev pub AfterLetters : List ℕ → ℕ → ℕ → ℕ → Type 0
AfterLetters next a letters r =
    r ≡ 16 * get_or next (16 * (a / 16) + letters / 16) 0 + get_or next (16 * (a % 16) + letters % 16) 0

-- the letters i and j at a place
abbrev pub with_letters : List ℕ → ℕ → ℕ → ℕ → List ℕ
with_letters bytes at i j = set (set bytes (2 * at) i) (2 * at + 1) j

-- the arrays are those of the coder c
pub record CoderArrays (c : Coder) (next output : List ℕ) (inputs : ℕ) : Type 0 where
  pub sound : Sound c
  pub next_is : next ≡ c.next
  pub output_is : output ≡ c.output
  pub inputs_is : inputs ≡ c.inputs

-- the pair a is one of states of c
abbrev pub StatePair : Coder → ℕ → Type 0
StatePair c a = (a / 16 < c.states) × (a % 16 < c.states)

-- some edge leads from (u, v) into P
pub record SomeInto (c : Coder) (P : Pairs) (u v : ℕ) : Type 0 where
  pub i : ℕ
  pub j : ℕ
  pub into : Into (machine_of_coder c) P u v i j

-- What writing n letters asks: where none is written the pair costs `base`; else an edge leads from it to a pair that costs one letter less
-- than n, and from a pair that costs k + 1 letters one to a pair that costs k.
pub record WriteFrom (c : Coder) (t : List ℕ) (step base from n : ℕ) : Type 0 where
  pub pair : StatePair c from
  pub none : n ≡ 0 → CostOf t step base 0 (from / 16) (from % 16)
  pub first : (k : ℕ) → n ≡ suc k → SomeInto c (CostOf t step base k) (from / 16) (from % 16)
  pub on :
      (k u v : ℕ) → u < c.states → v < c.states → suc k < n → CostOf t step base (suc k) u v → SomeInto c (CostOf t step base k) u v

pub record WriteAsked (next output : List ℕ) (inputs : ℕ) (t : List ℕ) (step base from n place : ℕ) (before : List ℕ) : Type 0 where
  pub c : Coder
  pub arrays : CoderArrays c next output inputs
  pub walk : WriteFrom c t step base from n
  pub step_high : step ≤ 2 * letter_cost
  pub base_high : base ≤ no_cost
  pub letters_high : n ≤ too_long
  pub place_high : place ≤ too_long
  pub room : 2 * (place + n) ≤ length before

-- the bytes of n letters from `place` on are written, and no others
pub record StaysOutside (place n : ℕ) (before after : List ℕ) : Type 0 where
  pub size : length after ≡ length before
  pub earlier : (p : ℕ) → p < 2 * place → get_or after p 0 ≡ get_or before p 0
  pub later : (p : ℕ) → 2 * (place + n) ≤ p → get_or after p 0 ≡ get_or before p 0

-- The lowest letters stand from `place` on, two bytes each, and lead to the pair r; the other bytes stay.
pub record Wrote (c : Coder) (t : List ℕ) (step base from n place : ℕ) (before after : List ℕ) (r : ℕ) : Type 0 where
  pub lowest : Lowest (machine_of_coder c) (CostOf t step base) n (from / 16) (from % 16) (bytes_at after place n) (r / 16) (r % 16)
  pub pair : StatePair c r
  pub inside : r < 256
  pub kept : StaysOutside place n before after

-- for every coder whose arrays these are
abbrev pub WriteDone : List ℕ → List ℕ → ℕ → List ℕ → ℕ → ℕ → ℕ → ℕ → ℕ → List ℕ → List ℕ → ℕ → Type 0
WriteDone next output inputs t step base from n place before after r =
    (c : Coder) → CoderArrays c next output inputs → WriteFrom c t step base from n → Wrote c t step base from n place before after r
