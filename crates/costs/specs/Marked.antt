-- The cost of a conflicting edge and what follows it, for each pair.
use Rattle.std.specs.Prelude.{ℕ, ◌+◌, ◌*◌, ◌≤◌, ◌<◌, ◌≡◌, true, false, List, get_or}
use Rattle.mealy.specs.Word.{Has}
use Rattle.mealy.specs.Setting.{worded}
use Rattle.coder.specs.Table.{machine_of_coder, Sound}
use Rattle.coder.specs.declared.inner.tables.Coder.{Coder}
use Rattle.chains.specs.Parts.{place_parts}
use Rattle.fitting.specs.Tables.{ByOutput}
use Rattle.first_pair.specs.Cost.{LeastCosts, Tail, Marked, entry}

-- n is the cost of the pair (x, y), y the next state of v on a letter of the row
pub record OnLetters (next t : List ℕ) (x v row n : ℕ) : Type 0 where
  pub j : ℕ
  pub within : Has row j
  pub is : entry t x (get_or next (16 * v + j) 0) ≡ n

-- n is the cost of the pair that a conflicting edge of (u, v) leads to; word 16 o + v of `letters` has the letters of the entries of v with
-- output letter o
pub record OnConflict (next output letters conflicts t : List ℕ) (inputs u v n : ℕ) : Type 0 where
  pub i : ℕ
  pub below : i < inputs
  pub j : ℕ
  pub letter : Has (get_or letters (16 * get_or output (16 * u + i) 0 + v) 0) j
  pub conflict : Has (get_or conflicts i 0) j
  pub is : entry t (get_or next (16 * u + i) 0) (get_or next (16 * v + j) 0) ≡ n

-- what the tables are to be
pub record EdgesAsked (next output : List ℕ) (inputs : ℕ) : Type 0 where
  pub inputs_high : inputs ≤ 16
  pub next_high : (p : ℕ) → get_or next p 0 < 16
  pub output_high : (p : ℕ) → get_or output p 0 < 64

-- what is asked for the whole table: the letters by output letter are those of the coder
pub record MarkedAsked (c : Coder) (letters : List ℕ) : Type 0 where
  pub sound : Sound c
  pub letters_are : ByOutput (place_parts false) (place_parts true) c.output c.states c.inputs letters

-- from the least costs of what follows, those of a conflicting letter and what follows it, whatever the start states
abbrev pub MarkedDone : Coder → List ℕ → List ℕ → List ℕ → Type 0
MarkedDone c conflicts t r =
    (starts : ℕ) → LeastCosts c.states (Tail (machine_of_coder c)) t →
    LeastCosts c.states (Marked (worded (machine_of_coder c) starts conflicts)) r
