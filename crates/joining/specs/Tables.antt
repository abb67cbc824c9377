-- Two coders in a row as tables: what the code of the entries asks and gives.
use Rattle.std.specs.Prelude.{ℕ, ◌+◌, ◌*◌, ◌≤◌, ◌<◌, ◌≡◌, List, take}
use Rattle.mealy.specs.Machine.{Machine}
use Rattle.joined.specs.Joined.{joined}
use Rattle.coder.specs.Limits.{max_states, max_inputs}
use Rattle.coder.specs.Table.{table_at, machine_of_coder, Sound}
use Rattle.coder.specs.declared.inner.tables.Coder.{Coder}
use Rattle.joining.specs.declared.inner.EntryBytes.{EntryBytes}
use Rattle.joining.specs.declared.inner.Place.{Place}
use Rattle.joining.specs.EntryBytes.{entry_bytes_of}

-- The entry of two coders in a row as tables, of state s of the first, state t of the second and input letter x; the second has n states.
abbrev pub joined_entry : List ℕ → List ℕ → List ℕ → List ℕ → ℕ → ℕ → ℕ → ℕ → EntryBytes
joined_entry next₁ output₁ next₂ output₂ n s t x =
    let y = table_at output₁ s x in record { next = table_at next₁ s x * n + table_at next₂ t y; output = table_at output₂ t y }

-- what its code asks: states and letter are small; so is what the first puts out, as a letter of the second, and each joined state
pub record EntryAsked (next₁ output₁ next₂ : List ℕ) (n s t x : ℕ) : Type 0 where
  pub first : s < max_states
  pub second : t < max_states
  pub letter : x < max_inputs
  pub letters : (s i : ℕ) → table_at output₁ s i < max_inputs
  pub next_state : (s i t y : ℕ) → table_at next₁ s i * n + table_at next₂ t y < max_states

-- Entry j stands at these states and this letter, where the second coder has n states and there are i input letters.
pub record StandsAt (n i j : ℕ) (p : Place) : Type 0 where
  pub place : j ≡ (p.first * n + p.second) * i + p.letter
  pub second : p.second < n
  pub letter : p.letter < i

-- the place of the entry after it
abbrev pub NextPlace : ℕ → ℕ → Place → Place → Type 0
NextPlace n i p r = (j : ℕ) → StandsAt n i j p → StandsAt n i (j + 1) r

-- what is asked of a place, so that there is one after it
pub record PlaceAsked (p : Place) : Type 0 where
  pub first : p.first < max_states
  pub second : p.second < max_states
  pub letter : p.letter < max_inputs

-- two coders that can be put in a row
pub record CodersMatch (c d : Coder) : Type 0 where
  pub sound₁ : Sound c
  pub sound₂ : Sound d
  pub letters : c.outputs ≡ d.inputs
  pub states : c.states * d.states ≤ max_states

-- their joined machine
abbrev pub joined_coders : Coder → Coder → Machine
joined_coders c d = joined (machine_of_coder c) (machine_of_coder d)

-- its entry bytes are the first ones
abbrev pub EntriesFirst : Coder → Coder → List ℕ → Type 0
EntriesFirst c d bytes = take (2 * (c.states * d.states * c.inputs)) bytes ≡ entry_bytes_of (joined_coders c d)
