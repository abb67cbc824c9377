-- The coder as the two tables that the code works on.
use Rattle.std.specs.Prelude.{◌≡◌, cond, ℕ, zero, suc, ◌*◌, ◌+◌, ◌/◌, ◌%◌, ◌<◌, ◌≤◌, List, [], ◌∷◌, length, get_or, ltb}
use Rattle.mealy.specs.Machine.{Machine}
use Rattle.coder.specs.Limits.{max_states, max_inputs, max_outputs, max_side, max_settle}
use Rattle.coder.specs.File.{states_of, inputs_of, outputs_of, entries_of, entry_of}
use Rattle.coder.specs.declared.inner.tables.Coder.{Coder}
use Rattle.coder.specs.declared.inner.tables.Limits.{Limits}

-- the list p 0, p 1, .. of n elements
unfoldable pub table : ℕ → (ℕ → ℕ) → List ℕ
table zero p = []
table (suc n) p = p 0 ∷ table n (λ k. p (suc k))

-- The limits, as the code has them.
abbrev pub limits_of : Limits
limits_of = record { states = max_states; inputs = max_inputs; outputs = max_outputs; side = max_side; settle = max_settle }

-- A table of entries: the entry of state s and letter x stands at 16 s + x, and the other places hold 0. Offset 0 has the next
-- states, offset 1 the output letters.
abbrev pub table_of : ℕ → ℕ → List ℕ → ℕ → List ℕ
table_of n i entries offset = table 256 (λ k. entry_of n i entries offset (k / 16) (k % 16))

-- what the code of a table asks
pub record Tabled (n i : ℕ) (entries : List ℕ) (offset : ℕ) : Type 0 where
  pub states_high : n ≤ max_states
  pub size : length entries ≡ 2 * (n * i)
  pub offset_low : offset < 2

-- The tables of counts and entries that no refusal applies to (document 01, "How to write each place", first line).
abbrev pub coder_of_entries : ℕ → ℕ → ℕ → List ℕ → Coder
coder_of_entries n i o entries =
    record { states = n; inputs = i; outputs = o; next = table_of n i entries 0; output = table_of n i entries 1 }

-- The coder of an accepted file.
unfoldable pub coder_of : List ℕ → Coder
coder_of f = coder_of_entries (states_of f) (inputs_of f) (outputs_of f) (entries_of f)

-- what a table holds for state s and letter i; 0 where it has no such place
unfoldable pub table_at : List ℕ → ℕ → ℕ → ℕ
table_at t s i = cond (ltb i 16) (get_or t (16 * s + i) 0) 0

-- The machine in two tables. For an accepted file it is the file's machine (`machine_same` of proofs/Tables.antt).
abbrev pub machine_in : ℕ → ℕ → List ℕ → List ℕ → Machine
machine_in n i next output = record { states = n; inputs = i; next = table_at next; out = table_at output }

abbrev pub machine_of_coder : Coder → Machine
machine_of_coder c = machine_in c.states c.inputs c.next c.output

-- What the tables of an accepted file keep to.
pub record Sound (c : Coder) : Type 0 where
  pub states_low : 1 ≤ c.states
  pub states_high : c.states ≤ max_states
  pub inputs_low : 1 ≤ c.inputs
  pub inputs_high : c.inputs ≤ max_inputs
  pub outputs_low : 1 ≤ c.outputs
  pub outputs_high : c.outputs ≤ max_outputs
  pub next_state : (s i : ℕ) → table_at c.next s i < c.states
  pub output_letter : (s i : ℕ) → table_at c.output s i < c.outputs
