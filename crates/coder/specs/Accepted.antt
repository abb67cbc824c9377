-- An accepted coder in plain words, with no number of refusal: its counts are within the limits, and it has an entry for each state and input
-- letter, in range (document 01, "Coders and runs", the paragraph on limits), whose output letters are the whole alphabet (document 02,
-- 7/13). Refusals 4 to 6 and 15 pass these counts and entries and no others: `entries_accepted`, `coder_accepted` of proofs/Accepted.antt.
use Rattle.std.specs.Prelude.{ℕ, ◌*◌, ◌≤◌, ◌<◌, ◌≡◌, List, length, get_or}
use Rattle.coder.specs.Limits.{max_states, max_inputs, max_outputs}
use Rattle.coder.specs.Alphabet.{letter_of, NamesAlphabet}
use Rattle.coder.specs.File.{machine_of_entries}

pub record InLimits (n i o : ℕ) : Type 0 where
  pub states_low : 1 ≤ n
  pub states_high : n ≤ max_states
  pub inputs_low : 1 ≤ i
  pub inputs_high : i ≤ max_inputs
  pub outputs_low : 1 ≤ o
  pub outputs_high : o ≤ max_outputs

pub record IsCoder (n i o : ℕ) (entries : List ℕ) : Type 0 where
  pub limits : InLimits n i o
  pub size : length entries ≡ 2 * (n * i)
  pub next_state : (j : ℕ) → j < n * i → get_or entries (2 * j) 0 < n
  pub output_letter : (j : ℕ) → j < n * i → letter_of entries j < o
  pub alphabet : NamesAlphabet (machine_of_entries n i entries) o
