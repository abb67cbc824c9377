-- The coder file: what refuses it, and what an accepted one says (document 01, "Coder file").
use Rattle.std.specs.Prelude.{ℕ, ◌+◌, ◌*◌, ◌-◌, Bool, not, ◌&&◌, cond, List, [], ◌∷◌, ◌++◌, length, get_or, drop, ltb, leb, eqb}
use Rattle.mealy.specs.Machine.{Machine}
use Rattle.mealy.specs.Setting.{Setting, from_reachable, after_letters}
use Rattle.coder.specs.Refusal.{refuse, all_below}
use Rattle.coder.specs.Limits.{max_states, max_inputs, max_outputs}
use Rattle.coder.specs.Alphabet.{letter_of, all_named}
use Rattle.coder.specs.BigEndian.{big_endian, from_big_endian}

-- Byte 0, bytes 1 and 2, bytes 3 to 5, and the bytes from byte 6 on.
abbrev pub version_of : List ℕ → ℕ
version_of f = get_or f 0 0

abbrev pub count_field : List ℕ → ℕ
count_field f = from_big_endian (get_or f 1 0 ∷ get_or f 2 0 ∷ [])

abbrev pub states_of : List ℕ → ℕ
states_of f = get_or f 3 0

abbrev pub inputs_of : List ℕ → ℕ
inputs_of f = get_or f 4 0

abbrev pub outputs_of : List ℕ → ℕ
outputs_of f = get_or f 5 0

abbrev pub entries_of : List ℕ → List ℕ
entries_of f = drop 6 f

-- The file of three counts and entry bytes. Reading is its inverse (proofs/Inverse.antt).
abbrev pub file_of : ℕ → ℕ → ℕ → List ℕ → List ℕ
file_of n i o entries = 1 ∷ big_endian 2 (3 + length entries) ++ (n ∷ i ∷ o ∷ entries)

-- 1 to max
unfoldable pub within : ℕ → ℕ → Bool
within x max = leb 1 x && leb x max

-- Refusal 4's test: N, I and O are within the limits.
unfoldable pub in_range : ℕ → ℕ → ℕ → Bool
in_range n i o = within n max_states && (within i max_inputs && within o max_outputs)

-- Refusal 6's test of entry j, counted over all states: its next state and its output letter.
unfoldable pub entry_in_range : ℕ → ℕ → List ℕ → ℕ → Bool
entry_in_range n o entries j = ltb (get_or entries (2 * j) 0) n && ltb (letter_of entries j) o

-- Refusals 4 to 6 and 15, of N, I, O and the entry bytes, in checking order: document 02, 7/13, has 15 directly after 6. Document 01 has
-- refusal 5 of the count field, which is to be 3 + 2 × N × I: past refusal 3 that field is the number of bytes after byte 2, so 3 more
-- than the number of entry bytes.
unfoldable pub entries_refusal : ℕ → ℕ → ℕ → List ℕ → ℕ
entries_refusal n i o entries =
    refuse (not (in_range n i o)) 4
    (refuse (not (eqb (length entries) (2 * (n * i)))) 5
    (refuse (not (all_below (n * i) (entry_in_range n o entries))) 6
    (refuse (not (all_named o (n * i) entries)) 15
    0)))

-- Refusals 1 to 6 and 15: the list as far as it concerns the coder file. A file is accepted where this is 0.
unfoldable pub file_refusal : List ℕ → ℕ
file_refusal f =
    refuse (ltb (length f) 6) 1
    (refuse (not (eqb (version_of f) 1)) 2
    (refuse (not (eqb (count_field f) (length f - 3))) 3
    (entries_refusal (states_of f) (inputs_of f) (outputs_of f) (entries_of f))))

-- A byte of the entry of state s and input letter x, of N states and I input letters. The entries of one state stand together, in the order
-- of the input letters: offset 0 has the next state, offset 1 the output letter. 0 where there is no such entry.
unfoldable pub entry_of : ℕ → ℕ → List ℕ → ℕ → ℕ → ℕ → ℕ
entry_of n i entries offset s x = cond (ltb s n && ltb x i) (get_or entries (2 * (i * s + x) + offset) 0) 0

-- The Mealy machine of N states, I input letters and their entries.
abbrev pub machine_of_entries : ℕ → ℕ → List ℕ → Machine
machine_of_entries n i entries =
    record { states = n; inputs = i; next = entry_of n i entries 0; out = entry_of n i entries 1 }

-- The Mealy machine of an accepted file.
unfoldable pub machine_of : List ℕ → Machine
machine_of f = machine_of_entries (states_of f) (inputs_of f) (entries_of f)

-- The setting of its looped pairs: a run may start in any reachable state (document 02, 5/13), and different letters are to be told apart.
abbrev pub setting_of : List ℕ → Setting
setting_of f = from_reachable (machine_of f)

-- The setting of its windows with settle count p: a run of the window starts where p letters lead from a reachable state (6/13).
abbrev pub setting_after : List ℕ → ℕ → Setting
setting_after f p = after_letters (machine_of f) p
