-- The call that joins two coders in a row (document 02, 11/13): its refusal, the file of the joined coder, its result and what it leaves in
-- the lent buffer.
use Rattle.std.specs.Prelude.{ℕ, ◌*◌, ◌≤◌, ◌≡◌, Bool, true, not, ◌&&◌, List, length, leb, eqb, Result}
use Rattle.joined.specs.Joined.{joined}
use Rattle.coder.specs.Refusal.{refuse, first}
use Rattle.coder.specs.Limits.{max_states}
use Rattle.coder.specs.File.{states_of, inputs_of, outputs_of, file_of, file_refusal, machine_of}
use Rattle.coder.specs.declared.refusal.Refusal.{Refusal}
use Rattle.writer.specs.Write.{FilePromise}
use Rattle.joining.specs.EntryBytes.{entry_bytes_of}

-- What 17 asks: the first O is the second I, and the product of the two N is at most 16.
abbrev pub matching : List ℕ → List ℕ → Bool
matching f g = eqb (outputs_of f) (inputs_of g) && leb (states_of f * states_of g) max_states

-- The refusal, in checking order: all numbers of the first file, then of the second, then 17, then 11 (some lent buffer is too short).
-- Whether all lent buffers are long enough is an argument, since a call may lend more than one.
unfoldable pub join_refusal : List ℕ → List ℕ → Bool → ℕ
join_refusal f g fits =
    first (file_refusal f)
    (first (file_refusal g)
    (refuse (not (matching f g)) 17
    (refuse (not fits) 11
    0)))

-- The file of the joined coder: N is the product of the two, I the first one's, O the second one's; its entries are those of the joined
-- machine.
unfoldable pub joined_entries : List ℕ → List ℕ → List ℕ
joined_entries f g = entry_bytes_of (joined (machine_of f) (machine_of g))

abbrev pub joined_file : List ℕ → List ℕ → List ℕ
joined_file f g = file_of (states_of f * states_of g) (inputs_of f) (outputs_of g) (joined_entries f g)

-- The file is written into a buffer of so many bytes; `others` says whether the other lent buffers are long enough.
abbrev pub join_refusal_in : List ℕ → List ℕ → ℕ → Bool → ℕ
join_refusal_in f g room others = join_refusal f g (leb (length (joined_file f g)) room && others)

-- The call's promise: the first refusal that applies and the buffer as it was; or the number of bytes, and the joined file with the
-- buffer's old bytes after it. `others` says whether the other lent buffers are long enough.
abbrev pub JoinWith : List ℕ → List ℕ → List ℕ → Bool → Result ℕ Refusal → List ℕ → Type 0
JoinWith f g before others r after = FilePromise (join_refusal_in f g (length before) others) (joined_file f g) before r after

-- The library's own call lends no other buffer.
abbrev pub JoinPromise : List ℕ → List ℕ → List ℕ → Result ℕ Refusal → List ℕ → Type 0
JoinPromise f g before r after = JoinWith f g before true r after

-- two accepted files that can be put in a row
pub record Matching (f g : List ℕ) : Type 0 where
  pub first : file_refusal f ≡ 0
  pub second : file_refusal g ≡ 0
  pub letters : outputs_of f ≡ inputs_of g
  pub states : states_of f * states_of g ≤ max_states

-- what the checked part asks: no refusal applies to the files, and the buffer has room for the joined file
pub record JoinAsked (f g before : List ℕ) : Type 0 where
  pub matches : Matching f g
  pub room : length (joined_file f g) ≤ length before
