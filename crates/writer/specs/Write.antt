-- The writer of coder files: its refusal, its result and what it leaves in the lent buffer (document 02, 3/13).
use Rattle.std.specs.Prelude.{ℕ, ◌+◌, ◌<◌, ◌≤◌, ◌≡◌, Bool, true, not, ◌&&◌, List, [], ◌∷◌, ◌++◌, length, leb, Result, Ok}
use Rattle.coder.specs.BigEndian.{big_endian}
use Rattle.coder.specs.Refusal.{refuse, first, answer}
use Rattle.coder.specs.File.{file_of, entries_refusal}
use Rattle.placing.specs.Placed.{with_front}
use Rattle.coder.specs.declared.refusal.Refusal.{Refusal}
use Rattle.coder.specs.Refused.{Refused}

-- The refusal, in checking order: 4 to 6 and 15 of the counts and the entry bytes, then 11 (some lent buffer is too short). Whether all lent
-- buffers are long enough is an argument, since a call may lend more than one.
unfoldable pub write_refusal : ℕ → ℕ → ℕ → List ℕ → Bool → ℕ
write_refusal n i o entries fits = first (entries_refusal n i o entries) (refuse (not fits) 11 0)

-- The file is written into a buffer of so many bytes; `others` says whether the other lent buffers are long enough.
abbrev pub write_refusal_in : ℕ → ℕ → ℕ → List ℕ → ℕ → Bool → ℕ
write_refusal_in n i o entries room others = write_refusal n i o entries (leb (length (file_of n i o entries)) room && others)

-- What a call that writes a file returns and leaves in the lent buffer, which held `before` at the call, k being its refusal ("Numbers of
-- refusal", the sentences on refused calls, on bytes past what is written and on counts): the refusal and the buffer as it was; or the
-- number of bytes written, and the file with the buffer's old bytes after it.
pub record FilePromise (k : ℕ) (file before : List ℕ) (r : Result ℕ Refusal) (after : List ℕ) : Type 0 where
  pub result : r ≡ answer k (λ j. Refused j) (Ok (length file))
  pub bytes : after ≡ answer k (λ j. before) (with_front file before)

-- Such a call that is not refused.
abbrev pub WroteFile : List ℕ → List ℕ → Result ℕ Refusal → List ℕ → Type 0
WroteFile file before r after = FilePromise 0 file before r after

-- The writer's promise: the file of the counts and the entry bytes; `others` says whether the other lent buffers are long enough.
abbrev pub WriteWith : ℕ → ℕ → ℕ → List ℕ → List ℕ → Bool → Result ℕ Refusal → List ℕ → Type 0
WriteWith n i o entries before others r after =
    FilePromise (write_refusal_in n i o entries (length before) others) (file_of n i o entries) before r after

-- The library's own call lends no other buffer.
abbrev pub WritePromise : ℕ → ℕ → ℕ → List ℕ → List ℕ → Result ℕ Refusal → List ℕ → Type 0
WritePromise n i o entries before r after = WriteWith n i o entries before true r after

-- what the checked part asks: no refusal applies to the counts and the entry bytes, and the buffer has room for the file
pub record WriteAsked (n i o : ℕ) (entries before : List ℕ) : Type 0 where
  pub none : entries_refusal n i o entries ≡ 0
  pub room : length (file_of n i o entries) ≤ length before

-- what it gives: the number of bytes, and the bytes
pub record FileWritten (file before : List ℕ) (count : ℕ) (after : List ℕ) : Type 0 where
  pub counted : count ≡ length file
  pub bytes : after ≡ with_front file before

-- The first six bytes of the file of three counts and so many entry bytes.
abbrev pub first_six : ℕ → ℕ → ℕ → ℕ → List ℕ
first_six n i o size = 1 ∷ big_endian 2 (3 + size) ++ (n ∷ i ∷ o ∷ [])

-- each count is a byte, and the count field has two
pub record FirstSixAsked (n i o size : ℕ) : Type 0 where
  pub states : n < 256
  pub inputs : i < 256
  pub outputs : o < 256
  pub count : 3 + size < 65536
