-- The reader of coder files is two calls (document 01, "Coder file"): what each gives.
use Rattle.std.specs.Prelude.{ℕ, ◌+◌, ◌≡◌, List, [], Result, Ok}
use Rattle.coder.specs.Refusal.{answer}
use Rattle.coder.specs.File.{file_refusal, states_of, inputs_of, outputs_of, entries_of}
use Rattle.coder.specs.declared.refusal.Refusal.{Refusal}
use Rattle.coder.specs.Refused.{Refused}
use Rattle.reader.specs.declared.Header.{Header}

-- The first call: the counts, or the refusal.
abbrev pub header : ℕ → ℕ → ℕ → Header
header n i o = record { states = n; inputs = i; outputs = o }

abbrev pub header_of : List ℕ → Result Header Refusal
header_of f = answer (file_refusal f) (λ k. Refused k) (Ok (header (states_of f) (inputs_of f) (outputs_of f)))

-- The second call: the entries, or an empty part.
abbrev pub part_of : List ℕ → List ℕ
part_of f = answer (file_refusal f) (λ k. []) (entries_of f)

-- What that call hands back: those bytes, as a part of the caller's file. A place is a block of memory and an offset in it; the entries
-- begin 6 bytes past the file's own place.
pub record EntriesPart (f : List ℕ) (file : ℕ × ℕ) (part : List ℕ) (place : ℕ × ℕ) : Type 0 where
  pub bytes : part ≡ part_of f
  pub block : place.0 ≡ file.0
  pub offset : place.1 ≡ file.1 + answer (file_refusal f) (λ k. 0) 6
