-- A call from C is the library's own call with one lent buffer more, the result buffer, into which its result is laid (document 01, "What
-- the part does", the sentences on calls from C). One definition for all calls: `FromHost`.
use Rattle.std.specs.Prelude.{ℕ, ◌≤◌, ◌≡◌, Bool, List, [], ◌∷◌, length, leb, Result, Ok, Err}
use Rattle.coder.specs.declared.refusal.Refusal.{Refusal}
use Rattle.coder.specs.Refused.{number_of}
use Rattle.layout.specs.Layout.{result_bytes, with_fields}

-- The result buffer is long enough; shorter is refusal 11, in its place among the refusals.
abbrev pub roomy : List ℕ → Bool
roomy result = leb result_bytes (length result)

-- What a result is for a host: the number that is returned, and the numbers in the fields.
pub record Laid : Type 0 where
  pub returned : ℕ
  pub fields : List ℕ

abbrev pub refused : ℕ → Laid
refused k = record { returned = k; fields = [] }

abbrev pub done : List ℕ → Laid
done fields = record { returned = 0; fields = fields }

-- A result with these numbers in the fields, or a refusal: its number is returned.
abbrev pub laid : {A : Type 0} → (A → List ℕ) → Result A Refusal → Laid
laid fields (Ok x) = done (fields x)
laid fields (Err e) = refused (number_of e)

-- A number of bytes, or a refusal: field 0 is the number.
abbrev pub laid_count : Result ℕ Refusal → Laid
laid_count = laid (λ n. n ∷ [])

-- It is laid out: r is returned, and the result buffer, which was `result`, is result'.
pub record LaidOut (l : Laid) (result : List ℕ) (r : ℕ) (result' : List ℕ) : Type 0 where
  pub number : r ≡ l.returned
  pub fields : result' ≡ with_fields result l.fields

-- what is asked for that: unless it is a refusal, the buffer is long enough
abbrev pub HasRoom : Laid → List ℕ → Type 0
HasRoom l result = l.returned ≡ 0 → result_bytes ≤ length result

-- A result that the library's own call promises, laid out.
pub record Handed {R : Type 0} (Promise : R → Type 0) (laid : R → Laid) (result : List ℕ) (r : ℕ) (result' : List ℕ) : Type 0 where
  pub own : R
  pub promised : Promise own
  pub out : LaidOut (laid own) result r result'

-- A call from C. `Promise others own` says that the library's own call may give `own`, where `others` is whether the lent buffers besides
-- its own are long enough; here that is the result buffer.
abbrev pub FromHost : {R : Type 0} → (Bool → R → Type 0) → (R → Laid) → List ℕ → ℕ → List ℕ → Type 0
FromHost Promise laid result r result' = Handed (Promise (roomy result)) laid result r result'
