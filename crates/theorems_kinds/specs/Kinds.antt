-- Kinds of letter (document 02, 8/13), over the promises of the calls alone: what each place of a coded string yields, when "cannot"
-- stands, what is carried, and the report where letters can be told. `kinds_hold` of proofs/Kinds.antt proves the record. Nothing of demand
-- 2's round trip or of demand 3 is said of these windows.
use Rattle.std.specs.Prelude.{ℕ, ◌+◌, ◌≤◌, ◌<◌, ◌≡◌, ◌↔◌, ◌⊎◌, ◌≢◌, List, length, get_or, take, drop}
use Rattle.mealy.specs.Word.{Has}
use Rattle.mealy.specs.Window.{Works}
use Rattle.coder.specs.File.{inputs_of, setting_after}
use Rattle.running.specs.Run.{RunPromise}
use Rattle.running_host.specs.Laid.{RunFromHost}
use Rattle.values.specs.Window.{size}
use Rattle.values.specs.Order.{default_order}
use Rattle.values.specs.declared.Window.{Window}
use Rattle.layout.specs.Layout.{result_bytes, with_fields, field_at}
use Rattle.search.specs.Search.{SearchPromise}
use Rattle.search_host.specs.Laid.{SearchFromHost}
use Rattle.search.specs.declared.Verdict.TheVariants.{Least}
use Rattle.kinds.specs.Kinds.{tell_kinds, tell_one, Carried, Leaves}
use Rattle.kinds.specs.KindsAnswer as theory
use Rattle.kinds.specs.KindsAnswer.{KindsAnswers, Yields}
use Rattle.kind_list.specs.KindList.{kind_of}
use Rattle.search_kinds.specs.Search.{told, SearchKindsPromise}
use Rattle.search_kinds.specs.declared.Told.{Told}
use Rattle.window_kinds.specs.Answer.{meaning}
use Rattle.window_kinds.specs.Window.{WindowKindsPromise}
use Rattle.window_kinds.specs.declared.KindsAnswer.{KindsAnswer}
use Rattle.window_kinds.specs.declared.KindsAnswer.TheVariants.{Letter}
use Rattle.kinds_host.specs.Laid.{kinds_fields, SearchKindsFromHost, WindowKindsFromHost}
use Rattle.theorems.specs.RoundTrip.{Coded, FieldHolds}
use Rattle.std.specs.Prelude.{Result, Ok, Option, Some, None}
use Rattle.coder.specs.declared.refusal.Refusal.{Refusal}
use Rattle.running.specs.declared.RunEnd.{RunEnd}

-- ---- the sentence on a coded string

-- The decoder is not refused, and its answer yields of the letter x that went in the kind, and the letter where its kind is in the word.
pub record YieldedBy (kinds : List ℕ) (carried x : ℕ) (r : Result KindsAnswer Refusal) : Type 0 where
  pub answer : KindsAnswer
  pub is : r ≡ Ok answer
  pub yields : Yields (kind_of kinds) (Has carried) x (meaning answer)
  pub letter : Has carried (kind_of kinds x) → answer ≡ Letter x

-- For each outcome that the three calls promise: the run writes to after₁, the search reports the word `carried` and the window w, and the
-- decoder is given the part of what was written that begins at place k and has as many letters as the window.
abbrev pub StringsYield : Type 0
StringsYield =
    (f kinds : List ℕ) (s : ℕ) (xs : List ℕ) → Coded f s xs →
    (before₁ : List ℕ) (r₁ : Result RunEnd Refusal) (after₁ : List ℕ) → length xs ≤ length before₁ → RunPromise f s xs before₁ r₁ after₁ →
    (carried : ℕ) (w : Window) → SearchKindsPromise f kinds (Ok (Some (told carried w))) →
    (k : ℕ) → k + size w ≤ length xs →
    (r : Result KindsAnswer Refusal) →
    WindowKindsPromise f kinds w.before w.after (take (size w) (drop k (take (length xs) after₁))) r →
    YieldedBy kinds carried (get_or xs (k + w.before) 0) r

-- What a host reads: the decoder returned 0; its fields say the letter that went in, or the kind of that letter, which is then not one of
-- the carried kinds that the search wrote.
pub record HostYields (kinds : List ℕ) (carried x r : ℕ) (result : List ℕ) : Type 0 where
  pub done : r ≡ 0
  pub read :
      ((field_at result 0 ≡ 0) × (field_at result 1 ≡ x)) ⊎
      ((field_at result 0 ≡ 1) × (field_at result 1 ≡ kind_of kinds x) × (Has carried (kind_of kinds x) → ⊥))

-- how many letters the window has that a host reads from the result of a search for kinds
abbrev pub size_read : List ℕ → ℕ
size_read result = field_at result 1 + 1 + field_at result 2

-- The same from C, with room in all lent buffers: the search returned 0 and found a window, which the host reads and passes on.
abbrev pub StringsYieldFromC : Type 0
StringsYieldFromC =
    (f kinds : List ℕ) (s : ℕ) (xs : List ℕ) → Coded f s xs → FieldHolds (length xs) →
    (before₁ result₁ : List ℕ) (r₁ : ℕ) (after₁ result₁' : List ℕ) → length xs ≤ length before₁ → result_bytes ≤ length result₁ →
    RunFromHost f s xs before₁ result₁ r₁ after₁ result₁' →
    (result₂ result₂' : List ℕ) → SearchKindsFromHost f kinds result₂ 0 result₂' → field_at result₂' 0 ≡ 0 →
    (k : ℕ) → k + size_read result₂' ≤ length xs →
    (result₃ : List ℕ) (r₃ : ℕ) (result₃' : List ℕ) → result_bytes ≤ length result₃ →
    WindowKindsFromHost f kinds (field_at result₂' 1) (field_at result₂' 2)
    (take (size_read result₂') (drop k (take (field_at result₁' 0) after₁))) result₃ r₃ result₃' →
    HostYields kinds (field_at result₂' 3) (get_or xs (k + field_at result₂' 1) 0) r₃ result₃'

-- ---- the sentence on the decoder, for a host

-- what the fields of an answer say
abbrev pub ReadAs : theory.KindsAnswer → List ℕ → Type 0
ReadAs (theory.letter x) result = (field_at result 0 ≡ 0) × (field_at result 1 ≡ x)
ReadAs (theory.kind_only κ) result = (field_at result 0 ≡ 1) × (field_at result 1 ≡ κ)
ReadAs theory.none result = field_at result 0 ≡ 2
ReadAs theory.several result = field_at result 0 ≡ 3

-- the answer that is right for the letters of the window stands in the fields
pub record AnswerRead (f kinds : List ℕ) (b : ℕ) (received result : List ℕ) : Type 0 where
  pub answer : theory.KindsAnswer
  pub right : KindsAnswers (setting_after f 0) (kind_of kinds) received b answer
  pub read : ReadAs answer result

-- ---- what is said of a report

pub record Reported (f kinds : List ℕ) (v : Option Told) : Type 0 where
  -- "A cannot stands only for coders where every window leaves two kinds", and there it stands
  pub cannot : v ≡ None ↔ ((b a : ℕ) → Leaves (tell_kinds (setting_after f 0) (kind_of kinds)) b a)
  -- the word has the numbers below I that are carried, and no other
  pub carried :
      (u : ℕ) (w : Window) → v ≡ Some (told u w) → (κ : ℕ) → Has u κ ↔ ((κ < inputs_of f) × Carried (setting_after f 0) (kind_of kinds) κ)
  -- "a kind that no letter has counts as carried"
  pub unused :
      (u : ℕ) (w : Window) → v ≡ Some (told u w) → (κ : ℕ) → κ < inputs_of f → ((i : ℕ) → i < inputs_of f → kind_of kinds i ≢ κ) → Has u κ
  -- the window tells the kind always and the letter in every carried kind, and comes no later than any other that does, whatever its sides
  pub kind_always : (u : ℕ) (w : Window) → v ≡ Some (told u w) → Works (tell_kinds (setting_after f 0) (kind_of kinds)) w.before w.after
  pub letters :
      (u : ℕ) (w : Window) → v ≡ Some (told u w) → (κ : ℕ) → Has u κ → Works (tell_one (setting_after f 0) (kind_of kinds) κ) w.before w.after
  pub no_later :
      (u : ℕ) (w : Window) → v ≡ Some (told u w) → (b a : ℕ) → Works (tell_kinds (setting_after f 0) (kind_of kinds)) b a →
      ((κ : ℕ) → Has u κ → Works (tell_one (setting_after f 0) (kind_of kinds) κ) b a) →
      (w.after ≤ a) × (w.after ≡ a → w.before ≤ b)
  -- where the search for letters with settle count 0 and in the default order finds a window, that is the window, and every kind is carried
  pub as_letters :
      (before after : List ℕ) (w : Window) →
      SearchPromise default_order f 0 before (Ok (Least w)) after →
      (u : ℕ) × (v ≡ Some (told u w)) × ((κ : ℕ) → κ < inputs_of f → Has u κ)

pub record Kinds : Type 0 where
  pub strings : StringsYield
  pub strings_from_C : StringsYieldFromC
  -- a window decoded by kinds from C that returns 0
  pub window_from_C :
      (f kinds : List ℕ) (b a : ℕ) (received result result' : List ℕ) → WindowKindsFromHost f kinds b a received result 0 result' →
      AnswerRead f kinds b received result'
  pub search : (f kinds : List ℕ) (v : Option Told) → SearchKindsPromise f kinds (Ok v) → Reported f kinds v
  -- where a search for letters from C with settle count 0 has a window in its fields, one for kinds has the same there, and every kind
  pub as_letters_from_C :
      (f kinds before result after result' : List ℕ) → SearchFromHost f 0 before result 0 after result' → field_at result' 0 ≡ 0 →
      (result₂ result₂' : List ℕ) → SearchKindsFromHost f kinds result₂ 0 result₂' →
      (field_at result₂' 0 ≡ 0) × (field_at result₂' 1 ≡ field_at result' 1) × (field_at result₂' 2 ≡ field_at result' 2) ×
      ((κ : ℕ) → κ < inputs_of f → Has (field_at result₂' 3) κ)
  -- a search from C that returns 0 has such a report in the fields of its result
  pub search_from_C :
      (f kinds result result' : List ℕ) → SearchKindsFromHost f kinds result 0 result' →
      (v : Option Told) × (result' ≡ with_fields result (kinds_fields v)) × Reported f kinds v
