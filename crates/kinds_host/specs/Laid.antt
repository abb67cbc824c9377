-- The calls for kinds for a host in C: their results laid out, and the calls' promises. Which field holds what is decided in
-- docs/DECISIONS.md.
use Rattle.std.specs.Prelude as std
use Rattle.std.specs.Prelude.{ℕ, List, [], ◌∷◌, Result, Option, Some}
use Rattle.layout.specs.Host.{Laid, laid, FromHost}
use Rattle.search_kinds.specs.Search.{SearchKindsWith}
use Rattle.search_kinds.specs.declared.Told.{Told}
use Rattle.window_kinds.specs.Window.{WindowKindsWith}
use Rattle.window_kinds.specs.declared.KindsAnswer.{KindsAnswer}
use Rattle.window_kinds.specs.declared.KindsAnswer.TheVariants.{Letter, Kind, None, Several}
use Rattle.coder.specs.declared.refusal.Refusal.{Refusal}

-- The fields of a report: 0, the window's two sides and the carried kinds as a number with bit k for kind k; or 1 alone.
abbrev pub kinds_fields : Option Told → List ℕ
kinds_fields std.None = 1 ∷ []
kinds_fields (Some t) = 0 ∷ t.window.before ∷ t.window.after ∷ t.carried ∷ []

abbrev pub laid_kinds : Result (Option Told) Refusal → Laid
laid_kinds = laid kinds_fields

-- The fields of an answer: 0 and the letter, 1 and the kind, 2 alone for none, 3 alone for several.
abbrev pub answer_fields : KindsAnswer → List ℕ
answer_fields (Letter x) = 0 ∷ x ∷ []
answer_fields (Kind κ) = 1 ∷ κ ∷ []
answer_fields None = 2 ∷ []
answer_fields Several = 3 ∷ []

abbrev pub laid_answer : Result KindsAnswer Refusal → Laid
laid_answer = laid answer_fields

-- Document 02, 8/13, for a host: the search for kinds,
abbrev pub SearchKindsFromHost : List ℕ → List ℕ → List ℕ → ℕ → List ℕ → Type 0
SearchKindsFromHost f kinds result r result' = FromHost (SearchKindsWith f kinds) laid_kinds result r result'

-- and the decoder of kinds.
abbrev pub WindowKindsFromHost : List ℕ → List ℕ → ℕ → ℕ → List ℕ → List ℕ → ℕ → List ℕ → Type 0
WindowKindsFromHost f kinds b a received result r result' = FromHost (WindowKindsWith f kinds b a received) laid_answer result r result'
