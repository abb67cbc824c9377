-- The calls for kinds for a host in C: a call that is not refused has all lent buffers long enough, and its outcome is determined.
use mathlib.Core.Path.{◌≡◌, ap}
use mathlib.Core.Bool.{Bool, true}
use mathlib.Core.List.{List}
use Prim.Native.Nat.{ℕ}
use Rattle.layout.proofs.Hosting.{no_refusal_upon, same_host}
use Rattle.search_kinds.specs.Search.{search_kinds_refusal, FoundKinds, SearchKindsWith}
use Rattle.std.specs.Prelude.{Result, Option}
use Rattle.coder.specs.declared.refusal.Refusal.{Refusal}
use Rattle.search_kinds.specs.declared.Told.{Told}
use Rattle.search_kinds.proofs.Reports.{search_kinds_accepted}
use Rattle.search_kinds.proofs.Determined.{search_kinds_determined}
use Rattle.window_kinds.specs.Window.{window_kinds_refusal, AnsweredKinds, WindowKindsWith}
use Rattle.window_kinds.specs.declared.KindsAnswer.{KindsAnswer}
use Rattle.window_kinds.proofs.Accepting.{window_kinds_accepted}
use Rattle.window_kinds.proofs.Determined.{window_kinds_determined}
use Rattle.kinds_host.specs.Laid.{kinds_fields, laid_kinds, answer_fields, laid_answer, SearchKindsFromHost, WindowKindsFromHost}

-- ---- the search

module _ (f kinds : List ℕ) where
  pub search_kinds_others :
      (others : Bool) (r : Result (Option Told) Refusal) → SearchKindsWith f kinds others r → (laid_kinds r).returned ≡ 0 → others ≡ true
  search_kinds_others others r p z =
      (search_kinds_accepted f kinds others
      (no_refusal_upon kinds_fields (search_kinds_refusal f kinds others) r (FoundKinds f kinds r) p z)).fits

  pub search_kinds_host_determined :
      (result result' result₂ : List ℕ) (r q : ℕ) → SearchKindsFromHost f kinds result r result' →
      SearchKindsFromHost f kinds result q result₂ → (r ≡ q) × (result' ≡ result₂)
  search_kinds_host_determined result result' result₂ r q =
      same_host (λ own own₂ p p₂. ap laid_kinds (search_kinds_determined f kinds _ own own₂ p p₂))

-- ---- the decoder

module _ (f kinds : List ℕ) (b a : ℕ) (received : List ℕ) where
  pub window_kinds_others :
      (others : Bool) (r : Result KindsAnswer Refusal) → WindowKindsWith f kinds b a received others r → (laid_answer r).returned ≡ 0 → others ≡ true
  window_kinds_others others r p z =
      (window_kinds_accepted f kinds b a received others
      (no_refusal_upon answer_fields (window_kinds_refusal f kinds b a received others) r (AnsweredKinds f kinds b received r) p z)).fits

  pub window_kinds_host_determined :
      (result result' result₂ : List ℕ) (r q : ℕ) → WindowKindsFromHost f kinds b a received result r result' →
      WindowKindsFromHost f kinds b a received result q result₂ → (r ≡ q) × (result' ≡ result₂)
  window_kinds_host_determined result result' result₂ r q =
      same_host (λ own own₂ p p₂. ap laid_answer (window_kinds_determined f kinds b a received _ own own₂ p p₂))
