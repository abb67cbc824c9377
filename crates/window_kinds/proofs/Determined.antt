-- The promise of the decoder of kinds leaves one outcome and is met by one.
use mathlib.Core.Path.{◌≡◌, refl, sym, ap, ◌∙◌}
use mathlib.Core.Bool.{Bool}
use mathlib.Core.List.{List}
use Prim.Native.Nat.{ℕ, zero, suc}
use native.Mathlib.Omega.{arith}
use Rattle.std.specs.Prelude.{Result, Ok}
use Rattle.coder.specs.Refusal.{upon}
use Rattle.coder.specs.declared.refusal.Refusal.{Refusal}
use Rattle.coder.specs.Refused.{Refused}
use Rattle.coder.specs.File.{setting_after}
use Rattle.coder.specs.Table.{coder_of}
use Rattle.filling.specs.Window.{fitting_word}
use Rattle.decoder.proofs.Decoding.{starts_of, file_fits}
use Rattle.kinds.specs.KindsAnswer as theory
use Rattle.kinds.proofs.KindsAnswers.{kinds_answer_unique}
use Rattle.kind_list.specs.KindList.{kind_of}
use Rattle.window_kinds.specs.Answer.{meaning, kinds_answer_of}
use Rattle.window_kinds.specs.Window.{window_kinds_refusal, AnsweredKinds, WindowKindsWith}
use Rattle.window_kinds.specs.declared.KindsAnswer.{KindsAnswer}
use Rattle.window_kinds.specs.declared.KindsAnswer.TheVariants.{Letter, Kind, None, Several}
use Rattle.window_kinds.proofs.Accepting.{window_kinds_accepted}
use Rattle.window_kinds.proofs.SetAnswers.{holds_kinds_right}

-- The case of the code that a case of the theory is.
case_of : theory.KindsAnswer → KindsAnswer
case_of (theory.letter x) = Letter x
case_of (theory.kind_only κ) = Kind κ
case_of theory.none = None
case_of theory.several = Several

case_meaning : (v : KindsAnswer) → case_of (meaning v) ≡ v
unfolding case_of
case_meaning (Letter x) = refl
case_meaning (Kind κ) = refl
case_meaning None = refl
case_meaning Several = refl

meaning_injective : (v v' : KindsAnswer) → meaning v ≡ meaning v' → v ≡ v'
meaning_injective v v' e = sym (case_meaning v) ∙ ap case_of e ∙ case_meaning v'

module _ (f kinds : List ℕ) (b a : ℕ) (received : List ℕ) (others : Bool) where
  pub window_kinds_determined :
      (r r' : Result KindsAnswer Refusal) → WindowKindsWith f kinds b a received others r →
      WindowKindsWith f kinds b a received others r' → r ≡ r'
  window_kinds_determined r r' = go (window_kinds_refusal f kinds b a received others)
    where
      go :
          (k : ℕ) → upon k (λ j. r ≡ Refused j) (AnsweredKinds f kinds b received r) →
          upon k (λ j. r' ≡ Refused j) (AnsweredKinds f kinds b received r') → r ≡ r'
      go zero p q =
          let z = kinds_answer_unique (setting_after f 0) (kind_of kinds) received b _ _ p.right q.right in
          p.is ∙ ap (λ v. Ok v) (meaning_injective p.answer q.answer z) ∙ sym q.is
      go (suc k) p q = p ∙ sym q

  pub window_kinds_exists : (r : Result KindsAnswer Refusal) × WindowKindsWith f kinds b a received others r
  window_kinds_exists = go (window_kinds_refusal f kinds b a received others) refl
    where
      go :
          (k : ℕ) → window_kinds_refusal f kinds b a received others ≡ k →
          (r : Result KindsAnswer Refusal) × upon k (λ j. r ≡ Refused j) (AnsweredKinds f kinds b received r)
      go zero e =
          let h = window_kinds_accepted f kinds b a received others e in
          let w = file_fits f h.list.file 0 received b (omega (arith, h.long)) in
          let v = kinds_answer_of (kind_of kinds) (fitting_word (coder_of f) (starts_of f 0) received b) in
          (Ok v, record { answer = v; is = refl; right = holds_kinds_right (kind_of kinds) w })
      go (suc k) e = (Refused (suc k), refl)
