-- The promise of the checker leaves one result: some result meets it, and two that meet it for the same arguments are equal.
use mathlib.Core.Path.{◌≡◌, refl, sym, ap, ◌∙◌}
use mathlib.Core.Bool.{Bool}
use mathlib.Core.List.{List}
use Prim.Native.Nat.{ℕ, zero, suc}
use native.Mathlib.Decide.{ℕ_discrete}
use Rattle.mealy.specs.LoopedPair.{LoopedPair, Valid}
use Rattle.coder.specs.Refusal.{upon}
use Rattle.coder.specs.File.{setting_of}
use Rattle.checker.specs.Check.{check_refusal, CheckedRight, CheckWith}
use Rattle.coder.specs.Refusal.{Judges}
use Rattle.std.specs.Prelude.{Result, Ok}
use Rattle.coder.specs.declared.refusal.Refusal.{Refusal}
use Rattle.coder.specs.Refused.{Refused}
use Rattle.coder.proofs.Accepted.{accepted}
use Rattle.coder.proofs.Tables.{dec_start}
use Rattle.coder.proofs.Judging.{judges_same, judges_decided}
use Rattle.coder.proofs.Refusals.{upon_refused, upon_done}
use Rattle.checker.proofs.Checking.{check_accepted, right}
use Rattle.mealy.proofs.PairDecisions.{dec_valid}
use Rattle.mealy.proofs.LeastOrNone.{dec_conflict}

module _ (f : List ℕ) (p : LoopedPair) where
  judged : {r : Result Bool Refusal} → (a : CheckedRight f p r) → Judges (Valid (setting_of f) p) a.answer
  judged a = record { yes' = a.yes'; no' = a.no' }

  -- the result, where it is known whether the pair is valid
  pub checked_as : {r : Result Bool Refusal} {b : Bool} → CheckedRight f p r → Judges (Valid (setting_of f) p) b → r ≡ Ok b
  checked_as a j = a.is ∙ ap (λ x. Ok x) (judges_same _ _ (judged a) j)

  same_answer_lem :
      (k : ℕ) (r r' : Result Bool Refusal) → upon k (λ j. r ≡ Refused j) (CheckedRight f p r) →
      upon k (λ j. r' ≡ Refused j) (CheckedRight f p r') → r ≡ r'
  same_answer_lem zero r r' a b = checked_as a (judged b) ∙ sym b.is
  same_answer_lem (suc k) r r' a b = a ∙ sym b

  pub check_determined : (others : Bool) (r r' : Result Bool Refusal) → CheckWith f p others r → CheckWith f p others r' → r ≡ r'
  check_determined others r r' a b = same_answer_lem (check_refusal f p others) r r' a b

  pub check_exists : (others : Bool) → (r : Result Bool Refusal) × CheckWith f p others r
  check_exists others =
      elim (ℕ_discrete (check_refusal f p others) 0) [
        | yes e ↦
            let valid = dec_valid (setting_of f) (dec_start f (accepted f (check_accepted f p others e).file)) dec_conflict p in
            let d = judges_decided valid in
            (Ok d.0, upon_done _ _ _ e (right d.1))
        | no h ↦ (Refused (check_refusal f p others), upon_refused _ _ _ refl h refl)
      ]
