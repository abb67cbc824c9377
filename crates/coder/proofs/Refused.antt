-- Laws of refusals and their numbers.
use Rattle.std.proofs.Common.{◌≡◌, refl, sym, ap, ◌∙◌, ℕ, zero, suc, ◌≤◌, ◌<◌, Result, Ok, Err, IsErrAnd, arith}
use borrow.Author.Tests.{eqb-true}
use Rattle.coder.specs.declared.refusal.Refusal.{Refusal}
use Rattle.coder.specs.declared.refusal.Refusal.TheVariants.{ShortFile, Version, FileLength, Counts, CountField, Entry, StartState, WindowSide, NumberOfLetters, TableSize, ShortBuffer, InputLetter, ReceivedLetter, SettleCount, UnusedOutput, Kinds, Row}
use lib.Dec.{eqb}
use Rattle.coder.specs.Refusal.{first, answer, upon, all_below}
use Rattle.coder.specs.Refused.{number_of, refusal_of, Refused, number_in}
use Rattle.coder.proofs.Refusals.{answer_refused, upon_refused, all_at, first_some}

-- ---- a refusal and its number

pub refusal_back : (e : Refusal) → refusal_of (number_of e) ≡ e
refusal_back = elim [ ShortFile ↦ refl | Version ↦ refl | FileLength ↦ refl | Counts ↦ refl | CountField ↦ refl | Entry ↦ refl | StartState ↦ refl | WindowSide ↦ refl | NumberOfLetters ↦ refl | TableSize ↦ refl | ShortBuffer ↦ refl | InputLetter ↦ refl | ReceivedLetter ↦ refl | SettleCount ↦ refl | UnusedOutput ↦ refl | Kinds ↦ refl | Row ↦ refl ]

-- no refusal has the number 0
pub number_some : (e : Refusal) → number_of e ≡ 0 → ⊥
number_some ShortFile e = absurd (omega arith)
number_some Version e = absurd (omega arith)
number_some FileLength e = absurd (omega arith)
number_some Counts e = absurd (omega arith)
number_some CountField e = absurd (omega arith)
number_some Entry e = absurd (omega arith)
number_some StartState e = absurd (omega arith)
number_some WindowSide e = absurd (omega arith)
number_some NumberOfLetters e = absurd (omega arith)
number_some TableSize e = absurd (omega arith)
number_some ShortBuffer e = absurd (omega arith)
number_some InputLetter e = absurd (omega arith)
number_some ReceivedLetter e = absurd (omega arith)
number_some SettleCount e = absurd (omega arith)
number_some UnusedOutput e = absurd (omega arith)
number_some Kinds e = absurd (omega arith)
number_some Row e = absurd (omega arith)

-- the refusal with a number of the list has that number
pub number_back : (k : ℕ) → 0 < k → k ≤ 17 → number_of (refusal_of k) ≡ k
unfolding all_below
number_back zero l m = absurd (omega arith)
number_back (suc j) l m = eqb-true _ _ (all_at 17 (λ i. eqb (number_of (refusal_of (suc i))) (suc i)) refl j (omega arith))

-- ---- a call that is refused with e

module _ (e : Refusal) (k : ℕ) (is : number_of e ≡ k) where
  pub refused_some : k ≡ 0 → ⊥
  refused_some z = number_some e (is ∙ z)

  -- what it leaves
  pub refused_leaves : {C : Type 0} (g : ℕ → C) (d : C) → g k ≡ answer k g d
  refused_leaves g d = sym (answer_refused k g d refused_some)

  -- what it returns
  pub refused_is : {A : Type 0} → ◌≡◌ {A = Result A Refusal} (Err e) (Refused k)
  refused_is = ap (λ x. Err x) (sym (refusal_back e) ∙ ap refusal_of is)

  pub refused_returns : {A : Type 0} (d : Result A Refusal) → Err e ≡ answer k (λ j. Refused j) d
  refused_returns d = refused_is ∙ refused_leaves (λ j. Refused j) d

  pub refused_upon : (refused : ℕ → Type 0) (done : Type 0) → refused k → upon k refused done
  refused_upon refused done p = upon_refused k refused done refl refused_some p

  -- the first list of its checks, which refuses
  pub refused_first : (b : ℕ) → number_of e ≡ first k b
  refused_first b = is ∙ sym (first_some k b refused_some)

-- what `?` hands on
module _ {A : Type 0} (r : Result A Refusal) {e : Refusal} where
  pub handed_on : IsErrAnd r (λ x. x ≡ e) → r ≡ Err e
  handed_on = go r
    where
      go : (q : Result A Refusal) → IsErrAnd q (λ x. x ≡ e) → q ≡ Err e
      go (Ok x) h = absurd h
      go (Err x) h = ap (λ y. Err y) h

-- the number of what `?` hands on, where the first list of the checks refuses
pub refused_on :
    {A : Type 0} (r : Result A Refusal) (e : Refusal) (k b : ℕ) → IsErrAnd r (λ x. x ≡ e) → number_of e ≡ k →
    number_in r ≡ first k b
refused_on r e k b h is = ap number_in (handed_on r h) ∙ refused_first e k is b
