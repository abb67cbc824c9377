-- Lists of rules of the published list: which numbers they can give, and two lists one after the other.
use Prim.Native.Nat.{ℕ, zero, suc}
use mathlib.Core.Path.{◌≡◌, refl, sym}
use mathlib.Core.Bool.{Bool, true, false, not, ◌&&◌}
use mathlib.Core.List.{List, [], ◌∷◌, ◌++◌}
use lib.Dec.{eqb}
use borrow.Author.Tests.{eqb-false, not-true}
use Rattle.coder.specs.Refusal.{refuse, first}
use Rattle.coder.proofs.Refusals.{both_true, refuse_either}
use Rattle.published.specs.Published.{Rule, asks, first_number, without}

-- a number that no rule of a list has is not the first that applies
pub number_other : (k : ℕ) (rs : List Rule) → without k rs ≡ true → (k ≡ 0 → ⊥) → first_number rs ≡ k → ⊥
number_other k [] t z = λ e. z (sym e)
number_other k (r ∷ rs) t z =
    let b = both_true (not (eqb r.number k)) (without k rs) t in
    refuse_either (λ n. n ≡ k → ⊥) r.applies r.number (first_number rs) (eqb-false _ _ (not-true _ b.0)) (number_other k rs b.1 z)

pub without_joined : (k : ℕ) (rs ss : List Rule) → without k rs ≡ true → without k ss ≡ true → without k (rs ++ ss) ≡ true
without_joined k [] ss t u = u
without_joined k (r ∷ rs) ss t u =
    let b = both_true (not (eqb r.number k)) (without k rs) t in
    rw b.0 (without_joined k rs ss b.1 u)

-- of two lists, the first number of the one and, where that gives none, of the other
pub first_joined : (rs ss : List Rule) → without 0 rs ≡ true → first_number (rs ++ ss) ≡ first (first_number rs) (first_number ss)
first_joined [] ss t = refl
first_joined (r ∷ rs) ss t =
    let b = both_true (not (eqb r.number 0)) (without 0 rs) t in
    go r.applies r.number (eqb-false _ _ (not-true _ b.0)) (first_joined rs ss b.1)
  where
    go :
        (a : Bool) (k : ℕ) → (k ≡ 0 → ⊥) → first_number (rs ++ ss) ≡ first (first_number rs) (first_number ss) →
        refuse a k (first_number (rs ++ ss)) ≡ first (refuse a k (first_number rs)) (first_number ss)
    go true zero z e = absurd (z refl)
    go true (suc k) z e = refl
    go false k z e = e

-- one number that asks two things, and one for each
pub asked_both :
    (a b : Bool) (k : ℕ) (rs : List Rule) → refuse (not (a && b)) k (first_number rs) ≡ first_number (asks k a ∷ asks k b ∷ rs)
asked_both true b k rs = refl
asked_both false b k rs = refl
