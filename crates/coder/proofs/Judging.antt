-- Laws of results that say whether something holds.
use mathlib.Core.Path.{◌≡◌, refl}
use mathlib.Core.Bool.{Bool, true, false}
use Prim.Native.Nat.{ℕ}
use lib.Dec.{eqb}
use borrow.Author.Tests.{eqb-true, eqb-false}
use Rattle.coder.proofs.Refusals.{true_false}
use Rattle.coder.specs.Refusal.{Judges}

pub judges_map : {A B : Type 0} {r : Bool} → (A → B) → (B → A) → Judges A r → Judges B r
judges_map f g j = record { yes' = λ e. f (j.yes' e); no' = λ e b. j.no' e (g b) }

pub judges_yes : {A : Type 0} → A → Judges A true
judges_yes a = record { yes' = λ e. a; no' = λ e. absurd (true_false refl e) }

pub judges_not : {A : Type 0} → (A → ⊥) → Judges A false
judges_not f = record { yes' = λ e. absurd (true_false e refl); no' = λ e. f }

-- the test of two numbers
pub equal_judges : (i j : ℕ) → Judges (i ≡ j) (eqb i j)
equal_judges i j = record { yes' = eqb-true i j; no' = eqb-false i j }

-- two results that say it of the same are equal
pub judges_same : {A : Type 0} (r r' : Bool) → Judges A r → Judges A r' → r ≡ r'
judges_same true true j k = refl
judges_same true false j k = absurd (k.no' refl (j.yes' refl))
judges_same false true j k = absurd (j.no' refl (k.yes' refl))
judges_same false false j k = refl

-- so are two tests of numbers that hold together
pub eqb_same : (a b n m : ℕ) → (a ≡ b → n ≡ m) → (n ≡ m → a ≡ b) → eqb a b ≡ eqb n m
eqb_same a b n m f g = judges_same (eqb a b) (eqb n m) (equal_judges a b) (judges_map g f (equal_judges n m))

-- a decision is such a result
pub judges_decided : {A : Type 0} → Dec A → (r : Bool) × Judges A r
judges_decided (yes a) = (true, judges_yes a)
judges_decided (no n) = (false, judges_not n)
