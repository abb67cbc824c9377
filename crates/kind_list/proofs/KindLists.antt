-- The kind list: what the test behind refusal 16 says, the kinds of an accepted list, and what a call whose list is not refused relies on.
use mathlib.Core.Path.{◌≡◌}
use mathlib.Core.Bool.{true, not}
use mathlib.Core.List.{List}
use Prim.Native.Nat.{ℕ, ◌≤◌}
use native.Mathlib.Decide.{dec_lt}
use native.Mathlib.Omega.{arith}
use lib.Dec.{lit<, eqb}
use lib.ListN.{length, get_or-eq_default}
use borrow.Author.Tests.{eqb-true}
use Rattle.mealy.proofs.Letters.{letter_at_lem}
use Rattle.coder.specs.Refusal.{refuse, letters_below}
use Rattle.coder.specs.File.{file_refusal, inputs_of, machine_of}
use Rattle.coder.proofs.Refusals.{both_true, refuse_not, first_none, letters_below_lem}
use Rattle.coder.proofs.Accepted.{accepted}
use Rattle.kinds.specs.Kinds.{KindsBelow}
use Rattle.kind_list.specs.KindList.{kind_of, kinds_fit, list_refusal, KindsFit, KindsLow}

fit_said : (n : ℕ) (kinds : List ℕ) → kinds_fit n kinds ≡ true → KindsFit n kinds
fit_said n kinds e =
    let b = both_true (eqb (length kinds) n) (letters_below n kinds) e in
    record { size = eqb-true _ _ b.0; below = letters_below_lem n kinds b.1 }

module _ {n : ℕ} {kinds : List ℕ} (fit : KindsFit n kinds) where
  pub kinds_below : KindsBelow n (kind_of kinds)
  kinds_below i l = letter_at_lem n kinds fit.below i (omega (arith, fit.size))

  kinds_low : 1 ≤ n → n ≤ 16 → KindsLow kinds
  kinds_low some high i = elim (dec_lt i (length kinds)) [
    | yes l ↦ omega (arith, letter_at_lem n kinds fit.below i l)
    | no l ↦ (let m : length kinds ≤ i = omega arith in rw (get_or-eq_default kinds 0 m) (omega arith))
  ]

-- what a call whose list is not refused relies on
pub record ListAccepted (f kinds : List ℕ) : Type 0 where
  pub file : file_refusal f ≡ 0
  pub list : KindsFit (inputs_of f) kinds
  pub low : KindsLow kinds
  pub below : KindsBelow (machine_of f).inputs (kind_of kinds)

pub list_accepted : (f kinds : List ℕ) → list_refusal f kinds ≡ 0 → ListAccepted f kinds
unfolding list_refusal machine_of
list_accepted f kinds e =
    let a = first_none (file_refusal f) (refuse (not (kinds_fit (inputs_of f) kinds)) 16 0) e in
    let fit = fit_said (inputs_of f) kinds (refuse_not (kinds_fit (inputs_of f) kinds) 16 0 (lit< tt) a.1).0 in
    let l = (accepted f a.0).entries.limits in
    record { file = a.0; list = fit; low = kinds_low fit l.inputs_low l.inputs_high; below = kinds_below fit }
