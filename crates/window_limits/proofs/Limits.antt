-- Sides, settle counts and received letters that are not refused are within the limits, and the other way round. Each refusal is a number
-- of the list.
use mathlib.Core.Path.{◌≡◌}
use mathlib.Core.Bool.{Bool, true, not}
use mathlib.Core.List.{List}
use Prim.Native.Nat.{ℕ, ◌≤◌}
use native.Mathlib.Omega.{arith}
use lib.ListN.{length}
use lib.Dec.{lit<, leb, eqb}
use borrow.Author.Tests.{leb-true, le-leb, eqb-true}
use Rattle.mealy.specs.Machine.{Letters}
use Rattle.coder.specs.Limits.{max_side, max_settle}
use Rattle.coder.specs.Refusal.{refuse, letters_below}
use Rattle.coder.proofs.Refusals.{both_true, refuse_not, refuse_either, letters_below_lem}
use Rattle.window_limits.specs.Refusal.{sides_refusal, settle_refusal, received_refusal, SidesSmall}

pub sides_accepted : (b a : ℕ) → sides_refusal b a ≡ 0 → SidesSmall b a
unfolding sides_refusal
sides_accepted b a e =
    let s = both_true (leb b max_side) (leb a max_side) (refuse_not _ 8 0 (lit< tt) e).0 in
    record { before_small = leb-true _ _ s.0; after_small = leb-true _ _ s.1 }

pub sides_pass : (b a : ℕ) → b ≤ max_side → a ≤ max_side → sides_refusal b a ≡ 0
unfolding sides_refusal
sides_pass b a l m = rw (le-leb b max_side l, le-leb a max_side m)

pub settle_accepted : (p : ℕ) → settle_refusal p ≡ 0 → p ≤ max_settle
unfolding settle_refusal
settle_accepted p e = leb-true _ _ (refuse_not (leb p max_settle) 14 0 (lit< tt) e).0

pub settle_pass : (p : ℕ) → p ≤ max_settle → settle_refusal p ≡ 0
unfolding settle_refusal
settle_pass p l = rw (le-leb p max_settle l)

-- what the received letters of a window that are not refused are
pub record ReceivedAccepted (n o : ℕ) (received : List ℕ) (fit : Bool) : Type 0 where
  pub long : length received ≡ n
  pub fits : fit ≡ true
  pub letters : Letters o received

pub received_accepted :
    (n o : ℕ) (received : List ℕ) (fit : Bool) → received_refusal n o received fit ≡ 0 → ReceivedAccepted n o received fit
received_accepted n o received fit e =
    let q = refuse_not (eqb (length received) n) 9 (refuse (not fit) 11 (refuse (not (letters_below o received)) 13 0)) (lit< tt) e in
    let h = refuse_not fit _ _ (lit< tt) q.1 in
    let s = refuse_not (letters_below o received) _ _ (lit< tt) h.1 in
    record { long = eqb-true _ _ q.0; fits = h.0; letters = letters_below_lem o received s.0 }

-- ---- each refusal is a number of the list

pub sides_known : (b a : ℕ) → sides_refusal b a ≤ 17
unfolding sides_refusal
sides_known b a = refuse_either (λ k. k ≤ 17) _ 8 0 (omega arith) (omega arith)

pub settle_known : (p : ℕ) → settle_refusal p ≤ 17
unfolding settle_refusal
settle_known p = refuse_either (λ k. k ≤ 17) _ 14 0 (omega arith) (omega arith)
