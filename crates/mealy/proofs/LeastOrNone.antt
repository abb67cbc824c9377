-- Every coder has, with any settle count and in any order, a least window or none at all.
use mathlib.Core.Logic.Dec
use mathlib.Core.Logic.{◌≢◌, ◌⊎◌, inl, inr}
use Prim.Native.Nat.{ℕ, ◌<◌}
use native.Mathlib.Decide.{ℕ_discrete}
use Rattle.mealy.specs.Machine.{Machine, Total}
use Rattle.mealy.specs.Setting.{after_letters}
use Rattle.mealy.specs.Window.{Works}
use Rattle.mealy.specs.Order.{Relation, IsOrder, Least}
use Rattle.mealy.specs.Product.{pairs}
use Rattle.mealy.proofs.Settling.{some_or_none}
use Rattle.mealy.proofs.LeastWindows.{least_exists}
use Rattle.mealy.proofs.StartStates.{after_closed, after_bounded, dec_start_after}

pub dec_conflict : (i j : ℕ) → Dec (i ≢ j)
dec_conflict i j = Dec.not (ℕ_discrete i j)

module _ (M : Machine) (total : Total M) (some : 0 < M.states) (p : ℕ) where
  pub least_or_none :
      {R : Relation} → IsOrder R →
      ((b : ℕ) × (a : ℕ) × Least R (after_letters M p) b a) ⊎ ((b a : ℕ) → Works (after_letters M p) b a → ⊥)
  least_or_none order =
      let S = after_letters M p in
      let decide = dec_start_after M total some p in
      let bounded = after_bounded M total some p in
      let n = pairs M.states in
      elim (some_or_none S decide bounded (after_closed M p) dec_conflict) [
        | inl w ↦ inl (least_exists order S (after_closed M p) decide bounded dec_conflict n n w)
        | inr f ↦ inr f
      ]
