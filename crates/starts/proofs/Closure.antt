-- The closure of state 0 under the steps, one step after the other: the reachable states.
use mathlib.Core.Path.{◌≡◌, refl, sym, subst}
use mathlib.Core.List.{List}
use Prim.Native.Nat.{ℕ, suc, ◌+◌, ◌-◌, ◌≤◌, ◌<◌}
use native.Mathlib.Omega.{arith}
use lib.Bits.{bit_or}
use Rattle.mealy.specs.Machine.{Machine, Total}
use Rattle.mealy.specs.Reachable.{Reachable, EntryTo}
use Rattle.mealy.specs.Image.{Image}
use Rattle.mealy.specs.Word.{Has, Holds}
use Rattle.mealy.proofs.Images.{image_within}
use Rattle.mealy.proofs.Members.{holds_member}
use Rattle.mealy.proofs.Words.{holds_map, holds_one, holds_union}
use Rattle.mealy.proofs.ReachableStates.{InSteps, in_steps_reachable, in_steps_all, in_steps_bounded, in_steps↔reachable}
use Rattle.fitting.specs.Tables.{Leads}
use Rattle.starts.specs.Steps.{StepsOf, ClosureOf}

-- ---- one step more, and the last one

-- with what the entries lead to from the states within k steps
pub step_more :
    {M : Machine} (k : ℕ) {u v : ℕ} → Holds (InSteps M k) u → Holds (Image (EntryTo M) (Has u)) v → Holds (InSteps M (suc k)) (bit_or u v)
step_more {M} k {u} a b =
    holds_union a
    (holds_map (image_within {Q = EntryTo M} {Q' = EntryTo M} {P = Has u} {P' = InSteps M k} (λ s t e. e) (holds_member a))
    (image_within {Q = EntryTo M} {Q' = EntryTo M} {P = InSteps M k} {P' = Has u} (λ s t e. e) a.has) b)

-- where it adds none, these are all reachable states
none_more : {M : Machine} (k : ℕ) {u v : ℕ} → Holds (InSteps M k) u → Holds (InSteps M (suc k)) v → v ≡ u → Holds (Reachable M) u
none_more {M} k a b e =
    holds_map (in_steps_reachable M k) (in_steps_all M k (λ s h. holds_member a s (rw e at (b.has s h)))) a

-- what the words of the steps lead to from a set of states
pub by_words :
    {M : Machine} {words : List ℕ} → StepsOf M words → (u : ℕ) {v : ℕ} → ((s : ℕ) → Has u s → s < M.states) →
    Holds (Image (Leads words 0) (Has u)) v → Holds (Image (EntryTo M) (Has u)) v
by_words {M} {words} steps u states =
    holds_map (image_within {Q = Leads words 0} {Q' = EntryTo M} {P = Has u} {P' = Has u} steps.to (λ s h. h))
    (λ t i. record { s = i.s; from = i.from; step = steps.from i.s t (states i.s i.from) i.step })

module _ (M : Machine) (total : Total M) (some : 0 < M.states) where
  -- and so they are after N - 1 steps
  pub last_step : (k : ℕ) {u : ℕ} → M.states ≤ k + 1 → Holds (InSteps M k) u → Holds (Reachable M) u
  last_step k l = holds_map (λ s. (in_steps↔reachable M total some k l s).0) (λ s. (in_steps↔reachable M total some k l s).1)

  pub in_steps_states : (k : ℕ) {u : ℕ} → Holds (InSteps M k) u → (s : ℕ) → Has u s → s < M.states
  in_steps_states k a s h = in_steps_bounded M total some k s (holds_member a s h)

-- ---- the loop, turn by turn: k - 1 steps are made, for any machine with these steps

abbrev pub SoFar : List ℕ → ℕ → ℕ → ℕ → Type 0
SoFar words n k u =
    (M : Machine) → M.states ≡ n → 0 < M.states → Total M → StepsOf M words → Holds (InSteps M (k - 1)) u

module _ {words : List ℕ} {n : ℕ} where
  pub so_far_first : SoFar words n 1 1
  so_far_first M e some total steps = holds_one 0 (omega arith) refl (λ y e. e)

  module _ (k : ℕ) {u : ℕ} (a : SoFar words n k u) where
    pub so_far_more :
        {v : ℕ} → 1 ≤ k → Holds (Image (Leads words 0) (Has u)) v → SoFar words n (k + 1) (bit_or u v)
    so_far_more {v} l b M e some total steps =
        let z : k + 1 - 1 ≡ suc (k - 1) = omega arith in
        let h = a M e some total steps in
        subst (λ j. Holds (InSteps M j) (bit_or u v)) (sym z) (step_more (k - 1) h (by_words steps u (in_steps_states M total some (k - 1) h) b))

    pub so_far_same : {v : ℕ} → Holds (Image (Leads words 0) (Has u)) v → bit_or u v ≡ u → ClosureOf words n u
    so_far_same b d M e some total steps =
        let h = a M e some total steps in
        none_more (k - 1) h (step_more (k - 1) h (by_words steps u (in_steps_states M total some (k - 1) h) b)) d

    pub so_far_end : n ≤ k → ClosureOf words n u
    so_far_end l M e some total steps = last_step M total some (k - 1) (omega arith) (a M e some total steps)
