-- The start states of a machine with at most 16 states as a word that is computed.
use mathlib.Core.Path.{refl}
use mathlib.Core.Bool.{true}
use Prim.Native.Nat.{ℕ, zero, suc, ◌≤◌, ◌<◌}
use native.Mathlib.Omega.{arith}
use lib.Bits.{bit_or}
use Rattle.mealy.specs.Machine.{Machine, Total}
use Rattle.mealy.specs.Reachable.{Reachable, StartAfter, EntryTo}
use Rattle.mealy.specs.Image.{Image}
use Rattle.mealy.specs.Word.{Has, Holds}
use Rattle.mealy.proofs.Words.{holds_map, holds_one}
use Rattle.mealy.proofs.Members.{holds_member}
use Rattle.mealy.proofs.Images.{image_within}
use Rattle.mealy.proofs.ImageWords.{image_word, image_word_lem}
use Rattle.mealy.proofs.ReachableStates.{InSteps}
use Rattle.mealy.proofs.StartStates.{after_bounded}
use Rattle.starts.proofs.Closure.{step_more, last_step, in_steps_states}
use Rattle.starts.proofs.After.{after_none, after_more}

-- the states that an entry leads to from the set u, whatever its output letter
abbrev step_word : Machine → ℕ → ℕ
step_word M u = image_word M (λ o. true) u M.states

-- the states within k steps of state 0
unfoldable pub in_steps_word : Machine → ℕ → ℕ
in_steps_word M zero = 1
in_steps_word M (suc k) = let u = in_steps_word M k in bit_or u (step_word M u)

-- the start states of the settle count p
unfoldable pub starts_word : Machine → ℕ → ℕ
starts_word M zero = in_steps_word M M.states
starts_word M (suc p) = step_word M (starts_word M p)

module _ (M : Machine) (total : Total M) (some : 0 < M.states) (few : M.states ≤ 16) where
  step_holds : (u : ℕ) → ((s : ℕ) → Has u s → s < M.states) → Holds (Image (EntryTo M) (Has u)) (step_word M u)
  step_holds u states =
      holds_map
      (image_within (λ s t e. record { x = e.x; letter = e.letter; to = e.to }) (λ s h. h))
      (image_within (λ s t e. record { x = e.x; letter = e.letter; output = refl; to = e.to }) (λ s h. h))
      (image_word_lem M total few (λ o. true) u states)

  in_steps_hold : (k : ℕ) → Holds (InSteps M k) (in_steps_word M k)
  unfolding in_steps_word
  in_steps_hold zero = holds_one 0 (omega arith) refl (λ s e. e)
  in_steps_hold (suc k) =
      let a = in_steps_hold k in
      step_more k a (step_holds (in_steps_word M k) (in_steps_states M total some k a))

  reachable_holds : Holds (Reachable M) (in_steps_word M M.states)
  reachable_holds = last_step M total some M.states (omega arith) (in_steps_hold M.states)

  pub starts_hold : (p : ℕ) → Holds (StartAfter M p) (starts_word M p)
  unfolding starts_word
  starts_hold zero = after_none reachable_holds
  starts_hold (suc p) =
      let a = starts_hold p in
      after_more p a (step_holds (starts_word M p) (λ s h. after_bounded M total some p s (holds_member a s h)))
