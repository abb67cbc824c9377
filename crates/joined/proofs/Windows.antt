-- Windows of two machines in a row add up: where b a works for the first and c d for the second, b + c with a + d works for the
-- joined machine.
use mathlib.Core.Path.{◌≡◌, sym, ap, ◌∙◌}
use mathlib.Core.List.{List}
use Prim.Native.Nat.{ℕ, ◌+◌, ◌<◌}
use native.Mathlib.Omega.{arith}
use lib.ListN.{length, get_or, take, drop}
use Rattle.mealy.specs.Machine.{Machine, outs}
use Rattle.mealy.specs.Reachable.{Reachable}
use Rattle.mealy.specs.Setting.{from_reachable, after_letters}
use Rattle.mealy.specs.Window.{Works}
use Rattle.mealy.proofs.RunParts.{length_outs}
use Rattle.mealy.proofs.ReachableStates.{reachable_closed, reachable_bounded}
use Rattle.mealy.proofs.SameSettings.{same_sym, works_same}
use Rattle.mealy.proofs.StartStates.{same_zero}
use Rattle.joined.specs.Joined.{first_state, second_state, joined, Joinable}
use Rattle.joined.proofs.Parts.{equal_parts, same_present}
use Rattle.joined.proofs.Reaching.{first_reachable, second_reachable}
use Rattle.joined.proofs.Runs.{joined_state_lem, second_below, letters_outs, joined_outs}

module _ (A B : Machine) (j : Joinable A B) where
  -- runs from reachable states
  pub reachable_add :
      (b a c d : ℕ) → Works (from_reachable A) b a → Works (from_reachable B) c d → Works (from_reachable (joined A B)) (b + c) (a + d)
  reachable_add b a c d works₁ works₂ q r xs ys p₁ p₂ w conflict = conflict letter
    where
      first : (q : ℕ) → Reachable (joined A B) q → Reachable A (first_state B q)
      first = first_reachable A B j

      second : (q : ℕ) → Reachable (joined A B) q → Reachable B (second_state B q)
      second = second_reachable A B j

      -- what the first machine puts out in the two runs
      us : List ℕ
      us = outs A (first_state B q) xs

      vs : List ℕ
      vs = outs A (first_state B r) ys

      below₁ : first_state B q < A.states
      below₁ = reachable_bounded A j.total₁ j.states₁ _ (first q p₁)

      below₂ : first_state B r < A.states
      below₂ = reachable_bounded A j.total₁ j.states₁ _ (first r p₂)

      long₁ : length us ≡ b + c + 1 + (a + d)
      long₁ = length_outs A _ xs ∙ w.length₁

      long₂ : length vs ≡ b + c + 1 + (a + d)
      long₂ = length_outs A _ ys ∙ w.length₂

      written : outs B (second_state B q) us ≡ outs B (second_state B r) vs
      written =
          sym (joined_outs A B j _ _ xs below₁ (second_below A B j q) w.letters₁)
          ∙ ap (λ u. outs (joined A B) u xs) (joined_state_lem B q)
          ∙ w.outputs
          ∙ sym (ap (λ u. outs (joined A B) u ys) (joined_state_lem B r))
          ∙ joined_outs A B j _ _ ys below₂ (second_below A B j r) w.letters₂

      -- the window of the second shows these letters from place c on
      middle : (i : ℕ) → i < b + 1 + a → get_or us (c + i) 0 ≡ get_or vs (c + i) 0
      middle i l =
          let e : i + c ≡ c + i = omega arith in
          rw e at
          (same_present (from_reachable B) (reachable_closed B) (λ x y f. f) c d works₂ (second_state B q) (second_state B r) us vs i
          (second q p₁) (second r p₂) (letters_outs A B j _ xs below₁ w.letters₁) (letters_outs A B j _ ys below₂ w.letters₂)
          (omega (arith, long₁)) (omega (arith, long₂)) (ap (λ u. take (c + 1 + d) (drop i u)) written))

      -- and from them the window of the first shows the letter at place b + c
      letter : get_or xs (b + c) 0 ≡ get_or ys (b + c) 0
      letter =
          let e : c + b ≡ b + c = omega arith in
          rw e at
          (same_present (from_reachable A) (reachable_closed A) (λ x y f. f) b a works₁ (first_state B q) (first_state B r) xs ys c
          (first q p₁) (first r p₂) w.letters₁ w.letters₂ (omega (arith, w.length₁)) (omega (arith, w.length₂))
          (equal_parts (b + 1 + a) us vs c (omega (arith, long₁)) (omega (arith, long₂)) middle))

  -- windows with settle count 0
  pub windows_add :
      (b a c d : ℕ) → Works (after_letters A 0) b a → Works (after_letters B 0) c d → Works (after_letters (joined A B) 0) (b + c) (a + d)
  windows_add b a c d works₁ works₂ =
      works_same (same_zero (joined A B)) (b + c) (a + d)
      (reachable_add b a c d (works_same (same_sym (same_zero A)) b a works₁) (works_same (same_sym (same_zero B)) c d works₂))
