-- Looped pairs are valid for every settle count or for none: their two states stand on loops, which can be gone round before the run begins.
use mathlib.Core.Logic.{◌↔◌, ◌≢◌}
use Prim.Native.Nat.{ℕ}
use native.Mathlib.Omega.{arith}
use Rattle.mealy.specs.Machine.{Machine}
use Rattle.mealy.specs.Setting.{from_reachable, after_letters}
use Rattle.mealy.specs.First.{First}
use Rattle.mealy.specs.LoopedPair.{LoopedPair, Run, letters_from, letters, start_of, Valid}
use Rattle.mealy.proofs.PairParts.{length_letters}
use Rattle.mealy.proofs.SameSettings.{starting, letters_fewer}
use Rattle.mealy.proofs.StartStates.{start_reachable, start_loop}

-- a pair that is valid with some start states is so with any that its two runs start in
valid_from :
    (M : Machine) (C : ℕ → ℕ → Type 0) {A B : ℕ → Type 0} (q : LoopedPair) → ((r : Run) → B (start_of q r)) →
    Valid (starting M C A) q → Valid (starting M C B) q
valid_from M C q start v =
    record {
      held = v.held;
      start = start;
      below = v.below;
      back_letter = v.back_letter;
      forward_letter = v.forward_letter;
      outputs = v.outputs;
      conflict = v.conflict;
      back_closed = v.back_closed;
      forward_closed = v.forward_closed;
    }

module _ (M : Machine) (p : ℕ) where
  pub valid_after : (q : LoopedPair) → Valid (from_reachable M) q ↔ Valid (after_letters M p) q
  valid_after q = (
    (λ v.
        valid_from M (λ i j. i ≢ j) q
        (λ r.
        start_loop M (start_of q r) (letters_from q r 0 q.back_loop) (omega (arith, length_letters q r q.back_loop 0, v.back_letter))
        (letters_fewer M.inputs q r q.back_loop (letters q) 0 (omega arith) (v.below r)) (v.back_closed r) (v.start r) p)
        v),
    (λ v. valid_from M (λ i j. i ≢ j) q (λ r. start_reachable M p (start_of q r) (v.start r)) v),
  )

  pub first_after : (q : LoopedPair) → First (after_letters M p) q → First (from_reachable M) q
  first_after q f = record { valid = (valid_after q).1 f.valid; first = λ r v. f.first r ((valid_after r).0 v) }
