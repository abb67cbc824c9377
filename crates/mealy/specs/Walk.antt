-- Walks of the product machine, and the walks that a looped pair is made of.
use Rattle.std.specs.Prelude.{ℕ, ◌+◌, ◌<◌, ◌≡◌, List, length}
use Rattle.mealy.specs.Machine.{Machine, end}
use Rattle.mealy.specs.Window.{EqualOutputs}
use Rattle.mealy.specs.LoopedPair.{LoopedPair, first, second, letters_from, unlooped}

-- Two runs in step with equal outputs, from s on xs and from t on ys, and the states u and v where they end.
pub record Walk (M : Machine) (s t : ℕ) (xs ys : List ℕ) (u v : ℕ) : Type 0 where
  pub equal : EqualOutputs M (length xs) s t xs ys
  pub end₁ : end M s xs ≡ u
  pub end₂ : end M t ys ≡ v

-- a part of a pair: its n letters from `place` on lead from (s, t) to (u, v)
abbrev pub Part : Machine → LoopedPair → ℕ → ℕ → ℕ → ℕ → ℕ → ℕ → Type 0
Part M p place n s t u v = Walk M s t (letters_from p first place n) (letters_from p second place n) u v

-- such a part that has a letter and leads back to (s, t)
pub record Loop (M : Machine) (p : LoopedPair) (place n s t : ℕ) : Type 0 where
  pub letter : 0 < n
  pub walk : Part M p place n s t s t

-- A pair in three parts: the back loop; the lead-in, the differing letter and the lead-out, which lead to (u, v); the forward loop.
-- With the conflict at the mark this is what makes a pair valid (`valid↔parts` of proofs/PairParts.antt).
pub record Parts (M : Machine) (p : LoopedPair) : Type 0 where
  pub u : ℕ
  pub v : ℕ
  pub back : Loop M p 0 p.back_loop p.s p.t
  pub between : Part M p p.back_loop (p.lead_in + 1 + p.lead_out) p.s p.t u v
  pub forward : Loop M p (unlooped p) p.forward_loop u v
