-- The order of looped pairs, and the first valid one (document 02, 2/13).
use Rattle.std.specs.Prelude.{ℕ, ◌*◌, ◌≤◌, ◌≡◌, List, [], ◌∷◌, take}
use Rattle.mealy.specs.Setting.{Setting}
use Rattle.mealy.specs.LoopedPair.{LoopedPair, letters, Valid}

-- The lexicographic order of lists of numbers: xs comes no later than ys.
abbrev pub Lexicographic : List ℕ → List ℕ → Type 0
Lexicographic [] ys = Unit {0}
Lexicographic (x ∷ xs) [] = ⊥
Lexicographic (x ∷ xs) (y ∷ ys) = (x ≤ y) × (x ≡ y → Lexicographic xs ys)

-- What pairs are compared by, one number after the other (2/13, second and third sentences). The bytes are those of the letters, as they lie
-- in the buffer.
abbrev pub key : LoopedPair → List ℕ
key p =
    letters p ∷ p.s ∷ p.t ∷ p.back_loop ∷ p.lead_in ∷ p.lead_out ∷ p.forward_loop ∷ take (2 * letters p) p.bytes

-- The pair is valid, and comes no later than any other that is valid, whatever its lengths.
pub record First (S : Setting) (p : LoopedPair) : Type 0 where
  pub valid : Valid S p
  pub first : (q : LoopedPair) → Valid S q → Lexicographic (key p) (key q)
