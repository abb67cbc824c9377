-- Lists of letters below a number: each letter of one, and one from its letters.
use mathlib.Core.Path.{◌≡◌}
use mathlib.Core.List.{List, [], ◌∷◌}
use Prim.Native.Nat.{ℕ, zero, suc, ◌+◌, ◌*◌, ◌/◌, ◌%◌, ◌≤◌, ◌<◌}
use native.Mathlib.Decide.{ℕ_discrete}
use native.Mathlib.Omega.{arith}
use lib.ListN.{length, get_or, take}
use Rattle.mealy.specs.Machine.{Letters}

pub letter_at_lem : (n : ℕ) (xs : List ℕ) → Letters n xs → (k : ℕ) → k < length xs → get_or xs k 0 < n
letter_at_lem n [] h k l = absurd (omega arith)
letter_at_lem n (x ∷ xs) h zero l = h.0
letter_at_lem n (x ∷ xs) h (suc k) l = letter_at_lem n xs h.1 k (omega arith)

pub letters_higher : (m n : ℕ) (xs : List ℕ) → m ≤ n → Letters m xs → Letters n xs
letters_higher m n [] l h = tt
letters_higher m n (x ∷ xs) l h = (omega (arith, h.0), letters_higher m n xs l h.1)

-- the first n of a list
letters_front : (m n : ℕ) (xs : List ℕ) → n ≤ length xs → ((k : ℕ) → k < n → get_or xs k 0 < m) → Letters m (take n xs)
letters_front m zero xs l h = tt
letters_front m (suc n) [] l h = tt
letters_front m (suc n) (x ∷ xs) l h = (h 0 (omega arith), letters_front m n xs (omega arith) (λ k lt. h (suc k) (omega arith)))

-- two by two: of a looped pair the letters of its two runs, of an entry the next state and the output letter
pub letters_by_two :
    (m n : ℕ) (xs : List ℕ) → 2 * n ≤ length xs → ((j : ℕ) → j < n → get_or xs (2 * j) 0 < m) →
    ((j : ℕ) → j < n → get_or xs (2 * j + 1) 0 < m) → Letters m (take (2 * n) xs)
letters_by_two m n xs l f g =
    letters_front m (2 * n) xs l (λ k lt. elim (ℕ_discrete (k % 2) 0) [
      | yes e ↦ (let z : 2 * (k / 2) ≡ k = omega arith in rw z at (f (k / 2) (omega arith)))
      | no e ↦ (let z : 2 * (k / 2) + 1 ≡ k = omega arith in rw z at (g (k / 2) (omega arith)))
    ])
