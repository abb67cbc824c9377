-- The letters of a window as the digits of a number.
use Rattle.std.specs.Prelude.{ℕ, zero, suc, ◌+◌, ◌*◌, ◌^◌, ◌/◌, ◌%◌, List, [], ◌∷◌, length}

-- The index of a window and the window of an index, to base o: the first letter is the highest digit ("Decoding", last sentence).
unfoldable pub index_of : ℕ → List ℕ → ℕ
index_of o [] = 0
index_of o (x ∷ w) = x * o ^ length w + index_of o w

unfoldable pub window_at : ℕ → ℕ → ℕ → List ℕ
window_at o zero k = []
window_at o (suc n) k = k / o ^ n ∷ window_at o n (k % o ^ n)
