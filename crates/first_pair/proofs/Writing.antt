-- The lowest letters written into a buffer one after the other: before the first, with one more, with the last.
use mathlib.Core.Path.{◌≡◌, refl, ap, ◌∙◌}
use mathlib.Core.List.{List, [], ◌∷◌, ◌++◌, append-nil, append_assoc}
use Prim.Native.Nat.{ℕ, zero, suc, ◌+◌, ◌*◌, ◌≤◌, ◌<◌}
use native.Mathlib.Omega.{arith}
use lib.ListN.{get_or}
use Rattle.mealy.specs.Machine.{Machine}
use Rattle.first_pair.specs.Reach.{Pairs, Into}
use Rattle.first_pair.specs.Lowest.{LowestOf, Lowest, there, lowest, bytes_at}

-- ---- the bytes of a buffer

pub bytes_same :
    (xs ys : List ℕ) (n place : ℕ) → ((a : ℕ) → 2 * place ≤ a → a < 2 * (place + n) → get_or xs a 0 ≡ get_or ys a 0) →
    bytes_at xs place n ≡ bytes_at ys place n
bytes_same xs ys zero place h = refl
bytes_same xs ys (suc n) place h =
    let e = h (2 * place + 0) (omega arith) (omega arith) in
    let f = h (2 * place + 1) (omega arith) (omega arith) in
    let g = bytes_same xs ys n (suc place) (λ a l m. h a (omega arith) (omega arith)) in
    cc

pub bytes_more :
    (xs : List ℕ) (n m place at : ℕ) → n + 1 ≡ m → place + n ≡ at →
    bytes_at xs place m ≡ bytes_at xs place n ++ (get_or xs (2 * at + 0) 0 ∷ get_or xs (2 * at + 1) 0 ∷ [])
bytes_more xs n zero place at e f = absurd (omega arith)
bytes_more xs zero (suc zero) place at e f = let g : place ≡ at = omega arith in rw g
bytes_more xs zero (suc (suc m)) place at e f = absurd (omega arith)
bytes_more xs (suc n) (suc m) place at e f =
    ap (λ l. get_or xs (2 * place + 0) 0 ∷ get_or xs (2 * place + 1) 0 ∷ l) (bytes_more xs n m (suc place) at (omega arith) (omega arith))

-- ---- so far

-- Of n letters from (u₀, v₀), those in `written` are the lowest, and lead to (u, v); `rest` are to come. Whatever lowest letters
-- come, the whole is lowest.
pub record LowestSoFar (M : Machine) (L : ℕ → Pairs) (n u₀ v₀ : ℕ) (written : List ℕ) (rest u v : ℕ) : Type 0 where
  pub on : (bytes : List ℕ) (x y : ℕ) → Lowest M L rest u v bytes x y → Lowest M L n u₀ v₀ (written ++ bytes) x y

module _ {M : Machine} {L : ℕ → Pairs} {n u₀ v₀ : ℕ} where
  pub so_far_none : LowestSoFar M L n u₀ v₀ [] n u₀ v₀
  so_far_none = record { on = λ bytes x y w. w }

  pub so_far_more :
      {written : List ℕ} {rest u v i j : ℕ} → LowestSoFar M L n u₀ v₀ written (suc rest) u v → LowestOf (Into M (L rest) u v) i j →
      LowestSoFar M L n u₀ v₀ (written ++ (i ∷ j ∷ [])) rest (M.next u i) (M.next v j)
  so_far_more {written} {i = i} {j = j} h e = record {
    on = λ bytes x y w. rw (append_assoc written (i ∷ j ∷ []) bytes) (h.on (i ∷ j ∷ bytes) x y (lowest e w));
  }

  pub so_far_all : {written : List ℕ} {u v : ℕ} → LowestSoFar M L n u₀ v₀ written 0 u v → L 0 u v → Lowest M L n u₀ v₀ written u v
  so_far_all {written} {u} {v} h e = rw append-nil at (h.on [] u v (there e))

  -- one more letter in the buffer, at the place after the k letters written
  pub so_far_write :
      (xs ys : List ℕ) (place k m at rest u v i j : ℕ) → k + 1 ≡ m → place + k ≡ at →
      ((a : ℕ) → 2 * place ≤ a → a < 2 * at → get_or xs a 0 ≡ get_or ys a 0) → get_or ys (2 * at + 0) 0 ≡ i → get_or ys (2 * at + 1) 0 ≡ j →
      LowestSoFar M L n u₀ v₀ (bytes_at xs place k) (suc rest) u v → LowestOf (Into M (L rest) u v) i j →
      LowestSoFar M L n u₀ v₀ (bytes_at ys place m) rest (M.next u i) (M.next v j)
  so_far_write xs ys place k m at rest u v i j e f same a b h o =
      let g : bytes_at ys place m ≡ bytes_at xs place k ++ (i ∷ j ∷ []) =
      bytes_more ys k m place at e f ∙ cc (bytes_same xs ys k place (λ a l m. same a l (omega arith))) in
      rw g (so_far_more h o)
