-- The letters i and j as one number, 16 i + j: the lowest number is the lowest i, and of these the lowest j.
use mathlib.Core.Path.{◌≡◌}
use Prim.Native.Nat.{ℕ, ◌+◌, ◌*◌, ◌/◌, ◌%◌, ◌≤◌, ◌<◌}
use native.Mathlib.Omega.{arith}
use native.Mathlib.Decide.{dec_lt}
use borrow.Author.Count.{below_more}
use Rattle.first_pair.specs.Lowest.{LowestOf}

-- no letters with a number below k are in A
pub record NoneBelow (A : ℕ → ℕ → Type 0) (k : ℕ) : Type 0 where
  pub not : (m : ℕ) → m < k → A (m / 16) (m % 16) → ⊥

module _ {A : ℕ → ℕ → Type 0} where
  pub none_yet : NoneBelow A 0
  none_yet = record { not = λ m l h. omega arith }

  pub none_more : {k : ℕ} → NoneBelow A k → (A (k / 16) (k % 16) → ⊥) → NoneBelow A (k + 1)
  none_more {k} none h = record { not = below_more (λ m. A (m / 16) (m % 16) → ⊥) k none.not h }

  pub not_below : {k i j : ℕ} → NoneBelow A k → A i j → j < 16 → k ≤ 16 * i + j
  not_below {k} {i} {j} none h l =
      elim (dec_lt (16 * i + j) k) [
        | yes p ↦
            let x : (16 * i + j) / 16 ≡ i = omega arith in
            let y : (16 * i + j) % 16 ≡ j = omega arith in
            absurd (none.not (16 * i + j) p (rw (x, y) h))
        | no p ↦ omega arith
      ]

  pub lowest_number : {k : ℕ} → ((i j : ℕ) → A i j → j < 16) → NoneBelow A k → A (k / 16) (k % 16) → LowestOf A (k / 16) (k % 16)
  lowest_number {k} low none h = record {
    holds = h;
    lowest = λ i j a.
        let l = low i j a in
        let p = not_below none a l in
        (omega arith, λ e. omega arith);
  }
