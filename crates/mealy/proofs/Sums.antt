-- Sums of bits: a falling chain of symmetric sets of pairs below n stops falling within n (n + 1) / 2 rounds, and a chain of sets of numbers
-- below n that rises, or falls and is never empty, stops within n - 1.
use mathlib.Core.Path.{◌≡◌, refl}
use Prim.Native.Nat.{ℕ, zero, suc, ◌+◌, ◌-◌, ◌*◌, ◌≤◌, ◌<◌}
use native.Mathlib.Omega.{arith}
use native.Mathlib.Decide.{dec_le, ℕ_discrete, le_ind}
pub use Rattle.mealy.specs.Sum.{sum}
use Rattle.mealy.specs.Product.{pairs}

pub sum_le : (n : ℕ) (f g : ℕ → ℕ) → ((i : ℕ) → i < n → f i ≤ g i) → sum n f ≤ sum n g
sum_le zero f g h = omega arith
sum_le (suc n) f g h = omega (arith, h n (omega arith), sum_le n f g (λ i l. h i (omega arith)))

-- where each part is at most the other's, and the whole at least, each part is equal
pub sum_tight : (n : ℕ) (f g : ℕ → ℕ) → ((i : ℕ) → i < n → f i ≤ g i) → sum n g ≤ sum n f → (i : ℕ) → i < n → g i ≤ f i
sum_tight zero f g h e i l = absurd (omega arith)
sum_tight (suc n) f g h e i l =
    let z = sum_le n f g (λ i l. h i (omega arith)) in
    elim (ℕ_discrete i n) [
      | yes q ↦ rw q (omega arith)
      | no q ↦ sum_tight n f g (λ i l. h i (omega arith)) (omega (arith, h n (omega arith))) i (omega arith)
    ]

pub sum_bits : (n : ℕ) (f : ℕ → ℕ) → ((i : ℕ) → f i ≤ 1) → sum n f ≤ n
sum_bits zero f h = omega arith
sum_bits (suc n) f h = omega (arith, h n, sum_bits n f h)

-- a part is at most the whole
sum_part : (n : ℕ) (f : ℕ → ℕ) (i : ℕ) → i < n → f i ≤ sum n f
sum_part zero f i l = absurd (omega arith)
sum_part (suc n) f i l = elim (ℕ_discrete i n) [
  | yes e ↦ rw e (omega arith)
  | no e ↦ omega (arith, sum_part n f i (omega arith))
]

double : (n : ℕ) → 2 * sum n suc ≡ n * (n + 1)
double zero = refl
double (suc n) = omega (arith, double n)

pub sum_pairs : (n : ℕ) → sum n suc ≡ pairs n
sum_pairs n = let e = double n in omega arith

-- more numbers, no fewer pairs of them
pub pairs_rise : {m n : ℕ} → m ≤ n → pairs m ≤ pairs n
pairs_rise {m} {n} l =
    rw (← sum_pairs m, ← sum_pairs n) (le_ind (λ k. sum m suc ≤ sum k suc) (omega arith) (λ k _ h. omega arith) n l)

-- ---- a decision as a number

pub bit : {A : Type 0} → Dec A → ℕ
bit (yes a) = 1
bit (no a) = 0

pub bit_small : {A : Type 0} (d : Dec A) → bit d ≤ 1
unfolding bit
bit_small (yes a) = omega arith
bit_small (no a) = omega arith

pub bit_le : {A B : Type 0} (d : Dec A) (e : Dec B) → (A → B) → bit d ≤ bit e
unfolding bit
bit_le (yes a) (yes b) f = omega arith
bit_le (yes a) (no b) f = absurd (b (f a))
bit_le (no a) (yes b) f = omega arith
bit_le (no a) (no b) f = omega arith

pub bit_get : {A B : Type 0} (d : Dec A) (e : Dec B) → bit d ≤ bit e → A → B
unfolding bit
bit_get (yes a) (yes b) l x = b
bit_get (yes a) (no b) l x = absurd (omega arith)
bit_get (no a) e l x = absurd (a x)

bit_one : {A : Type 0} (d : Dec A) → A → 1 ≤ bit d
unfolding bit
bit_one (yes a) x = omega arith
bit_one (no a) x = absurd (a x)

-- ---- over the pairs s ≤ t < n

abbrev pub triangle : ℕ → (ℕ → ℕ → ℕ) → ℕ
triangle n f = sum n (λ t. sum (suc t) (λ s. f s t))

triangle_bits : (n : ℕ) (f : ℕ → ℕ → ℕ) → ((s t : ℕ) → f s t ≤ 1) → triangle n f ≤ sum n suc
triangle_bits n f h = sum_le n _ suc (λ t l. sum_bits (suc t) (λ s. f s t) (λ s. h s t))

triangle_tight : (n : ℕ) (f g : ℕ → ℕ → ℕ) → ((s t : ℕ) → f s t ≤ g s t) → triangle n g ≤ triangle n f → (s t : ℕ) → s ≤ t → t < n → g s t ≤ f s t
triangle_tight n f g h e s t l m =
    sum_tight (suc t) (λ s. f s t) (λ s. g s t) (λ s l. h s t)
    (sum_tight n _ _ (λ t l. sum_le (suc t) (λ s. f s t) (λ s. g s t) (λ s l. h s t)) e t m) s (omega arith)

-- ---- a measure does not fall for ever

pub stops : (n k : ℕ) (m : ℕ → ℕ) → m k ≤ n → (j : ℕ) × (j ≤ k + n) × (m j ≤ m (suc j))
stops zero k m h = (k, omega arith, omega arith)
stops (suc n) k m h = elim (dec_le (m k) (m (suc k))) [
  | yes l ↦ (k, omega arith, l)
  | no l ↦ let r = stops n (suc k) m (omega arith) in (r.0, omega arith, r.2)
]

-- ---- a falling chain of symmetric sets of pairs

module _ (N : ℕ) (χ : ℕ → ℕ → ℕ → ℕ) (bits : (k s t : ℕ) → χ k s t ≤ 1) (fall : (k s t : ℕ) → χ (suc k) s t ≤ χ k s t)
    (swap : (k s t : ℕ) → χ k s t ≤ χ k t s) where
  pub stops_falling : (K : ℕ) × (K ≤ pairs N) × ((s t : ℕ) → s < N → t < N → χ K s t ≤ χ (suc K) s t)
  stops_falling =
      let r = stops (sum N suc) 0 (λ k. triangle N (χ k)) (triangle_bits N (χ 0) (bits 0)) in (
        r.0,
        omega (arith, sum_pairs N),
        λ s t p q. elim (dec_le s t) [
          | yes l ↦ triangle_tight N (χ (suc r.0)) (χ r.0) (fall r.0) r.2 s t l q
          | no l ↦ omega (arith, swap r.0 s t, triangle_tight N (χ (suc r.0)) (χ r.0) (fall r.0) r.2 t s (omega arith) p, swap (suc r.0) t s)
        ],
      )

-- ---- chains of sets of numbers below N

module _ (N : ℕ) (P : ℕ → ℕ → Type 0) (decide : (k s : ℕ) → Dec (P k s)) (small : (k s : ℕ) → P k s → s < N) where
  -- the number of members
  count : ℕ → ℕ
  count k = sum N (λ s. bit (decide k s))

  count_most : (k : ℕ) → count k ≤ N
  unfolding count
  count_most k = sum_bits N (λ s. bit (decide k s)) (λ s. bit_small (decide k s))

  count_some : (k s : ℕ) → P k s → 1 ≤ count k
  unfolding count
  count_some k s h = omega (arith, bit_one (decide k s) h, sum_part N (λ s. bit (decide k s)) s (small k s h))

  -- of two sets, one within the other, with no fewer members: they have the same
  count_same : (k m : ℕ) → ((s : ℕ) → P k s → P m s) → count m ≤ count k → (s : ℕ) → P m s → P k s
  unfolding count
  count_same k m f l s h =
      bit_get (decide m s) (decide k s)
      (sum_tight N (λ s. bit (decide k s)) (λ s. bit (decide m s)) (λ s _. bit_le (decide k s) (decide m s) (f s)) l s (small m s h)) h

  -- one that rises from a first member
  pub stops_rising :
      ((k s : ℕ) → P k s → P (suc k) s) → (s : ℕ) → P 0 s → (K : ℕ) × (K < N) × ((s : ℕ) → P (suc K) s → P K s)
  stops_rising rise s h =
      let r = stops (N - 1) 0 (λ k. N - count k) (omega (arith, count_some 0 s h)) in (
        r.0,
        omega (arith, small 0 s h),
        count_same r.0 (suc r.0) (rise r.0) (omega (arith, count_most r.0, count_most (suc r.0))),
      )

  -- one that falls and is never empty
  pub stops_shrinking :
      ((k s : ℕ) → P (suc k) s → P k s) → ((k : ℕ) → (s : ℕ) × P k s) → (K : ℕ) × (K < N) × ((s : ℕ) → P K s → P (suc K) s)
  stops_shrinking fall some =
      let r = stops (N - 1) 0 (λ k. count k - 1) (omega (arith, count_most 0)) in
      let x = some r.0 in
      let y = some (suc r.0) in (
        r.0,
        omega (arith, small _ _ x.1),
        count_same (suc r.0) r.0 (fall r.0) (omega (arith, count_some _ _ x.1, count_some _ _ y.1)),
      )
