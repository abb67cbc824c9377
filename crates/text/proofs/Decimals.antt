-- Laws of numbers in decimal: how many digits, no leading zero, and what they read as.
use mathlib.Core.Path.{◌≡◌, refl, sym, ap, ◌∙◌}
use mathlib.Core.List.{List, [], ◌∷◌, ◌++◌}
use Prim.Native.Nat.{ℕ, zero, suc, ◌+◌, ◌-◌, ◌*◌, ◌/◌, ◌%◌, ◌^◌, ◌<◌, ◌≤◌}
use native.Mathlib.Nat.{pow-suc, one-le-pow}
use native.Mathlib.Decide.{dec_lt}
use native.Mathlib.Numerals.{unary_clauses}
use native.Mathlib.Omega.{arith}
use lib.ListN.{length, get_or, length-append, length-replicate}
use borrow.Author.Tests.{lt-ltb, le-ltb}
use Rattle.io.specs.Digits.{hex_digit_ascii, last_digits, IsDigitCount}
use Rattle.text.specs.Decimal.{digit_count_within, digit_count, decimal, padded_to}

-- ---- how many digits

within_small : (k n : ℕ) → n < 10 → digit_count_within k n ≡ 1
unfolding digit_count_within
within_small zero n l = refl
within_small (suc k) n l = rw (lt-ltb n 10 l)

within_more : (k n : ℕ) → 10 ≤ n → digit_count_within (suc k) n ≡ suc (digit_count_within k (n / 10))
unfolding digit_count_within
within_more k n l = rw (le-ltb n 10 l)

-- the bound does not matter
within_same : (k m n : ℕ) → n ≤ k → n ≤ m → digit_count_within k n ≡ digit_count_within m n
unfolding digit_count_within
within_same zero m n p q = sym (within_small m n (omega arith))
within_same (suc k) zero n p q = within_small (suc k) n (omega arith)
within_same (suc k) (suc m) n p q = elim (dec_lt n 10) [
  | yes l ↦ within_small (suc k) n l ∙ sym (within_small (suc m) n l)
  | no l ↦
      let h : 10 ≤ n = omega arith in
      within_more k n h ∙ ap suc (within_same k m (n / 10) (omega arith) (omega arith)) ∙ sym (within_more m n h)
]

pub places_small : (n : ℕ) → n < 10 → digit_count n ≡ 1
unfolding digit_count
places_small n l = within_small n n l

pub places_more : (n : ℕ) → 10 ≤ n → digit_count n ≡ suc (digit_count (n / 10))
unfolding digit_count
places_more zero l = absurd (omega arith)
places_more (suc n) l =
    within_more n (suc n) l ∙ ap suc (within_same n (suc n / 10) (suc n / 10) (omega arith) (omega arith))

-- the number of digits is the least that holds n, and no other is
pub places_of : (k n : ℕ) → IsDigitCount 10 1 n k → k ≡ digit_count n
places_of zero n f = absurd (omega (arith, f.0))
places_of (suc zero) n f = sym (places_small n (omega (arith, f.1)))
places_of (suc (suc j)) n f =
    let p : 10 ^ suc (suc j) ≡ 10 ^ suc j * 10 = pow-suc 10 (suc j) in
    let q : 10 ^ suc j ≡ 10 ^ j * 10 = pow-suc 10 j in
    let l : 10 ^ j * 10 ≤ n = simp unary_clauses at (f.2 (omega arith)) in
    let some : 1 ≤ 10 ^ j = one-le-pow j 10 (omega arith) in
    let h : 10 ≤ n = omega arith in
    let rest : IsDigitCount 10 1 (n / 10) (suc j) = (omega arith, omega (arith, f.1), λ m. simp unary_clauses (omega arith)) in
    ap suc (places_of (suc j) (n / 10) rest) ∙ sym (places_more n h)

length_digits : (k n : ℕ) → length (last_digits 10 k n) ≡ k
length_digits zero n = refl
length_digits (suc k) n = length-append (last_digits 10 k (n / 10)) _ ∙ (let h = length_digits k (n / 10) in omega arith)

pub length_decimal : (n : ℕ) → length (decimal n) ≡ digit_count n
unfolding decimal
length_decimal n = length_digits (digit_count n) n

-- the fewest digits that hold n are its text
pub decimal_of : (k n : ℕ) {bytes : List ℕ} → IsDigitCount 10 1 n k → bytes ≡ last_digits 10 k n → bytes ≡ decimal n
unfolding decimal
decimal_of k n f e = rw (← places_of k n f) e

pub length_of : (k n : ℕ) → IsDigitCount 10 1 n k → length (decimal n) ≡ k
length_of k n f = length_decimal n ∙ sym (places_of k n f)

-- a number below a power of ten
pub decimal_short : (k n : ℕ) → n < 10 ^ suc k → length (decimal n) ≤ suc k
decimal_short k n l = rw (length_decimal n) (short k n l)
  where
    short : (k n : ℕ) → n < 10 ^ suc k → digit_count n ≤ suc k
    short zero n l = omega (arith, places_small n (omega arith))
    short (suc k) n l = elim (dec_lt n 10) [
      | yes m ↦ omega (arith, places_small n m)
      | no m ↦
          let p : 10 ^ suc (suc k) ≡ 10 ^ suc k * 10 = pow-suc 10 (suc k) in
          omega (arith, places_more n (omega arith), short k (n / 10) (omega arith))
    ]

pub three_digits : (n : ℕ) → n < 1000 → length (decimal n) ≤ 3
three_digits n l = decimal_short 2 n l

-- ---- digit by digit

glyph_digit : (d : ℕ) → d < 10 → hex_digit_ascii d ≡ 48 + d
glyph_digit d l = rw (lt-ltb d 10 l)

pub decimal_small : (n : ℕ) → n < 10 → decimal n ≡ (48 + n) ∷ []
unfolding decimal
decimal_small n l = let e : n % 10 ≡ n = omega arith in rw (places_small n l, e, glyph_digit n l)

pub decimal_more : (n : ℕ) → 10 ≤ n → decimal n ≡ decimal (n / 10) ++ ((48 + n % 10) ∷ [])
unfolding decimal
decimal_more n l = let e : n % 10 < 10 = omega arith in rw (places_more n l, glyph_digit (n % 10) e)

-- ---- no leading zero, but for 0 itself

first_digit : (d : ℕ) (xs : List ℕ) (y : ℕ) → 0 < length xs → get_or (xs ++ (y ∷ [])) 0 d ≡ get_or xs 0 d
first_digit d [] y l = absurd (omega arith)
first_digit d (x ∷ xs) y l = refl

some_digit : (n : ℕ) → 0 < length (decimal n)
some_digit n = elim (dec_lt n 10) [
  | yes l ↦ omega (arith, length_decimal n, places_small n l)
  | no l ↦ omega (arith, length_decimal n, places_more n (omega arith))
]

-- by recursion on a bound of n
nonzero_within : (k n : ℕ) → n ≤ k → 0 < n → 48 < get_or (decimal n) 0 0
nonzero_within zero n p q = absurd (omega arith)
nonzero_within (suc k) n p q = elim (dec_lt n 10) [
  | yes l ↦ rw (decimal_small n l) (omega arith)
  | no l ↦
      let h = nonzero_within k (n / 10) (omega arith) (omega arith) in
      rw (decimal_more n (omega arith), first_digit 0 (decimal (n / 10)) (48 + n % 10) (some_digit (n / 10))) h
]

pub no_leading_zero : (n : ℕ) → 0 < n → 48 < get_or (decimal n) 0 0
no_leading_zero n l = nonzero_within n n (omega arith) l

-- ---- what the digits read as

-- the number that digits read as, behind the digits of v
unfoldable pub read_from : ℕ → List ℕ → ℕ
read_from v [] = v
read_from v (x ∷ xs) = read_from (v * 10 + (x - 48)) xs

read_last : (v : ℕ) (xs : List ℕ) (y : ℕ) → read_from v (xs ++ (y ∷ [])) ≡ read_from v xs * 10 + (y - 48)
unfolding read_from
read_last v [] y = refl
read_last v (x ∷ xs) y = read_last (v * 10 + (x - 48)) xs y

reads_within : (k n : ℕ) → n ≤ k → read_from 0 (decimal n) ≡ n
unfolding read_from
reads_within zero n p = let e : n ≡ 0 = omega arith in rw (e, decimal_small 0 (omega arith))
reads_within (suc k) n p = elim (dec_lt n 10) [
  | yes l ↦ rw (decimal_small n l) (omega arith)
  | no l ↦
      let e = reads_within k (n / 10) (omega arith) in
      rw (decimal_more n (omega arith), read_last 0 (decimal (n / 10)) (48 + n % 10), e) (omega arith)
]

pub decimal_reads : (n : ℕ) → read_from 0 (decimal n) ≡ n
decimal_reads n = reads_within n n (omega arith)

-- ---- padded to a width

pub padded_length : (width pad n : ℕ) → length (decimal n) ≤ width → length (padded_to width pad n) ≡ width
padded_length width pad n l = simp (length-append, length-replicate) (omega arith)
