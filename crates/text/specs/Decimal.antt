-- A number as text, in ASCII.
use Rattle.std.specs.Prelude.{ℕ, zero, suc, ◌-◌, ◌/◌, cond, List, ◌++◌, ltb, length, replicate}
use Rattle.io.specs.Digits.{last_digits}

-- How many digits n has: one where it is below 10, otherwise one more than n / 10. The first number bounds the recursion, and any that is
-- not below n gives the same.
unfoldable pub digit_count_within : ℕ → ℕ → ℕ
digit_count_within zero n = 1
digit_count_within (suc k) n = cond {A = ℕ} (ltb n 10) 1 (suc (digit_count_within k (n / 10)))

unfoldable pub digit_count : ℕ → ℕ
digit_count n = digit_count_within n n

-- A number in decimal, the first digit first, without leading zeros.
unfoldable pub decimal : ℕ → List ℕ
decimal n = last_digits 10 (digit_count n) n

-- A number at the right end of `width` bytes, with the byte `pad` in front of it.
abbrev pub padded_to : ℕ → ℕ → ℕ → List ℕ
padded_to width pad n = replicate (width - length (decimal n)) pad ++ decimal n
