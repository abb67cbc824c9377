-- Numbers in decimal, spelled out: at both sides of a number of digits, and the greatest `usize`.
use mathlib.Core.Path.{◌≡◌, refl}
use mathlib.Core.List.{[], ◌∷◌}
use native.Mathlib.Omega.{arith}
use Rattle.text.specs.Decimal.{digit_count_within, digit_count, decimal, padded_to}
use Rattle.text.proofs.Decimals.{decimal_of}

one_digit : (decimal 0 ≡ 48 ∷ []) × (decimal 9 ≡ 57 ∷ [])
unfolding decimal digit_count digit_count_within
one_digit = (refl, refl)

two_digits : (decimal 10 ≡ 49 ∷ 48 ∷ []) × (decimal 99 ≡ 57 ∷ 57 ∷ [])
unfolding decimal digit_count digit_count_within
two_digits = (refl, refl)

three_digits : (decimal 100 ≡ 49 ∷ 48 ∷ 48 ∷ []) × (decimal 136 ≡ 49 ∷ 51 ∷ 54 ∷ []) × (decimal 999 ≡ 57 ∷ 57 ∷ 57 ∷ [])
unfolding decimal digit_count digit_count_within
three_digits = (refl, refl, refl)

twenty_digits :
    49 ∷ 56 ∷ 52 ∷ 52 ∷ 54 ∷ 55 ∷ 52 ∷ 52 ∷ 48 ∷ 55 ∷ 51 ∷ 55 ∷ 48 ∷ 57 ∷ 53 ∷ 53 ∷ 49 ∷ 54 ∷ 49 ∷ 53 ∷ [] ≡ decimal 18446744073709551615
twenty_digits = decimal_of 20 18446744073709551615 (omega arith, omega arith, λ l. omega arith) refl

-- "00042" and " 42"
forty_two : (padded_to 5 48 42 ≡ 48 ∷ 48 ∷ 48 ∷ 52 ∷ 50 ∷ []) × (padded_to 3 32 42 ≡ 32 ∷ 52 ∷ 50 ∷ [])
unfolding decimal digit_count digit_count_within
forty_two = (refl, refl)
