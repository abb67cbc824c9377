-- Numbers as bytes, the highest digit to base 256 first.
use Rattle.std.specs.Prelude.{ℕ, zero, suc, ◌+◌, ◌*◌, ◌/◌, ◌%◌, List, [], ◌∷◌, ◌++◌}

-- The lowest n digits of x, as n bytes.
unfoldable pub big_endian : ℕ → ℕ → List ℕ
big_endian zero x = []
big_endian (suc n) x = big_endian n (x / 256) ++ (x % 256 ∷ [])

-- the number whose digits follow those of v
abbrev pub digits_after : ℕ → List ℕ → ℕ
digits_after v [] = v
digits_after v (d ∷ ds) = digits_after (v * 256 + d) ds

-- The number that bytes stand for. For bytes it is `big_endian`'s inverse (proofs/BigEndian.antt).
abbrev pub from_big_endian : List ℕ → ℕ
from_big_endian ds = digits_after 0 ds
