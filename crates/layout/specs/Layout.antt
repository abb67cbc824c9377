-- The layout of the result buffer, which docs/c-interface.md describes.
use Rattle.std.specs.Prelude.{ℕ, ◌*◌, List, [], ◌∷◌, ◌++◌, length, take, drop}
use Rattle.coder.specs.BigEndian.{big_endian, from_big_endian}

-- The bytes of the result buffer that each call wants.
abbrev pub result_bytes : ℕ
result_bytes = 64

-- A number in 8 bytes, big-endian.
abbrev pub field : ℕ → List ℕ
field x = big_endian 8 x

-- The fields of some numbers, one after the other: field k stands at bytes 8 k to 8 k + 7.
unfoldable pub fields_of : List ℕ → List ℕ
fields_of [] = []
fields_of (n ∷ ns) = field n ++ fields_of ns

-- A result buffer with numbers in its first fields; the bytes past them stay ("Numbers of refusal", the sentence on bytes past what is
-- written).
abbrev pub with_fields : List ℕ → List ℕ → List ℕ
with_fields result ns = fields_of ns ++ drop (8 * length ns) result

-- Field k of a result buffer, as a host reads it. It is the number written there (`field_at_lem` of proofs/Reading.antt).
abbrev pub field_at : List ℕ → ℕ → ℕ
field_at result k = from_big_endian (take 8 (drop (8 * k) result))
