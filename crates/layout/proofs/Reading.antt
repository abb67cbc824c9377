-- A host reads back what was written: field k of a result is the k-th number, where that is one that 8 bytes hold; and past the fields what
-- was there.
use mathlib.Core.Path.{◌≡◌, refl, ap, ◌∙◌}
use mathlib.Core.List.{List, [], ◌∷◌, ◌++◌}
use Prim.Native.Nat.{ℕ, zero, suc, ◌*◌, ◌<◌}
use native.Mathlib.Nat.{le_of_suc-le-suc}
use native.Mathlib.Omega.{arith}
use lib.ListN.{length, get_or, take, drop}
use Rattle.coder.specs.BigEndian.{big_endian, from_big_endian}
use Rattle.coder.proofs.BigEndian.{number_back}
use Rattle.layout.specs.Layout.{field, fields_of, with_fields, field_at}

place : (ns rest : List ℕ) (k : ℕ) → k < length ns → take 8 (drop (8 * k) (fields_of ns ++ rest)) ≡ field (get_or ns k 0)
unfolding fields_of big_endian
place [] rest k l = absurd (omega arith)
place (n ∷ ns) rest zero l = refl
place (n ∷ ns) rest (suc k) l =
    let e : 8 * suc k ≡ suc (suc (suc (suc (suc (suc (suc (suc (8 * k)))))))) = omega arith in
    rw e (place ns rest k (le_of_suc-le-suc l))

pub field_at_lem :
    (result ns : List ℕ) (k : ℕ) → k < length ns → get_or ns k 0 < 18446744073709551616 →
    field_at (with_fields result ns) k ≡ get_or ns k 0
field_at_lem result ns k l m = ap from_big_endian (place ns _ k l) ∙ number_back 8 (get_or ns k 0) m

-- what stands past the fields stays
past : (ns rest : List ℕ) → drop (8 * length ns) (fields_of ns ++ rest) ≡ rest
unfolding fields_of big_endian
past [] rest = refl
past (n ∷ ns) rest =
    let e : 8 * suc (length ns) ≡ suc (suc (suc (suc (suc (suc (suc (suc (8 * length ns)))))))) = omega arith in
    rw e (past ns rest)

pub past_fields : (result ns : List ℕ) → drop (8 * length ns) (with_fields result ns) ≡ drop (8 * length ns) result
past_fields result ns = past ns (drop (8 * length ns) result)
