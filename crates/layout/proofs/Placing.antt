-- The fields of a list of numbers, written one by one.
use mathlib.Core.Path.{◌≡◌, refl, ap, ◌∙◌}
use mathlib.Core.List.{List, [], ◌∷◌, ◌++◌, append-nil, append_assoc}
use Prim.Native.Nat.{ℕ, ◌+◌, ◌*◌, ◌≤◌, ◌<◌}
use native.Mathlib.Numerals.{add-one}
use native.Mathlib.Omega.{arith}
use lib.ListN.{length, get_or, take, drop, length-append, length-drop}
use lib.Seq.{length-take-le, take-suc, take_at, drop-append-add, drop-drop, sets, sets-eq}
use Rattle.coder.proofs.BigEndian.{length_big_endian}
use Rattle.layout.specs.Layout.{field, fields_of}

length_fields : (ns : List ℕ) → length (fields_of ns) ≡ 8 * length ns
unfolding fields_of
length_fields [] = refl
length_fields (n ∷ ns) = omega (arith, length-append (field n) (fields_of ns), length_big_endian 8 n, length_fields ns)

fields_snoc : (ns : List ℕ) (x : ℕ) → fields_of (ns ++ (x ∷ [])) ≡ fields_of ns ++ field x
unfolding fields_of
fields_snoc [] x = append-nil (field x)
fields_snoc (n ∷ ns) x = rw (fields_snoc ns x, append_assoc)

-- with k fields in front, field k comes to be the next
pub put_more :
    (result ns : List ℕ) (k : ℕ) → k < length ns → 8 * length ns ≤ length result →
    sets (fields_of (take k ns) ++ drop (8 * k) result) (8 * k) (field (get_or ns k 0)) ≡
    fields_of (take (k + 1) ns) ++ drop (8 * (k + 1)) result
put_more result ns k l room =
    let P = fields_of (take k ns) in
    let q = drop (8 * k) result in
    let x = get_or ns k 0 in
    let e : length P ≡ 8 * k = length_fields (take k ns) ∙ ap (λ (n : ℕ). 8 * n) (length-take-le k ns (omega arith)) in
    let past : (n m : ℕ) → length P ≡ n → n + 8 ≡ m → drop (n + 8) (P ++ q) ≡ drop 8 q =
    λ n m a b. rw (← a) (drop-append-add P q 8) in
    let end : 8 * k + 8 ≡ 8 * (k + 1) = omega arith in
    let eight : length (field x) ≡ 8 = length_big_endian 8 x in
    sets-eq (field x) (P ++ q) (8 * k) (omega (arith, length-append P q, length-drop (8 * k) result))
    ∙ rw (
      eight,
      take_at P q (8 * k) e,
      past (8 * k) _ e refl,
      drop-drop 8 (8 * k) result,
      end,
      add-one,
      take-suc ns k 0 l,
      fields_snoc (take k ns) x,
    )
