-- Writing numbers as bytes and reading them are inverses, and the bytes can be stored from the last to the first.
use mathlib.Core.Path.{◌≡◌, refl, sym, ap, ◌∙◌}
use mathlib.Core.List.{List, [], ◌∷◌, ◌++◌, append-nil, append_assoc}
use Prim.Native.Nat.{ℕ, zero, suc, ◌+◌, ◌*◌, ◌/◌, ◌%◌, ◌^◌, ◌<◌}
use native.Mathlib.Nat.{pow-suc}
use native.Mathlib.Numerals.{add-one}
use native.Mathlib.Omega.{arith}
use lib.ListN.{length, set, length-append}
use lib.Seq.{sets, set_comm}
use Rattle.mealy.specs.Machine.{Letters}
use Rattle.coder.specs.BigEndian.{big_endian, digits_after, from_big_endian}

pub length_big_endian : (n x : ℕ) → length (big_endian n x) ≡ n
unfolding big_endian
length_big_endian zero x = refl
length_big_endian (suc n) x =
    omega (arith, length-append (big_endian n (x / 256)) (x % 256 ∷ []), length_big_endian n (x / 256))

-- ---- inverses

digits_snoc : (v : ℕ) (ds : List ℕ) (d : ℕ) → digits_after v (ds ++ (d ∷ [])) ≡ digits_after v ds * 256 + d
digits_snoc v [] d = refl
digits_snoc v (e ∷ ds) d = digits_snoc (v * 256 + e) ds d

pub number_back : (n x : ℕ) → x < 256 ^ n → from_big_endian (big_endian n x) ≡ x
unfolding big_endian
number_back zero x l = omega arith
number_back (suc n) x l =
    let p : x < 256 ^ n * 256 = rw pow-suc at l in
    let e : from_big_endian (big_endian n (x / 256)) ≡ x / 256 = number_back n (x / 256) (omega arith) in
    digits_snoc 0 (big_endian n (x / 256)) (x % 256) ∙ (omega arith)

one_more : (n v d : ℕ) (ds : List ℕ) → d < 256 → big_endian (suc n) (v * 256 + d) ++ ds ≡ big_endian n v ++ (d ∷ ds)
unfolding big_endian
one_more n v d ds l =
    let p : (v * 256 + d) / 256 ≡ v = omega arith in
    let q : (v * 256 + d) % 256 ≡ d = omega arith in
    rw (p, q, append_assoc)

digits_back :
    (n v : ℕ) (ds : List ℕ) (k : ℕ) → k ≡ length ds + n → Letters 256 ds →
    big_endian k (digits_after v ds) ≡ big_endian n v ++ ds
digits_back n v [] k e h = let q : k ≡ n = omega arith in rw q (sym (append-nil _))
digits_back n v (d ∷ ds) k e h =
    digits_back (suc n) (v * 256 + d) ds k (omega arith) h.1 ∙ one_more n v d ds h.0

pub bytes_back : (ds : List ℕ) → Letters 256 ds → big_endian (length ds) (from_big_endian ds) ≡ ds
unfolding big_endian
bytes_back ds h = digits_back 0 0 ds (length ds) (omega arith) h

-- ---- storing

sets_snoc :
    (l : List ℕ) (i : ℕ) (vs : List ℕ) (v k : ℕ) → k ≡ i + length vs → sets l i (vs ++ (v ∷ [])) ≡ sets (set l k v) i vs
sets_snoc l i [] v k e = let q : k ≡ i = omega arith in rw q
sets_snoc l i (w ∷ vs) v k e =
    sets_snoc (set l i w) (suc i) vs v k (omega arith)
    ∙ ap (λ (r : List ℕ). sets r (suc i) vs) (set_comm l i k w v (λ (z : i ≡ k). omega arith))

-- the last of n digits stored, the others are still to be stored
pub store_last :
    (l : List ℕ) (i n m x k : ℕ) → n ≡ m + 1 → k ≡ i + m →
    sets (set l k (x % 256)) i (big_endian m (x / 256)) ≡ sets l i (big_endian n x)
unfolding big_endian
store_last l i n m x k en ek =
    rw (en, add-one) (sym (sets_snoc l i (big_endian m (x / 256)) (x % 256) k (omega (arith, length_big_endian m (x / 256)))))
