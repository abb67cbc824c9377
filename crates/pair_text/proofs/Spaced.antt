-- Laws of numbers with a space in front of each.
use mathlib.Core.Path.{◌≡◌, refl, sym, ap, ◌∙◌}
use mathlib.Core.List.{List, [], ◌∷◌, ◌++◌, append_assoc, append-nil}
use Prim.Native.Nat.{ℕ, suc, ◌+◌, ◌*◌, ◌-◌, ◌^◌, ◌<◌, ◌≤◌}
use native.Mathlib.Nat.{mul-suc}
use native.Mathlib.Numerals.{add-one}
use native.Mathlib.Omega.{arith}
use lib.ListN.{length, get_or, take, drop, length-append}
use lib.Seq.{take-suc, take-add}
use Rattle.text.specs.Ascii.{space}
use Rattle.text.specs.Decimal.{decimal}
use Rattle.placing.specs.Placed.{Placed}
use Rattle.text.proofs.Decimals.{decimal_short}
use Rattle.placing.proofs.Placing.{written_none, written_then}
use Rattle.pair_text.specs.Lines.{spaced}

pub spaced_append : (xs ys : List ℕ) → spaced (xs ++ ys) ≡ spaced xs ++ spaced ys
unfolding spaced
spaced_append [] ys = refl
spaced_append (x ∷ xs) ys = rw (spaced_append xs ys) (sym (append_assoc (space ++ decimal x) (spaced xs) (spaced ys)))

pub spaced_length : (xs ys : List ℕ) → length (spaced (xs ++ ys)) ≡ length (spaced xs) + length (spaced ys)
spaced_length xs ys = ap length (spaced_append xs ys) ∙ length-append (spaced xs) (spaced ys)

pub spaced_one : (x : ℕ) → spaced (x ∷ []) ≡ space ++ decimal x
unfolding spaced
spaced_one x = append-nil (space ++ decimal x)

one_length : (x : ℕ) → length (spaced (x ∷ [])) ≡ 1 + length (decimal x)
one_length x = rw (spaced_one x) (omega arith)

pub two_length : (x y : ℕ) → length (spaced (x ∷ y ∷ [])) ≡ 2 + length (decimal x) + length (decimal y)
two_length x y = omega (arith, spaced_length (x ∷ []) (y ∷ []), one_length x, one_length y)

-- each number has at most d + 1 digits
pub spaced_short :
    (d : ℕ) (xs : List ℕ) → ((k : ℕ) → k < length xs → get_or xs k 0 < 10 ^ suc d) → length (spaced xs) ≤ (d + 2) * length xs
unfolding spaced
spaced_short d [] l = omega arith
spaced_short d (x ∷ xs) l =
    let h = decimal_short d x (l 0 (omega arith)) in
    let r = spaced_short d xs (λ k m. l (suc k) (omega arith)) in
    omega (arith, length-append (decimal x) (spaced xs), mul-suc (d + 2) (length xs))

-- ---- written one after the other

pub spaced_then :
    {before middle after : List ℕ} {at place next : ℕ} (xs ys : List ℕ) → Placed before at (spaced xs) middle place →
    Placed middle place (spaced ys) after next → Placed before at (spaced (xs ++ ys)) after next
spaced_then xs ys a b = rw (spaced_append xs ys) (written_then a b)

pub spaced_both :
    {before middle after : List ℕ} {at place next : ℕ} (x y : ℕ) → Placed before at (space ++ decimal x) middle place →
    Placed middle place (space ++ decimal y) after next → Placed before at (spaced (x ∷ y ∷ [])) after next
spaced_both {before} {middle} {after} {at} {place} {next} x y a b =
    let p : Placed before at (spaced (x ∷ [])) middle place = rw (spaced_one x) a in
    let q : Placed middle place (spaced (y ∷ [])) after next = rw (spaced_one y) b in
    spaced_then (x ∷ []) (y ∷ []) p q

-- ---- two bytes of a buffer at a time: none, two more, all

pub spaced_none : (before : List ℕ) (at : ℕ) → Placed before at (spaced []) before at
unfolding spaced
spaced_none before at = written_none before at

two_more :
    (xs : List ℕ) (i : ℕ) → 2 * i + 1 < length xs →
    take (2 * (i + 1)) xs ≡ take (2 * i) xs ++ (get_or xs (2 * i) 0 ∷ get_or xs (2 * i + 1) 0 ∷ [])
two_more xs i l =
    let e : 2 * (i + 1) ≡ suc (suc (2 * i)) = omega arith in
    rw (e, add-one (2 * i), take-suc xs (suc (2 * i)) 0 (omega arith), take-suc xs (2 * i) 0 (omega arith))
    (append_assoc (take (2 * i) xs) (get_or xs (2 * i) 0 ∷ []) (get_or xs (suc (2 * i)) 0 ∷ []))

pub spaced_more :
    {before middle after : List ℕ} {at place next : ℕ} (xs : List ℕ) (i : ℕ) → 2 * i + 1 < length xs →
    Placed before at (spaced (take (2 * i) xs)) middle place →
    Placed middle place (spaced (get_or xs (2 * i) 0 ∷ get_or xs (2 * i + 1) 0 ∷ [])) after next →
    Placed before at (spaced (take (2 * (i + 1)) xs)) after next
spaced_more xs i l a b = rw (two_more xs i l) (spaced_then _ _ a b)

pub spaced_all :
    {before out : List ℕ} {at place : ℕ} (xs : List ℕ) (i n : ℕ) → i ≤ n → n ≤ i → Placed before at (spaced (take (2 * i) xs)) out place →
    Placed before at (spaced (take (2 * n) xs)) out place
spaced_all xs i n l m a = let e : i ≡ n = omega arith in rw e at a

-- there is room for them where there is for more
pub room_more :
    (xs : List ℕ) (i n : ℕ) → i < n → 2 * n ≤ length xs →
    length (spaced (take (2 * i) xs)) + 2 + length (decimal (get_or xs (2 * i) 0)) + length (decimal (get_or xs (2 * i + 1) 0))
    ≤ length (spaced (take (2 * n) xs))
room_more xs i n l m =
    let e : 2 * n ≡ 2 * (i + 1) + 2 * (n - (i + 1)) = omega arith in
    let two = get_or xs (2 * i) 0 ∷ get_or xs (2 * i + 1) 0 ∷ [] in
    let rest = take (2 * (n - (i + 1))) (drop (2 * (i + 1)) xs) in
    let g : take (2 * n) xs ≡ take (2 * i) xs ++ two ++ rest =
    rw (e, take-add (2 * (i + 1)) (2 * (n - (i + 1))) xs, two_more xs i (omega arith)) in
    rw g
    (omega (
      arith,
      spaced_length (take (2 * i) xs ++ two) rest,
      spaced_length (take (2 * i) xs) two,
      two_length (get_or xs (2 * i) 0) (get_or xs (2 * i + 1) 0),
    ))
