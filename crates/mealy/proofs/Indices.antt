-- The index of a window and the window of an index undo each other.
use mathlib.Core.Path.{◌≡◌, refl, ap}
use mathlib.Core.List.{List, [], ◌∷◌}
use Prim.Native.Nat.{ℕ, zero, suc, ◌+◌, ◌*◌, ◌^◌, ◌%◌, ◌<◌}
use native.Mathlib.Nat.{pow-zero, pow-succ', one-le-pow, mod-lt, div-lt_iff_lt-mul, div-add-mod'}
use native.Mathlib.Omega.{arith}
use lib.ListN.{length}
use lib.Arith.{digits_lt, digits_div, digits_mod}
use Rattle.mealy.specs.Machine.{Letters}
use Rattle.mealy.specs.Index.{index_of, window_at}

pub length_window : (o n k : ℕ) → length (window_at o n k) ≡ n
unfolding window_at
length_window o zero k = refl
length_window o (suc n) k = ap suc (length_window o n _)

pub index_below : (o : ℕ) (w : List ℕ) → Letters o w → index_of o w < o ^ length w
unfolding index_of
index_below o [] h = omega (arith, pow-zero o)
index_below o (x ∷ w) h = rw (pow-succ' o (length w)) (digits_lt h.0 (index_below o w h.1))

-- the first letter and the index of the others
pub window_digits :
    (o n x k : ℕ) → k < o ^ n → window_at o (suc n) (x * o ^ n + k) ≡ x ∷ window_at o n k
unfolding window_at
window_digits o n x k l = rw (digits_div x l, digits_mod x l)

pub index_window : (o : ℕ) (w : List ℕ) → Letters o w → window_at o (length w) (index_of o w) ≡ w
unfolding index_of window_at
index_window o [] h = refl
index_window o (x ∷ w) h =
    let l = index_below o w h.1 in
    rw (digits_div x l, digits_mod x l) (ap (λ t. x ∷ t) (index_window o w h.1))

pub window_index : (o n k : ℕ) → 0 < o → k < o ^ n → index_of o (window_at o n k) ≡ k
unfolding index_of window_at
window_index o zero k z l = omega (arith, pow-zero o)
window_index o (suc n) k z l =
    rw (length_window o n (k % o ^ n), window_index o n (k % o ^ n) z (mod-lt k (one-le-pow n o z)))
    (div-add-mod' k (o ^ n))

pub window_letters : (o n k : ℕ) → 0 < o → k < o ^ n → Letters o (window_at o n k)
unfolding window_at
window_letters o zero k z l = tt
window_letters o (suc n) k z l =
    let p = one-le-pow n o z in
    ((div-lt_iff_lt-mul p).1 (rw (pow-succ' o n) at l), window_letters o n (k % o ^ n) z (mod-lt k p))
