-- An array that is filled from the front, so that place j holds g j.
use mathlib.Core.Path.{◌≡◌, refl, sym, ◌∙◌}
use mathlib.Core.List.{List}
use Prim.Native.Nat.{ℕ, zero, suc, ◌+◌, ◌<◌, ◌≤◌}
use native.Mathlib.Nat.{le_of_suc-le-suc}
use native.Mathlib.Decide.{dec_lt}
use native.Mathlib.Omega.{arith}
use lib.ListN.{length, get_or, set, replicate, length-set}
use lib.Seq.{get_or-set_same, get_or-set_other, ext_get_or}
use borrow.Author.Count.{below_more}
use Rattle.coder.specs.Table.{table}

pub length_table : (n : ℕ) (g : ℕ → ℕ) → length (table n g) ≡ n
unfolding table
length_table zero g = refl
length_table (suc n) g = rw (length_table n (λ k. g (suc k)))

pub get_or_table : (n : ℕ) (g : ℕ → ℕ) (k : ℕ) → k < n → get_or (table n g) k 0 ≡ g k
unfolding table
get_or_table zero g k l = absurd (omega arith)
get_or_table (suc n) g zero l = refl
get_or_table (suc n) g (suc k) l = get_or_table n (λ k. g (suc k)) k (le_of_suc-le-suc l)

-- l has n places, of which the first k are filled, and the others are as in s
pub record Filled (n : ℕ) (g : ℕ → ℕ) (s : List ℕ) (k : ℕ) (l : List ℕ) : Type 0 where
  pub size : length l ≡ n
  pub is : (j : ℕ) → j < k → get_or l j 0 ≡ g j
  pub left : (j : ℕ) → k ≤ j → get_or l j 0 ≡ get_or s j 0

pub get_or_zeros : (n j : ℕ) → ◌≡◌ {A = ℕ} (get_or (replicate n 0) j 0) 0
get_or_zeros zero j = refl
get_or_zeros (suc n) zero = refl
get_or_zeros (suc n) (suc j) = get_or_zeros n j

pub filled_none : {n : ℕ} {g : ℕ → ℕ} {s : List ℕ} → length s ≡ n → Filled n g s 0 s
filled_none e = record { size = e; is = λ j l. absurd (omega arith); left = λ j l. refl }

pub filled_more :
    {n : ℕ} {g : ℕ → ℕ} {s : List ℕ} {k : ℕ} {l : List ℕ} {v : ℕ} → Filled n g s k l → k < n → v ≡ g k →
    Filled n g s (k + 1) (set l k v)
filled_more {n} {g} {s} {k} {l} {v} f lt e =
    let z = f.size in
    record {
      size = length-set l k v ∙ f.size;
      is =
          below_more (λ j. get_or (set l k v) j 0 ≡ g j) k
          (λ j q. get_or-set_other l k j v 0 (λ (z : j ≡ k). omega arith) ∙ f.is j q)
          (get_or-set_same l k v 0 (omega arith) ∙ e);
      left = λ j q. get_or-set_other l k j v 0 (λ (z : j ≡ k). omega arith) ∙ f.left j (omega arith);
    }

-- where s has them from k to n
pub filled_all :
    {n : ℕ} {g : ℕ → ℕ} {s : List ℕ} {k : ℕ} {l : List ℕ} → Filled n g s k l →
    ((j : ℕ) → k ≤ j → j < n → get_or s j 0 ≡ g j) → l ≡ table n g
filled_all {n} {g} {s} {k} {l} f h =
    let z = f.size in
    ext_get_or 0 l (table n g) (f.size ∙ sym (length_table n g))
    (λ j lt. holds j (omega arith) ∙ sym (get_or_table n g j (omega arith)))
  where
    holds : (j : ℕ) → j < n → get_or l j 0 ≡ g j
    holds j m =
        elim (dec_lt j k)
        [ yes p ↦ f.is j p | no p ↦ let q : k ≤ j = omega arith in f.left j q ∙ h j q m ]
