-- The cases on O allow exactly the tables of at most 65,536 bytes.
use mathlib.Core.Path.{◌≡◌, refl, sym, ◌∙◌}
use mathlib.Core.Bool.{Bool, true, false, ◌&&◌}
use mathlib.Core.List.{List, [], ◌∷◌}
use Prim.Native.Nat.{ℕ, zero, suc, ◌+◌, ◌^◌, ◌≤◌, ◌<◌}
use native.Mathlib.Nat.{pow-le-pow_right, pow-le-pow_left, pow-zero, pow-suc}
use native.Mathlib.Omega.{arith}
use lib.Dec.{leb, ltb, eqb}
use borrow.Author.Tests.{leb-true, ltb-true, eqb-true, lt-leb, le-leb, leb-false}
use Rattle.coder.specs.Limits.{max_outputs}
use Rattle.coder.proofs.Refusals.{both_true}
use Rattle.table_size.specs.Size.{max_table}
use Rattle.table_size.specs.Cases.{Longest, any, up_to, Case, table_cases, no_longer, allowed_by, table_allowed}
use Rattle.table_size.proofs.Cases.{in_case, past_case}

one_pow : (n : ℕ) → 1 ^ n ≡ 1
one_pow zero = pow-zero 1
one_pow (suc n) = rw (pow-suc 1 n, one_pow n)

-- Whether the longest window is right for each O from `low` to `high`: the largest of these O gives a table that is not too large, and
-- with one letter more the smallest gives one that is; any window only where no O is above 1.
abbrev right : Longest → ℕ → ℕ → Bool
right any low high = leb high 1
right (up_to m) low high = ltb 0 low && (leb (high ^ m) max_table && ltb max_table (low ^ suc m))

three_true : (a b c : Bool) → (a && (b && c)) ≡ true → (a ≡ true) × (b ≡ true) × (c ≡ true)
three_true a b c e = let p = both_true a (b && c) e in let q = both_true b c p.1 in (p.0, q.0, q.1)

case_right :
    (l : Longest) (low high o n : ℕ) → right l low high ≡ true → low ≤ o → o ≤ high → no_longer l n ≡ leb (o ^ n) max_table
case_right any low high o n r l h =
    sym (le-leb (o ^ n) max_table (omega (arith, pow-le-pow_left {n = o} {m = 1} (omega (arith, leb-true high 1 r)) n, one_pow n)))
case_right (up_to m) low high o n r l h =
    let t = three_true (ltb 0 low) (leb (high ^ m) max_table) (ltb max_table (low ^ suc m)) r in
    go (ltb-true 0 low t.0) (leb-true (high ^ m) max_table t.1) (ltb-true max_table (low ^ suc m) t.2) (leb n m) refl
  where
    go :
        0 < low → high ^ m ≤ max_table → max_table < low ^ suc m → (t : Bool) → leb n m ≡ t → t ≡ leb (o ^ n) max_table
    go z small large true e =
        sym (le-leb (o ^ n) max_table
        (omega (arith, pow-le-pow_left h n, pow-le-pow_right {n = high} (omega arith) (leb-true n m e))))
    go z small large false e =
        sym (lt-leb (o ^ n) max_table
        (omega (arith, pow-le-pow_left l (suc m), pow-le-pow_right {n = o} (omega arith) {i = suc m} {j = n} (leb-false n m e))))

-- whether the cases follow one another from `low` to `high`, and each is right
abbrev right_from : ℕ → List Case → ℕ → Bool
right_from low [] high = ltb high low
right_from low (c ∷ cs) high = eqb c.from low && (right c.longest c.from c.to && right_from (c.to + 1) cs high)

all_right :
    (low high : ℕ) (cs : List Case) → right_from low cs high ≡ true → (o n : ℕ) → low ≤ o → o ≤ high →
    allowed_by cs o n ≡ leb (o ^ n) max_table
all_right low high [] r o n l h = absurd (omega (arith, ltb-true high low r))
all_right low high (c ∷ cs) r o n l h =
    let t = three_true (eqb c.from low) (right c.longest c.from c.to) (right_from (c.to + 1) cs high) r in
    go (omega (arith, eqb-true c.from low t.0)) t.1
    (λ (p : c.to < o). all_right (c.to + 1) high cs t.2 o n (omega arith) h) (leb o c.to) refl
  where
    go :
        c.from ≤ o → right c.longest c.from c.to ≡ true → (c.to < o → allowed_by cs o n ≡ leb (o ^ n) max_table) →
        (t : Bool) → leb o c.to ≡ t → allowed_by (c ∷ cs) o n ≡ leb (o ^ n) max_table
    go from this others true e =
        let h = leb-true o c.to e in in_case c cs o n from h ∙ case_right c.longest c.from c.to o n this from h
    go from this others false e =
        let p = leb-false o c.to e in past_case c cs o n p ∙ others p

-- For each O within the limits, and windows of any number of letters: they may have a table by the cases exactly if it has at most
-- 65,536 bytes.
pub cases_exact : (o n : ℕ) → 1 ≤ o → o ≤ max_outputs → table_allowed o n ≡ leb (o ^ n) max_table
unfolding table_allowed
cases_exact o n l h = all_right 1 max_outputs table_cases refl o n l h
