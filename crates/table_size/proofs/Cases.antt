-- Which of the cases has an O.
use mathlib.Core.Path.{◌≡◌, refl, sym, ◌∙◌}
use mathlib.Core.Bool.{Bool, true, false, cond, ◌&&◌}
use mathlib.Core.List.{List, [], ◌∷◌}
use Prim.Native.Nat.{ℕ, zero, suc, ◌≤◌, ◌<◌}
use native.Mathlib.Omega.{arith}
use lib.ListN.{take, drop}
use lib.Dec.{leb}
use borrow.Author.Tests.{leb-true, lt-leb, le-leb, leb-false}
use Rattle.table_size.specs.Cases.{Case, table_cases, no_longer, allowed_by, table_allowed}

pub in_case :
    (c : Case) (cs : List Case) (o n : ℕ) → c.from ≤ o → o ≤ c.to → allowed_by (c ∷ cs) o n ≡ no_longer c.longest n
in_case c cs o n l h = rw (le-leb c.from o l, le-leb o c.to h)

pub past_case : (c : Case) (cs : List Case) (o n : ℕ) → c.to < o → allowed_by (c ∷ cs) o n ≡ allowed_by cs o n
past_case c cs o n h = go (leb c.from o)
  where
    go : (t : Bool) → cond (t && leb o c.to) (no_longer c.longest n) (allowed_by cs o n) ≡ allowed_by cs o n
    go true = rw (lt-leb o c.to h)
    go false = refl

-- the largest O of some cases
abbrev pub largest : List Case → ℕ
largest [] = 0
largest (c ∷ cs) = cond (leb (largest cs) c.to) c.to (largest cs)

largest_first : (c : Case) (cs : List Case) → (c.to ≤ largest (c ∷ cs)) × (largest cs ≤ largest (c ∷ cs))
largest_first c cs = go (leb (largest cs) c.to) refl
  where
    go :
        (t : Bool) → leb (largest cs) c.to ≡ t →
        let m = cond t c.to (largest cs) in (c.to ≤ m) × (largest cs ≤ m)
    go true e = (omega arith, leb-true (largest cs) c.to e)
    go false e = (omega (arith, leb-false (largest cs) c.to e), omega arith)

-- an O beyond the first k cases
pub past_cases : (k : ℕ) (cs : List Case) (o n : ℕ) → largest (take k cs) < o → allowed_by cs o n ≡ allowed_by (drop k cs) o n
past_cases zero cs o n h = refl
past_cases (suc k) [] o n h = refl
past_cases (suc k) (c ∷ cs) o n h =
    let l = largest_first c (take k cs) in
    past_case c cs o n (omega (arith, l.0)) ∙ past_cases k cs o n (omega (arith, l.1))

-- an O that the case after the first k has
pub at_case :
    (k o n : ℕ) {c : Case} {cs : List Case} → drop k table_cases ≡ c ∷ cs → largest (take k table_cases) < o → c.from ≤ o → o ≤ c.to →
    no_longer c.longest n ≡ table_allowed o n
unfolding table_allowed
at_case k o n {c} {cs} e p l h = sym (past_cases k table_cases o n p ∙ rw e (in_case c cs o n l h))
