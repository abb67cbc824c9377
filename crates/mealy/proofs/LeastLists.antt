-- The least member of a decided set that is not empty: of numbers; and of lists of one length, their numbers below a bound, in the
-- lexicographic order.
use mathlib.Core.Path.{◌≡◌, refl, ap}
use mathlib.Core.Logic.Dec
use mathlib.Core.List.{List, [], ◌∷◌}
use Prim.Native.Nat.{ℕ, zero, suc, ◌≤◌, ◌<◌}
use native.Mathlib.Omega.{arith}
use native.Mathlib.Decide.{dec_le, dec_lt}
use lib.ListN.{length}
use Rattle.mealy.specs.Machine.{Letters}
use Rattle.mealy.specs.First.{Lexicographic}
use Rattle.mealy.proofs.Decisions.{dec_below}

-- the least number with P, from one with P that is at most n
pub least_number : (P : ℕ → Type 0) → ((m : ℕ) → Dec (P m)) → (n m : ℕ) → m ≤ n → P m → (l : ℕ) × P l × ((k : ℕ) → P k → l ≤ k)
least_number P d zero m e p = (m, p, λ k q. omega arith)
least_number P d (suc n) m e p = elim (dec_below m P d) [
  | yes z ↦ least_number P d n z.0 (omega arith) z.2
  | no z ↦ (m, p, λ k q. elim (dec_le m k) [ yes l ↦ l | no l ↦ absurd (z (k, omega arith, q)) ])
]

-- ---- lists of n numbers below k

-- some such list has P
abbrev pub SomeList : ℕ → ℕ → (List ℕ → Type 0) → Type 0
SomeList k zero P = P []
SomeList k (suc n) P = (x : ℕ) × (x < k) × SomeList k n (λ xs. P (x ∷ xs))

module _ (k : ℕ) where
  pub some_list : (n : ℕ) (P : List ℕ → Type 0) (xs : List ℕ) → length xs ≡ n → Letters k xs → P xs → SomeList k n P
  some_list zero P [] e l h = h
  some_list zero P (x ∷ xs) e l h = absurd (omega arith)
  some_list (suc n) P [] e l h = absurd (omega arith)
  some_list (suc n) P (x ∷ xs) e l h = (x, l.0, some_list n (λ ys. P (x ∷ ys)) xs (omega arith) l.1 h)

  pub dec_list : (n : ℕ) (P : List ℕ → Type 0) → ((xs : List ℕ) → Dec (P xs)) → Dec (SomeList k n P)
  dec_list zero P d = d []
  dec_list (suc n) P d = dec_below k _ (λ x. dec_list n (λ xs. P (x ∷ xs)) (λ xs. d (x ∷ xs)))

  pub record LeastList (n : ℕ) (P : List ℕ → Type 0) : Type 0 where
    pub xs : List ℕ
    pub size : length xs ≡ n
    pub holds : P xs
    pub least : (ys : List ℕ) → length ys ≡ n → Letters k ys → P ys → Lexicographic xs ys

  -- the least first number with which some list has P, and then the least rest
  pub least_list : (n : ℕ) (P : List ℕ → Type 0) → ((xs : List ℕ) → Dec (P xs)) → SomeList k n P → LeastList n P
  least_list zero P d h = record { xs = []; size = refl; holds = h; least = λ ys e l q. tt }
  least_list (suc n) P d h =
      let rest : ℕ → List ℕ → Type 0 = λ x xs. P (x ∷ xs) in
      let decide : (x : ℕ) → Dec ((x < k) × SomeList k n (rest x)) = λ x. Dec.and (dec_lt x k) (dec_list n (rest x) (λ xs. d (x ∷ xs))) in
      let m = least_number (λ x. (x < k) × SomeList k n (rest x)) decide h.0 h.0 (omega arith) (h.1, h.2) in
      let r = least_list n (rest m.0) (λ xs. d (m.0 ∷ xs)) m.1.1 in
      record { xs = m.0 ∷ r.xs; size = ap suc r.size; holds = r.holds; least = go m.0 m.2 r }
    where
      go :
          (x : ℕ) → ((y : ℕ) → (y < k) × SomeList k n (λ ys. P (y ∷ ys)) → x ≤ y) → (r : LeastList n (λ xs. P (x ∷ xs))) → (ys : List ℕ) →
          length ys ≡ suc n → Letters k ys → P ys → Lexicographic (x ∷ r.xs) ys
      go x low r [] e l q = absurd (omega arith)
      go x low r (y ∷ ys) e l q = (
        low y (l.0, some_list n (λ zs. P (y ∷ zs)) ys (omega arith) l.1 q),
        λ same. r.least ys (omega arith) l.1 (rw (← same) at q),
      )
