-- Laws of the tests and chains of numbers that refusals are made of.
use mathlib.Core.Path.{◌≡◌, refl, sym, ap, ◌∙◌, subst}
use mathlib.Core.Bool.{Bool, true, false, not, ◌&&◌, ◌||◌}
use mathlib.Core.List.{List, [], ◌∷◌}
use mathlib.Core.Logic.{⊎_elim}
use Prim.Native.Nat.{ℕ, zero, suc, ◌+◌, ◌<◌, ◌≤◌}
use native.Mathlib.Nat.{eq-or-lt_of_le, le_of_suc-le-suc}
use native.Mathlib.Numerals.{add-one}
use native.Mathlib.Omega.{arith}
use lib.ListN.{length, get_or, drop}
use lib.Seq.{drop-cons}
use lib.Dec.{ltb}
use borrow.Author.Tests.{lt-ltb, le-ltb, le-leb, lt-leb, eq-eqb, ne_eqb, ltb-true, not-false}
use Rattle.std.specs.Prelude.{◌↔◌, IsTrue}
use Rattle.mealy.specs.Machine.{Letters}
use Rattle.coder.specs.Refusal.{refuse, first, answer, all_below, some_below, letters_below, upon}

-- the value of a test from what is known of its numbers
pub ruleset tests = (lt-ltb, le-ltb, le-leb, lt-leb, eq-eqb, ne_eqb)

-- what a callee says of its result, and what a branch says of it
pub via : {A : Type 0} {r t v : A} → r ≡ t → r ≡ v → t ≡ v
via e q = sym e ∙ q

pub both_true : (a b : Bool) → (a && b) ≡ true → (a ≡ true) × (b ≡ true)
both_true true b e = (refl, e)
both_true false b e = (e, let z : ◌≡◌ {A = ℕ} 0 1 = cc in absurd (omega arith))

pub true_false : {b : Bool} → b ≡ true → b ≡ false → ⊥
true_false e f = let z : ◌≡◌ {A = ℕ} 0 1 = cc in absurd (omega arith)

pub both_right : (t : Bool) → (t && true) ≡ t
both_right true = refl
both_right false = refl

pub both_false : (a b : Bool) → b ≡ false → (a && b) ≡ false
both_false true b e = e
both_false false b e = refl

-- what holds of the numbers of a chain holds of the one that it says
pub refuse_either : (P : ℕ → Type 0) (t : Bool) (k x : ℕ) → P k → P x → P (refuse t k x)
refuse_either P true k x p q = p
refuse_either P false k x p q = q

pub first_either : (P : ℕ → Type 0) (a b : ℕ) → P a → P b → P (first a b)
first_either P zero b p q = q
first_either P (suc a) b p q = p

-- a chain that says 0 has passed each of its tests
pub refuse_none : (t : Bool) (k x : ℕ) → 0 < k → refuse t k x ≡ 0 → (t ≡ false) × (x ≡ 0)
refuse_none true k x p e = absurd (omega arith)
refuse_none false k x p e = (refl, e)

pub refuse_not : (t : Bool) (k x : ℕ) → 0 < k → refuse (not t) k x ≡ 0 → (t ≡ true) × (x ≡ 0)
refuse_not t k x p e = let r = refuse_none (not t) k x p e in (not-false t r.0, r.1)

pub first_none : (a b : ℕ) → first a b ≡ 0 → (a ≡ 0) × (b ≡ 0)
first_none zero b e = (refl, e)
first_none (suc a) b e = absurd (omega arith)

pub first_some : (a b : ℕ) → (a ≡ 0 → ⊥) → first a b ≡ a
first_some zero b h = absurd (h refl)
first_some (suc a) b h = refl

-- the first list of a call's checks, which refuses
pub refused_first : {r : ℕ} (a b : ℕ) → r ≡ a → (r ≡ 0 → ⊥) → r ≡ first a b
refused_first a b e h = e ∙ sym (first_some a b (λ z. h (e ∙ z)))

pub answer_refused : {A : Type 0} (k : ℕ) (r : ℕ → A) (d : A) → (k ≡ 0 → ⊥) → answer k r d ≡ r k
answer_refused zero r d h = absurd (h refl)
answer_refused (suc k) r d h = refl

-- what a call gives, under another name of the refusal and of the answer
pub answer_same : {A : Type 0} {k k' : ℕ} (r : ℕ → A) (d d' : A) → k ≡ k' → (k ≡ 0 → d ≡ d') → answer k r d ≡ answer k' r d'
answer_same {k = k} r d d' e h = go k h ∙ ap (λ j. answer j r d') e
  where
    go : (j : ℕ) → (j ≡ 0 → d ≡ d') → answer j r d ≡ answer j r d'
    go zero g = g refl
    go (suc j) g = refl

-- a promise of a call whose refusal is k, from what the call returned
pub upon_refused : (k : ℕ) (refused : ℕ → Type 0) (done : Type 0) {r : ℕ} → r ≡ k → (r ≡ 0 → ⊥) → refused r → upon k refused done
upon_refused zero refused done e h p = absurd (h e)
upon_refused (suc k) refused done e h p = rw e at p

pub upon_done : (k : ℕ) (refused : ℕ → Type 0) (done : Type 0) → k ≡ 0 → done → upon k refused done
upon_done zero refused done e p = p
upon_done (suc k) refused done e p = absurd (omega arith)

-- a promise under another name of the refusal, where an answer gives more
pub upon_map :
    (refused : ℕ → Type 0) (done done' : Type 0) {k k' : ℕ} → k ≡ k' → (k ≡ 0 → done → done') → upon k refused done →
    upon k' refused done'
upon_map refused done done' {k} e f p = subst (λ j. upon j refused done') e (go k f p)
  where
    go : (j : ℕ) → (j ≡ 0 → done → done') → upon j refused done → upon j refused done'
    go zero g p = g refl p
    go (suc j) g p = p

-- a test of every number below n
pub all_more : (n : ℕ) (p : ℕ → Bool) → p n ≡ true → all_below n p ≡ true → all_below (n + 1) p ≡ true
unfolding all_below
all_more n p a b = rw (add-one, a) b

pub all_at : (n : ℕ) (p : ℕ → Bool) → all_below n p ≡ true → (k : ℕ) → k < n → p k ≡ true
unfolding all_below
all_at zero p e k l = absurd (omega arith)
all_at (suc n) p e k l =
    let a = both_true (p n) (all_below n p) e in
    ⊎_elim (λ (q : k ≡ n). rw q a.0) (λ (q : k < n). all_at n p a.1 k q)
    (eq-or-lt_of_le (le_of_suc-le-suc l))

pub all_not : (n : ℕ) (p : ℕ → Bool) (k : ℕ) → k < n → p k ≡ false → all_below n p ≡ false
unfolding all_below
all_not zero p k l e = absurd (omega arith)
all_not (suc n) p k l e =
    ⊎_elim (λ (q : k ≡ n). rw (← q, e)) (λ (q : k < n). both_false (p n) (all_below n p) (all_not n p k q e))
    (eq-or-lt_of_le (le_of_suc-le-suc l))

-- a test of all that fails, fails somewhere
pub all_fails : (n : ℕ) (p : ℕ → Bool) → all_below n p ≡ false → (k : ℕ) × (k < n) × (p k ≡ false)
unfolding all_below
all_fails zero p e = absurd (true_false refl e)
all_fails (suc n) p e = go (p n) refl (all_fails n p) e
  where
    go :
        (t : Bool) → p n ≡ t → (all_below n p ≡ false → (k : ℕ) × (k < n) × (p k ≡ false)) → (t && all_below n p) ≡ false →
        (k : ℕ) × (k < suc n) × (p k ≡ false)
    go false q f d = (n, omega arith, q)
    go true q f d = let r = f d in (r.0, omega (arith, r.1), r.2)

pub all_of : (n : ℕ) (p : ℕ → Bool) → ((k : ℕ) → k < n → p k ≡ true) → all_below n p ≡ true
unfolding all_below
all_of zero p h = refl
all_of (suc n) p h = rw (h n (omega arith)) (all_of n p (λ k l. h k (omega arith)))

-- a test of some number below n
pub some_at : (n : ℕ) (p : ℕ → Bool) → some_below n p ≡ true → (k : ℕ) × (k < n) × (p k ≡ true)
unfolding some_below
some_at zero p e = absurd (true_false e refl)
some_at (suc n) p e = go (p n) refl (λ d. some_at n p d) e
  where
    go :
        (t : Bool) → p n ≡ t → (some_below n p ≡ true → (k : ℕ) × (k < n) × (p k ≡ true)) → (t || some_below n p) ≡ true →
        (k : ℕ) × (k < suc n) × (p k ≡ true)
    go true q f d = (n, omega arith, q)
    go false q f d = let r = f d in (r.0, omega (arith, r.1), r.2)

pub some_of : (n : ℕ) (p : ℕ → Bool) (k : ℕ) → k < n → p k ≡ true → some_below n p ≡ true
unfolding some_below
some_of zero p k l e = absurd (omega arith)
some_of (suc n) p k l e =
    ⊎_elim (λ (q : k ≡ n). rw (← q, e)) (λ (q : k < n). go (p n) (some_of n p k q e))
    (eq-or-lt_of_le (le_of_suc-le-suc l))
  where
    go : (t : Bool) → some_below n p ≡ true → (t || some_below n p) ≡ true
    go true d = refl
    go false d = d

pub letters_below_lem : (n : ℕ) (xs : List ℕ) → letters_below n xs ≡ true → Letters n xs
letters_below_lem n [] e = tt
letters_below_lem n (x ∷ xs) e =
    let a = both_true (ltb x n) (letters_below n xs) e in
    (ltb-true x n a.0, letters_below_lem n xs a.1)

-- the test of the letters from place k on
letters_from_lem :
    (n : ℕ) (xs : List ℕ) (k : ℕ) → k < length xs →
    letters_below n (drop k xs) ≡ (ltb (get_or xs k 0) n && letters_below n (drop (suc k) xs))
letters_from_lem n xs k l = rw (drop-cons xs k 0 l)

pub letters_more :
    {b : Bool} (n : ℕ) (xs : List ℕ) (k : ℕ) → k < length xs → get_or xs k 0 < n →
    b ≡ letters_below n (drop k xs) → b ≡ letters_below n (drop (k + 1) xs)
letters_more n xs k l p e = e ∙ letters_from_lem n xs k l ∙ rw (lt-ltb (get_or xs k 0) n p, add-one)

pub letters_not :
    {b : Bool} (n : ℕ) (xs : List ℕ) (k : ℕ) → k < length xs → n ≤ get_or xs k 0 →
    b ≡ letters_below n (drop k xs) → b ≡ false
letters_not n xs k l p e = e ∙ letters_from_lem n xs k l ∙ rw (le-ltb (get_or xs k 0) n p)

-- a test that passes exactly where each number below n does is the test of them all
pub all_each : (n : ℕ) (p : ℕ → Bool) {b : Bool} → (IsTrue b ↔ ((k : ℕ) → k < n → p k ≡ true)) → b ≡ all_below n p
all_each n p {b} h = go b (all_below n p) h.0 h.1 (all_at n p) (all_of n p)
  where
    go :
        (t u : Bool) → (t ≡ true → (k : ℕ) → k < n → p k ≡ true) → (((k : ℕ) → k < n → p k ≡ true) → t ≡ true) →
        (u ≡ true → (k : ℕ) → k < n → p k ≡ true) → (((k : ℕ) → k < n → p k ≡ true) → u ≡ true) → t ≡ u
    go true u f g f' g' = sym (g' (f refl))
    go false true f g f' g' = g (f' refl)
    go false false f g f' g' = refl
