-- Refusals: a call goes down the list of numbers and takes the first that applies.
use Rattle.std.specs.Prelude.{ℕ, zero, suc, ◌≡◌, Bool, true, false, ◌&&◌, ◌||◌, List, [], ◌∷◌, ltb}

-- The number k where the test shows that it applies, and otherwise what the rest of the list says. 0 is no refusal.
abbrev pub refuse : Bool → ℕ → ℕ → ℕ
refuse true k rest = k
refuse false k rest = rest

-- Two lists, one after the other (document 01, "Numbers of refusal": in checking order).
abbrev pub first : ℕ → ℕ → ℕ
first zero b = b
first (suc a) b = suc a

-- What a call gives whose refusal is k: what it gives for a refusal, or what it gives where k is 0.
abbrev pub answer : {A : Type 0} → ℕ → (ℕ → A) → A → A
answer zero refused done = done
answer (suc k) refused done = refused (suc k)

-- What holds of a call whose refusal is k: what a refusal asks, or what an answer asks where k is 0.
abbrev pub upon : ℕ → (ℕ → Type 0) → Type 0 → Type 0
upon zero refused done = done
upon (suc k) refused done = refused (suc k)

-- p holds of each number below n
unfoldable pub all_below : ℕ → (ℕ → Bool) → Bool
all_below zero p = true
all_below (suc n) p = p n && all_below n p

-- p holds of some number below n
unfoldable pub some_below : ℕ → (ℕ → Bool) → Bool
some_below zero p = false
some_below (suc n) p = p n || some_below n p

-- every letter is below n: the test behind refusals 12 and 13
abbrev pub letters_below : ℕ → List ℕ → Bool
letters_below n [] = true
letters_below n (x ∷ xs) = ltb x n && letters_below n xs

-- r says whether A holds
pub record Judges (A : Type 0) (r : Bool) : Type 0 where
  pub yes' : r ≡ true → A
  pub no' : r ≡ false → A → ⊥
