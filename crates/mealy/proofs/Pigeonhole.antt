-- Of more than n numbers below n two are equal.
use mathlib.Core.Path.{◌≡◌}
use mathlib.Core.Logic.{◌≢◌}
use Prim.Native.Nat.{ℕ, zero, suc, ◌≤◌, ◌<◌}
use native.Mathlib.Omega.{arith}
use native.Mathlib.Decide.{ℕ_discrete}
use Rattle.mealy.proofs.Decisions.{dec_below}

-- n is replaced by v
replaced : {A : Type 0} → Dec A → ℕ → ℕ → ℕ
replaced (yes _) v x = v
replaced (no _) v x = x

replaced_below : (n v x : ℕ) (d : Dec (x ≡ n)) → x < suc n → v < suc n → x ≢ v → replaced d v x < n
unfolding replaced
replaced_below n v x (yes e) p q r = omega arith
replaced_below n v x (no e) p q r = omega arith

replaced_injective : (n v x y : ℕ) (d : Dec (x ≡ n)) (e : Dec (y ≡ n)) → x ≢ v → y ≢ v → replaced d v x ≡ replaced e v y → x ≡ y
unfolding replaced
replaced_injective n v x y (yes d) (yes e) p q h = omega arith
replaced_injective n v x y (yes d) (no e) p q h = omega arith
replaced_injective n v x y (no d) (yes e) p q h = omega arith
replaced_injective n v x y (no d) (no e) p q h = h

pub pigeonhole : (n : ℕ) (f : ℕ → ℕ) → ((i : ℕ) → i ≤ n → f i < n) → (i : ℕ) × (j : ℕ) × (i < j) × (j ≤ n) × (f i ≡ f j)
pigeonhole zero f h = absurd (omega (arith, h 0 (omega arith)))
pigeonhole (suc n) f h = elim (dec_below (suc n) (λ i. f i ≡ f (suc n)) (λ i. ℕ_discrete (f i) (f (suc n)))) [
  | yes z ↦ (z.0, suc n, z.1, omega arith, z.2)
  | no z ↦ (let new : (i : ℕ) → i ≤ n → f i ≢ f (suc n) = λ i l e. z (i, omega arith, e) in
      let r = pigeonhole n (λ i. replaced (ℕ_discrete (f i) n) (f (suc n)) (f i)) (λ i l. replaced_below n _ _ _ (h i (omega arith)) (h (suc n) (omega arith)) (new i l)) in
      (r.0, r.1, r.2, omega arith, replaced_injective n _ _ _ _ _ (new r.0 (omega arith)) (new r.1 (omega arith)) r.4))
]
