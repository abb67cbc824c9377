-- A walk along a chain passes exactly the entries with the chain's key.
use mathlib.Core.Path.{◌≡◌, refl, sym, ap}
use mathlib.Core.Bool.{Bool, true, false, cond}
use Prim.Native.Nat.{ℕ, zero, suc, ◌≤◌, ◌<◌}
use native.Mathlib.Omega.{arith}
use native.Mathlib.Decide.{ℕ_discrete}
use Rattle.coder.proofs.Refusals.{true_false}
use Rattle.chains.specs.Chain.{last_below, over}

module _ (test : ℕ → Bool) where
  pub last_bound : (p : ℕ) → last_below test p ≤ p
  unfolding last_below
  last_bound zero = omega arith
  last_bound (suc p) = go (test p) (last_bound p)
    where
      go : (b : Bool) → last_below test p ≤ p → cond b (suc p) (last_below test p) ≤ suc p
      go true l = omega arith
      go false l = omega arith

  -- the last place passes the test
  pub last_passes : (p q : ℕ) → last_below test p ≡ suc q → test q ≡ true
  unfolding last_below
  last_passes zero q e = absurd (omega arith)
  last_passes (suc p) q e = go (test p) refl (last_passes p q)
    where
      go : (b : Bool) → test p ≡ b → (last_below test p ≡ suc q → test q ≡ true) → test q ≡ true
      go true f h = let g : suc p ≡ suc q = rw f at e in let i : q ≡ p = omega arith in rw i f
      go false f h = h (rw f at e)

  last_here : (p : ℕ) → test p ≡ true → last_below test (suc p) ≡ suc p
  unfolding last_below
  last_here p e = rw e

  -- a place that passes is at or before the last one
  pub last_above : (p n : ℕ) → test p ≡ true → p < n → suc p ≤ last_below test n
  unfolding last_below
  last_above p zero e l = absurd (omega arith)
  last_above p (suc n) e l = go (test n) refl (last_above p n e)
    where
      go : (b : Bool) → test n ≡ b → (p < n → suc p ≤ last_below test n) → suc p ≤ last_below test (suc n)
      go true f h = rw f (omega arith)
      go false f h = elim (ℕ_discrete p n) [
        | yes g ↦ absurd (true_false (rw g at e) f)
        | no g ↦ rw f (h (omega arith))
      ]

  -- places that do not pass are passed over
  pub last_skip : (m n : ℕ) → m ≤ n → ((p : ℕ) → m ≤ p → p < n → test p ≡ false) → last_below test n ≡ last_below test m
  unfolding last_below
  last_skip m zero l h = let e : m ≡ 0 = omega arith in rw e
  last_skip m (suc n) l h = elim (ℕ_discrete m (suc n)) [
    | yes e ↦ rw e
    | no e ↦ rw (h n (omega arith) (omega arith)) (last_skip m n (omega arith) (λ p a b. h p a (omega arith)))
  ]

  module _ {A : Type 0} (f : A → ℕ → A) where
    -- from anywhere a walk may start at the last place that passes
    pub over_last : (acc : A) (n : ℕ) → over test f acc n ≡ over test f acc (last_below test n)
    unfolding over last_below
    over_last acc zero = refl
    over_last acc (suc p) = go (test p) refl (over_last acc p)
      where
        go :
            (b : Bool) → test p ≡ b → over test f acc p ≡ over test f acc (last_below test p) →
            over test f acc (suc p) ≡ over test f acc (last_below test (suc p))
        go true e h = ap (over test f acc) (sym (last_here p e))
        go false e h = rw e h

    -- a place that passes is one application of f
    pub over_step : (acc : A) (p : ℕ) → test p ≡ true → over test f acc (suc p) ≡ over test f (f acc p) p
    unfolding over
    over_step acc p e = rw e
