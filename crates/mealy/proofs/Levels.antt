-- The level sets, for both directions: symmetric, falling, and settled for ever once one round changes nothing.
use Prim.Native.Nat.{ℕ, zero, suc, ◌≤◌}
use native.Mathlib.Omega.{arith}
use native.Mathlib.Decide.{le_ind, dec_le}
use Rattle.mealy.specs.Setting.{Setting}
use Rattle.mealy.specs.Product.{Direction, Level, Settled}
use Rattle.mealy.proofs.Edges.{neighbour_map, neighbour_swap}

-- ---- a falling chain of statements

pub down : (P : ℕ → Type 0) → ((k : ℕ) → P (suc k) → P k) → {m k : ℕ} → m ≤ k → P k → P m
down P fall {m} {k} l = le_ind (λ n. P n → P m) (λ h. h) (λ n _ f h. f (fall n h)) k l

-- one that no longer falls from K on holds at every number if it holds at K
pub always : (P : ℕ → Type 0) → ((k : ℕ) → P (suc k) → P k) → (K : ℕ) → ((k : ℕ) → K ≤ k → P k → P (suc k)) → P K → (m : ℕ) → P m
always P fall K keep h m = elim (dec_le K m) [ yes l ↦ le_ind P h keep m l | no l ↦ down P fall {m = m} {k = K} (omega arith) h ]

module _ (S : Setting) (d : Direction) where
  open S use {M, Start}

  pub level_start : (k u v : ℕ) → Level S d k u v → Start u × Start v
  level_start zero u v h = h
  level_start (suc k) u v h = (h.0, h.1)

  pub level_swap : (k u v : ℕ) → Level S d k u v → Level S d k v u
  level_swap zero u v h = (h.1, h.0)
  level_swap (suc k) u v h = (h.1, h.0, neighbour_swap d (level_swap k) h.2)

  pub level_fall : (k u v : ℕ) → Level S d (suc k) u v → Level S d k u v
  level_fall zero u v h = (h.0, h.1)
  level_fall (suc k) u v h = (h.0, h.1, neighbour_map (level_fall k) h.2)

  pub level_down : {m k : ℕ} (u v : ℕ) → m ≤ k → Level S d k u v → Level S d m u v
  level_down u v = down (λ k. Level S d k u v) (λ k. level_fall k u v)

  module _ (K : ℕ) (settled : Settled S d K) where
    pub settled_after : (m : ℕ) → K ≤ m → Settled S d m
    settled_after = le_ind (λ m. Settled S d m) settled (λ m _ f u v h. (h.0, h.1, neighbour_map f h.2))

    -- what is left when the levels have settled is in every level
    pub every_level : (u v : ℕ) → Level S d K u v → (m : ℕ) → Level S d m u v
    every_level u v h m = always (λ k. Level S d k u v) (λ k. level_fall k u v) K (λ k l. settled_after k l u v) h m
