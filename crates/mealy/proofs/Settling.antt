-- The levels of either direction settle within N (N + 1) / 2 rounds, whatever the machine; so a window of such sides works if
-- any does.
use mathlib.Core.Logic.{◌⊎◌, inl, inr}
use Prim.Native.Nat.{ℕ, ◌≤◌}
use native.Mathlib.Omega.{arith}
use Rattle.mealy.specs.Setting.{Setting, Closed, Bounded}
use Rattle.mealy.specs.Window.{Works}
use Rattle.mealy.specs.Product.{Direction, back, forward, Settled, pairs}
use Rattle.mealy.proofs.Levels.{level_fall, level_swap, settled_after}
use Rattle.mealy.proofs.Windows.{unambiguous→works, no_decoder}
use Rattle.mealy.proofs.Sums.{bit, bit_small, bit_le, bit_get, stops_falling}
use Rattle.mealy.proofs.Decisions.{dec_level, level_bounded, dec_ambiguous}

module _ (S : Setting) (decide_start : (s : ℕ) → Dec (S.Start s)) (bounded : Bounded S) where
  open S use {M, Conflict}

  settles : (d : Direction) → (K : ℕ) × (K ≤ pairs M.states) × Settled S d K
  settles d =
      let level = dec_level S decide_start bounded d in
      let r = stops_falling M.states (λ k s t. bit (level k s t)) (λ k s t. bit_small _) (λ k s t. bit_le _ _ (level_fall S d k s t)) (λ k s t. bit_le _ _ (level_swap S d k s t)) in
      (r.0, r.1, λ u v h. let z = level_bounded S decide_start bounded d r.0 u v h in bit_get _ _ (r.2 u v z.0 z.1) h)

  pub settled_by : (d : Direction) (m : ℕ) → pairs M.states ≤ m → Settled S d m
  settled_by d m l = let r = settles d in settled_after S d r.0 r.2 m (omega arith)

  -- if any window works, the one with N (N + 1) / 2 letters on either side does
  module _ (closed : Closed S) (decide_conflict : (i j : ℕ) → Dec (Conflict i j)) where
    pub some_or_none : Works S (pairs M.states) (pairs M.states) ⊎ ((b a : ℕ) → Works S b a → ⊥)
    some_or_none =
        let n = pairs M.states in
        elim (dec_ambiguous S decide_start bounded closed decide_conflict n n) [
          | yes c ↦ inr (no_decoder S closed n n (settled_by back n (omega arith)) (settled_by forward n (omega arith)) c)
          | no c ↦ inl (unambiguous→works S closed n n c)
        ]
