-- The levels are the same whatever letters are told apart, so some window works exactly when no edge on letters to tell apart leads from
-- a settled back level to a settled forward level; and the window of the settled levels serves all carried kinds together.
use mathlib.Core.Logic.Dec
use mathlib.Core.Logic.{◌↔◌, ◌≢◌, inl, inr}
use mathlib.Core.Path.{◌≡◌}
use Prim.Native.Nat.{ℕ}
use native.Mathlib.Omega.{arith}
use native.Mathlib.Decide.{ℕ_discrete, map_dec}
use Rattle.mealy.specs.Setting.{Setting, Closed, Bounded}
use Rattle.mealy.specs.Window.{Works}
use Rattle.mealy.specs.Product.{back, forward, Settled, Ambiguous, pairs}
use Rattle.mealy.proofs.Windows.{unambiguous→works, no_decoder}
use Rattle.mealy.proofs.Decisions.{dec_ambiguous}
use Rattle.mealy.proofs.Settling.{settled_by}
use Rattle.kinds.specs.Kinds.{DifferentKinds, DifferentWithin, DifferentCarried, telling, tell_kinds, tell_carried}
use Rattle.kinds.specs.Kinds.{SomeWindow, Carried}
use Rattle.kinds.proofs.Telling.{kinds→carried}

-- An edge on letters that D tells apart, between the levels K and L. Which letters conflict has no part in the levels, so those of
-- `telling S D` are those of S itself.
abbrev pub EdgeBetween : Setting → (ℕ → ℕ → Type 0) → ℕ → ℕ → Type 0
EdgeBetween S D = Ambiguous (telling S D)

module _ (S : Setting) (closed : Closed S) (K L : ℕ) (settled_k : Settled S back K) (settled_l : Settled S forward L) where
  module _ (D : ℕ → ℕ → Type 0) where
    pub edge→none : EdgeBetween S D K L → (b a : ℕ) → Works (telling S D) b a → ⊥
    edge→none = no_decoder (telling S D) closed K L settled_k settled_l

    no_edge→works : (EdgeBetween S D K L → ⊥) → Works (telling S D) K L
    no_edge→works = unambiguous→works (telling S D) closed K L

    window↔no_edge : SomeWindow (telling S D) ↔ (EdgeBetween S D K L → ⊥)
    window↔no_edge = ((λ w c. edge→none c w.0 w.1 w.2), λ f. (K, L, no_edge→works f))

    -- if any window works, that of the settled levels does
    window→settled : SomeWindow (telling S D) → Works (telling S D) K L
    window→settled w = no_edge→works (window↔no_edge.0 w)

  -- one window for all carried kinds
  pub settled_carried :
      (kind : ℕ → ℕ) → SomeWindow (tell_kinds S kind) → (C : ℕ → Type 0) → ((κ : ℕ) → C κ → Carried S kind κ) →
      Works (tell_carried S kind C) K L
  settled_carried kind w C f =
      kinds→carried S kind C K L (window→settled (DifferentKinds kind) w) (λ κ h. window→settled (DifferentWithin kind κ) (f κ h))

-- ---- decisions

pub dec_kinds : (kind : ℕ → ℕ) (i j : ℕ) → Dec (DifferentKinds kind i j)
dec_kinds kind i j = Dec.not (ℕ_discrete (kind i) (kind j))

dec_within : (kind : ℕ → ℕ) (κ i j : ℕ) → Dec (DifferentWithin kind κ i j)
dec_within kind κ i j =
    map_dec (λ z. (z.0, z.1.0, z.1.1)) (λ z. (z.0, (z.1, z.2)))
    (Dec.and (ℕ_discrete (kind i) κ) (Dec.and (ℕ_discrete (kind j) κ) (Dec.not (ℕ_discrete i j))))

pub dec_carried_different :
    (kind : ℕ → ℕ) (C : ℕ → Type 0) → ((κ : ℕ) → Dec (C κ)) → (i j : ℕ) → Dec (DifferentCarried kind C i j)
dec_carried_different kind C d i j = go (ℕ_discrete (kind i) (kind j)) (Dec.and (d (kind i)) (Dec.not (ℕ_discrete i j)))
  where
    go : Dec (kind i ≡ kind j) → Dec (C (kind i) × (i ≢ j)) → Dec (DifferentCarried kind C i j)
    go (no n) e = yes (inl n)
    go (yes p) (yes e) = yes (inr (p, e.0, e.1))
    go (yes p) (no e) = no (λ c. elim c [ inl n ↦ n p | inr z ↦ e (z.1, z.2) ])

module _ (S : Setting) (closed : Closed S) (decide_start : (s : ℕ) → Dec (S.Start s)) (bounded : Bounded S) where
  window_or_none : (D : ℕ → ℕ → Type 0) → ((i j : ℕ) → Dec (D i j)) → Dec (SomeWindow (telling S D))
  window_or_none D d =
      let n = pairs S.M.states in
      let p = settled_by S decide_start bounded back n (omega arith) in
      let q = settled_by S decide_start bounded forward n (omega arith) in
      let z = window↔no_edge S closed n n p q D in
      map_dec z.1 z.0 (Dec.not (dec_ambiguous (telling S D) decide_start bounded closed d n n))

  module _ (kind : ℕ → ℕ) where
    pub dec_carried : (κ : ℕ) → Dec (Carried S kind κ)
    dec_carried κ = window_or_none (DifferentWithin kind κ) (dec_within kind κ)

    -- kinds can be told by some window, or by none
    pub dec_can : Dec (SomeWindow (tell_kinds S kind))
    dec_can = window_or_none (DifferentKinds kind) (dec_kinds kind)
