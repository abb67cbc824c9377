-- What the search for kinds reports: there is exactly one report, no side is above N (N + 1) / 2, and where letters can be told it is the
-- window for letters.
use mathlib.Core.Path.{◌≡◌}
use mathlib.Core.Logic.{◌↔◌, ◌⊎◌, inl, inr}
use Prim.Native.Nat.{ℕ, ◌≤◌, ◌<◌}
use native.Mathlib.Omega.{arith}
use Rattle.mealy.specs.Setting.{Setting, Closed, Bounded}
use Rattle.mealy.specs.Window.{Works}
use Rattle.mealy.specs.Order.{Relation, IsOrder, Least}
use Rattle.mealy.specs.Product.{Direction, back, forward, Settled, pairs}
use Rattle.mealy.proofs.LeastWindows.{least_unique, least_exists, least_sides}
use Rattle.mealy.proofs.Settling.{settled_by}
use Rattle.kinds.specs.Kinds.{KindsBelow, DifferentCarried, tell_letters, tell_carried}
use Rattle.kinds.specs.Kinds.{Carried, Cannot, CarriedSet, Found}
use Rattle.kinds.proofs.Telling.{Included, least_included, carried→kinds, letters_carried, least_every}
use Rattle.kinds.proofs.CarriedKinds.{settled_carried, dec_carried, dec_can, dec_carried_different}

module _ (S : Setting) (kind : ℕ → ℕ) where
  -- ---- one report at most

  pub found_can : {R : Relation} {C : ℕ → Type 0} {b a : ℕ} → Found R S kind C b a → Cannot S kind → ⊥
  found_can {C = C} {b = b} {a = a} f g = g b a (carried→kinds S kind C b a f.least.works)

  module _ (below : KindsBelow S.M.inputs kind) where
    -- the set may be said in any way
    same_set :
        (C C' : ℕ → Type 0) → CarriedSet S kind C → CarriedSet S kind C' →
        Included S.M.inputs (DifferentCarried kind C) (DifferentCarried kind C')
    same_set C C' p q i j l m (inl d) = inl d
    same_set C C' p q i j l m (inr d) = inr (d.0, (q _ (below i l)).1 ((p _ (below i l)).0 d.1), d.2)

    pub found_set : {R : Relation} {C C' : ℕ → Type 0} {b a : ℕ} → CarriedSet S kind C' → Found R S kind C b a → Found R S kind C' b a
    found_set {R = R} {C = C} {C' = C'} {b = b} {a = a} q f = record {
      carried = q;
      least =
          least_included S (DifferentCarried kind C') (DifferentCarried kind C) (same_set C' C q f.carried)
          (same_set C C' f.carried q) R b a f.least;
    }

    pub found_unique :
        {R : Relation} {C C' : ℕ → Type 0} {b a b' a' : ℕ} → IsOrder R → Found R S kind C b a → Found R S kind C' b' a' →
        (b ≡ b') × (a ≡ a') × ((κ : ℕ) → κ < S.M.inputs → C κ ↔ C' κ)
    found_unique {C = C} {C' = C'} order f g =
        let z = least_unique order (tell_carried S kind C) _ _ _ _ f.least (found_set f.carried g).least in
        (z.0, z.1, λ κ l. ((λ c. (g.carried κ l).1 ((f.carried κ l).0 c)), λ c. (f.carried κ l).1 ((g.carried κ l).0 c)))

    -- ---- where letters can be told, every kind is in the set, and the window is the least for letters

    module _ (b a : ℕ) (works : Works (tell_letters S) b a) where
      pub letters_found :
          (R : Relation) (C : ℕ → Type 0) (b a : ℕ) →
          Found R S kind C b a ↔ (((κ : ℕ) → κ < S.M.inputs → C κ) × Least R (tell_letters S) b a)
      letters_found R C b' a' = (
        (λ f.
            let every : (κ : ℕ) → κ < S.M.inputs → C κ = λ κ l. (f.carried κ l).1 (letters_carried S kind b a works κ) in
            (every, (least_every S kind C (λ i l. every (kind i) (below i l)) R b' a').0 f.least)),
        λ z. record {
          carried = λ κ l. ((λ c. letters_carried S kind b a works κ), λ c. z.0 κ l);
          least = (least_every S kind C (λ i l. z.0 (kind i) (below i l)) R b' a').1 z.1;
        },
      )

-- ---- one report at least

module _ (S : Setting) (kind : ℕ → ℕ) (closed : Closed S) (decide_start : (s : ℕ) → Dec (S.Start s)) (bounded : Bounded S) where
  settled : (d : Direction) → Settled S d (pairs S.M.states)
  settled d = settled_by S decide_start bounded d (pairs S.M.states) (omega arith)

  pub cannot_or_found : {R : Relation} → IsOrder R → Cannot S kind ⊎ ((b : ℕ) × (a : ℕ) × Found R S kind (Carried S kind) b a)
  cannot_or_found order = elim (dec_can S closed decide_start bounded kind) [
    | yes w ↦
        let C = Carried S kind in
        let n = pairs S.M.states in
        let works = settled_carried S closed n n (settled back) (settled forward) kind w C (λ κ c. c) in
        let decided = dec_carried_different kind C (dec_carried S closed decide_start bounded kind) in
        let z = least_exists order (tell_carried S kind C) closed decide_start bounded decided n n works in
        inr (z.0, z.1, record { carried = λ κ l. ((λ c. c), λ c. c); least = z.2 })
    | no w ↦ inl (λ b a f. w (b, a, f))
  ]

  pub found_sides :
      {R : Relation} {C : ℕ → Type 0} {b a : ℕ} → IsOrder R → Found R S kind C b a →
      (b ≤ pairs S.M.states) × (a ≤ pairs S.M.states)
  found_sides {C = C} {b = b} {a = a} order found =
      let n = pairs S.M.states in
      least_sides order (tell_carried S kind C) closed n n (settled back) (settled forward) b a found.least
