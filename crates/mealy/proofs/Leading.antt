-- Letters lead on from some state of a set exactly where some state of it lies before them.
use mathlib.Core.List.{List, [], ◌∷◌}
use Prim.Native.Nat.{ℕ, zero, suc}
use lib.ListN.{drop}
use Rattle.mealy.specs.Image.{Image, Transitions, Leading, Reached}
use Rattle.mealy.proofs.Images.{Within}

-- a state of both sets
pub record Meets (P P' : ℕ → Type 0) : Type 0 where
  pub s : ℕ
  pub first : P s
  pub second : P' s

-- Q has the transitions of R from their ends back, for the letters with Open; B has all states.
module _ (R Q : Transitions) (B : ℕ → Type 0) (Open : ℕ → Type 0) (to : (o s t : ℕ) → Open o → R o s t → Q o t s × B t)
    (from : (o s t : ℕ) → Open o → Q o t s → R o s t) where
  abbrev pub Known : List ℕ → Type 0
  Known [] = Unit {0}
  Known (o ∷ w) = Open o × Known w

  pub reached_leading : (w : List ℕ) → Known w → (P : ℕ → Type 0) → Within P B → Reached R P w → Meets P (Leading Q B w)
  reached_leading [] a P h r = record { s = r.t; first = r.is; second = h r.t r.is }
  reached_leading (o ∷ w) a P h r =
      let m = reached_leading w a.1 (Image (R o) P) (λ t i. (to o i.s t a.0 i.step).1) (record { t = r.t; is = r.is }) in
      let i = m.first in
      record { s = i.s; first = i.from; second = record { s = m.s; from = m.second; step = (to o i.s m.s a.0 i.step).0 } }

  pub leading_reached : (w : List ℕ) → Known w → (P : ℕ → Type 0) → Meets P (Leading Q B w) → Reached R P w
  leading_reached [] a P m = record { t = m.s; is = m.first }
  leading_reached (o ∷ w) a P m =
      let i = m.second in
      let r = leading_reached w a.1 (Image (R o) P) (record {
        s = i.s;
        first = record { s = m.s; from = m.first; step = from o m.s i.s a.0 i.step };
        second = i.from;
      }) in
      record { t = r.t; is = r.is }

-- where no state lies before the last letters, none lies before all
pub leading_none :
    (Q : Transitions) (B : ℕ → Type 0) (w : List ℕ) (k : ℕ) → ((s : ℕ) → Leading Q B (drop k w) s → ⊥) →
    (s : ℕ) → Leading Q B w s → ⊥
leading_none Q B w zero h s p = h s p
leading_none Q B [] (suc k) h s p = h s p
leading_none Q B (o ∷ w) (suc k) h s p = leading_none Q B w k h p.s p.from
