-- A letter fits exactly where the sets of states that follow it do not become empty.
use mathlib.Core.Path.{◌≡◌, refl, ap, ap₂, ◌∙◌}
use mathlib.Core.List.{List, [], ◌∷◌}
use Prim.Native.Nat.{ℕ, zero, suc, ◌<◌}
use native.Mathlib.Omega.{arith}
use lib.ListN.{length, get_or, take, drop}
use Rattle.mealy.specs.Machine.{Machine, outs, end, Letters, Total}
use Rattle.mealy.specs.Setting.{Setting, Bounded}
use Rattle.mealy.specs.HowFar.{SomeRun}
use Rattle.mealy.specs.Answer.{Fits}
use Rattle.mealy.specs.Image.{Image, Transitions, Following, Fitting, Entry, Successor}

-- ---- larger sets, more transitions

abbrev pub Within : (ℕ → Type 0) → (ℕ → Type 0) → Type 0
Within P P' = (s : ℕ) → P s → P' s

pub image_within :
    {Q Q' : ℕ → ℕ → Type 0} {P P' : ℕ → Type 0} → ((s t : ℕ) → Q s t → Q' s t) → Within P P' → Within (Image Q P) (Image Q' P')
image_within f g t i = record { s = i.s; from = g i.s i.from; step = f i.s t i.step }

module _ (R R' : Transitions) (Open : ℕ → Type 0) (f : (o s t : ℕ) → Open o → R o s t → R' o s t) where
  -- every letter is one for which the transitions are known
  abbrev pub All : List ℕ → Type 0
  All [] = Unit {0}
  All (o ∷ w) = Open o × All w

  pub following_within :
      (w : List ℕ) → All w → {P P' : ℕ → Type 0} → Within P P' → Within (Following R P w) (Following R' P' w)
  following_within [] a g = g
  following_within (o ∷ w) a {P} {P'} g =
      following_within w a.1 {P = Image (R o) P} {P' = Image (R' o) P'} (image_within (λ s t. f o s t a.0) g)

  pub fitting_within :
      (E E' : ℕ → Transitions) → ((x o s t : ℕ) → Open o → E x o s t → E' x o s t) → (w : List ℕ) → All w →
      (b x : ℕ) {P P' : ℕ → Type 0} → Within P P' → Fitting R E P w b x → Fitting R' E' P' w b x
  fitting_within E E' h [] a b x g p = p
  fitting_within E E' h (o ∷ w) a zero x {P} {P'} g p =
      record {
        t = p.t;
        is = following_within w a.1 {P = Image (E x o) P} {P' = Image (E' x o) P'} (image_within (λ s t. h x o s t a.0) g) p.t p.is;
      }
  fitting_within E E' h (o ∷ w) a (suc b) x {P} {P'} g p =
      fitting_within E E' h w a.1 b x {P = Image (R o) P} {P' = Image (R' o) P'} (image_within (λ s t. f o s t a.0) g) p

-- the same letters from the same states
pub following_same : (R : Transitions) (w : List ℕ) {P P' : ℕ → Type 0} → Within P P' → Within (Following R P w) (Following R P' w)
following_same R w {P} {P'} = following_within R R (λ o. Unit {0}) (λ o s t y r. r) w (all w) {P = P} {P' = P'}
  where
    all : (w : List ℕ) → All R R (λ o. Unit {0}) (λ o s t y r. r) w
    all [] = tt
    all (o ∷ w) = (tt, all w)

-- from no state there is none
pub following_none : (R : Transitions) (w : List ℕ) {P : ℕ → Type 0} → ((s : ℕ) → P s → ⊥) → (t : ℕ) → Following R P w t → ⊥
following_none R [] h = h
following_none R (o ∷ w) {P} h = following_none R w {P = Image (R o) P} (λ t i. h i.s i.from)

-- the letters before place b, and those from it on
pub fitting_split :
    (R : Transitions) (E : ℕ → Transitions) (P : ℕ → Type 0) (w : List ℕ) (b x : ℕ) →
    Fitting R E P w b x ≡ Fitting R E (Following R P (take b w)) (drop b w) 0 x
fitting_split R E P [] zero x = refl
fitting_split R E P [] (suc b) x = refl
fitting_split R E P (o ∷ w) zero x = refl
fitting_split R E P (o ∷ w) (suc b) x = fitting_split R E (Image (R o) P) w b x

-- ---- runs of a machine

-- the setting with other start states
abbrev from : Setting → (ℕ → Type 0) → Setting
from S P = record { M = S.M; Start = P; Conflict = S.Conflict }

-- one entry in front
longer :
    (S : Setting) (P : ℕ → Type 0) (o : ℕ) (w : List ℕ) → SomeRun (from S (Image (Successor S.M o) P)) w → SomeRun (from S P) (o ∷ w)
longer S P o w r =
    let i = r.start in
    let e = i.step.entry in
    record {
      s = i.s;
      xs = i.step.x ∷ r.xs;
      start = i.from;
      letters = (e.letter, r.letters);
      outputs = ap₂ ◌∷◌ e.output (ap (λ t. outs S.M t r.xs) e.to ∙ r.outputs);
    }

pub following_run : (S : Setting) (P : ℕ → Type 0) (w : List ℕ) (t : ℕ) → Following (Successor S.M) P w t → SomeRun (from S P) w
following_run S P [] t h = record { s = t; xs = []; start = h; letters = tt; outputs = refl }
following_run S P (o ∷ w) t h = longer S P o w (following_run S (Image (Successor S.M o) P) w t h)

module _ (S : Setting) where
  abbrev M : Machine
  M = S.M

  pub fitting_fits : (w : List ℕ) (b x : ℕ) (P : ℕ → Type 0) → Fitting (Successor M) (Entry M) P w b x → Fits (from S P) w b x
  unfolding longer
  fitting_fits [] b x P h = absurd h
  fitting_fits (o ∷ w) zero x P h =
      let r = following_run S (Image (Entry M x o) P) w h.t h.is in
      let i = r.start in
      let e = i.step in
      record {
        s = i.s;
        xs = x ∷ r.xs;
        start = i.from;
        letters = (e.letter, r.letters);
        outputs = ap₂ ◌∷◌ e.output (ap (λ t. outs M t r.xs) e.to ∙ r.outputs);
        inside = omega arith;
        letter = refl;
      }
  fitting_fits (o ∷ w) (suc b) x P h =
      let f = fitting_fits w b x (Image (Successor M o) P) h in
      let r = longer S P o w (record { s = f.s; xs = f.xs; start = f.start; letters = f.letters; outputs = f.outputs }) in
      record {
        s = r.s;
        xs = r.xs;
        start = r.start;
        letters = r.letters;
        outputs = r.outputs;
        inside = omega (arith, f.inside);
        letter = f.letter;
      }

  module _ (total : Total M) where
    step : (o s x : ℕ) → s < M.states → x < M.inputs → M.out s x ≡ o → Entry M x o s (M.next s x)
    step o s x k l e = record { state = k; letter = l; output = e; to = refl }

    pub run_following :
        (w xs : List ℕ) (s : ℕ) (P : ℕ → Type 0) → Within P (λ t. t < M.states) → P s → Letters M.inputs xs →
        outs M s xs ≡ w → Following (Successor M) P w (end M s xs)
    run_following [] [] s P k p l e = p
    run_following [] (x ∷ xs) s P k p l e = absurd (let z : ◌≡◌ {A = ℕ} 0 1 = cc in omega arith)
    run_following (o ∷ w) [] s P k p l e = absurd (let z : ◌≡◌ {A = ℕ} 0 1 = cc in omega arith)
    run_following (o ∷ w) (x ∷ xs) s P k p l e =
        run_following w xs (M.next s x) (Image (Successor M o) P)
        (λ t i. let y = i.step.entry in rw (← y.to) (total i.s i.step.x y.state y.letter))
        (record { s = s; from = p; step = record { x = x; entry = step o s x (k s p) l.0 (cc) } }) l.1 (cc)

    pub run_fitting :
        (w xs : List ℕ) (b s : ℕ) (P : ℕ → Type 0) → Within P (λ t. t < M.states) → P s → Letters M.inputs xs →
        outs M s xs ≡ w → b < length xs → Fitting (Successor M) (Entry M) P w b (get_or xs b 0)
    run_fitting w [] b s P k p l e n = absurd (omega arith)
    run_fitting [] (x ∷ xs) b s P k p l e n = absurd (let z : ◌≡◌ {A = ℕ} 0 1 = cc in omega arith)
    run_fitting (o ∷ w) (x ∷ xs) zero s P k p l e n =
        record {
          t = end M (M.next s x) xs;
          is =
              run_following w xs (M.next s x) (Image (Entry M x o) P)
              (λ t i. let y = i.step in rw (← y.to) (total i.s x y.state y.letter))
              (record { s = s; from = p; step = step o s x (k s p) l.0 (cc) }) l.1 (cc);
        }
    run_fitting (o ∷ w) (x ∷ xs) (suc b) s P k p l e n =
        run_fitting w xs b (M.next s x) (Image (Successor M o) P)
        (λ t i. let y = i.step.entry in rw (← y.to) (total i.s i.step.x y.state y.letter))
        (record { s = s; from = p; step = record { x = x; entry = step o s x (k s p) l.0 (cc) } }) l.1 (cc) (omega arith)

    pub fits_fitting :
        Bounded S → (w : List ℕ) (b x : ℕ) → Fits S w b x → Fitting (Successor M) (Entry M) S.Start w b x
    fits_fitting k w b x f =
        rw f.letter at (run_fitting w f.xs b f.s S.Start k f.start f.letters f.outputs f.inside)
