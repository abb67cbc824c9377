-- The present letter: which input letters fit, by the words that hold the states before it.
use mathlib.Core.Path.{◌≡◌, refl}
use mathlib.Core.List.{List, [], ◌∷◌}
use Prim.Native.Nat.{ℕ, suc, ◌+◌, ◌-◌, ◌*◌, ◌<◌}
use native.Mathlib.Omega.{arith}
use native.Mathlib.Numerals.{add-one}
use lib.ListN.{length, get_or, take, drop, length-drop}
use lib.Seq.{drop-cons, take-length}
use Rattle.mealy.specs.Word.{Has, Holds}
use Rattle.mealy.specs.Image.{Image, Transitions, Following, Leading, Reached}
use Rattle.mealy.proofs.Words.{holds_map, holds_none, holds_empty}
use Rattle.mealy.proofs.Members.{holds_member}
use Rattle.mealy.proofs.Leading.{Known, reached_leading, leading_reached}
use Rattle.mealy.specs.Machine.{Letters}
use Rattle.mealy.proofs.Images.{image_within, following_same, fitting_split}
use Rattle.fitting.specs.Tables.{Leads, OnLetter, Between, FittingIn, TablesAsked}

-- where a state follows, there was one before
pub following_some : (R : Transitions) (w : List ℕ) {P : ℕ → Type 0} (t : ℕ) → Following R P w t → (s : ℕ) × P s
following_some R [] t h = (t, h)
following_some R (o ∷ w) {P} t h =
    let q = following_some R w {P = Image (R o) P} t h in
    (q.1.s, q.1.from)

module _ (next successors letters : List ℕ) (o : ℕ) (P : ℕ → Type 0) (after : List ℕ) where
  -- the letter x fits
  abbrev pub FitsHere : ℕ → Type 0
  FitsHere = FittingIn next successors letters P (o ∷ after) 0

  -- and then some entry of a state of the set has it
  fits_letter : (x : ℕ) → FitsHere x → Image (Leads letters o) P x
  fits_letter x r =
      let q = following_some (Leads successors) after {P = Image (OnLetter next letters x o) P} r.t r.is in
      let i = q.1 in
      record { s = i.s; from = i.from; step = (i.step.state, i.step.letter) }

  -- by the states from which the letters after the present one can be produced
  module _ (predecessors : List ℕ) (asked : TablesAsked next successors predecessors letters) (below : Letters 64 after) where
    abbrev R : Transitions
    R = Leads successors

    abbrev Q : Transitions
    Q = Leads predecessors

    to : (k s t : ℕ) → k < 64 → R k s t → Q k t s × (t < 16)
    to k s t l h = let z = asked.turned k s t l h in (z, z.0)

    known : (w : List ℕ) → Letters 64 w → Known R Q (λ t. t < 16) (λ k. k < 64) to asked.turned' w
    known [] l = tt
    known (k ∷ w) l = (l.0, known w l.1)

    pub here_between :
        {from fit : ℕ} → Holds (Leading Q (λ s. s < 16) after) from → Holds (Image (Between next letters o from) P) fit →
        Holds FitsHere fit
    here_between {from} a h =
        holds_map
        (λ x i. leading_reached R Q (λ t. t < 16) (λ k. k < 64) to asked.turned' after (known after below) (Image (OnLetter next letters x o) P) (record {
          s = get_or next (16 * i.s + x) 0;
          first = record { s = i.s; from = i.from; step = record { state = i.step.0.0; letter = i.step.0.1; to = refl } };
          second = holds_member a (get_or next (16 * i.s + x) 0) i.step.1;
        }))
        (λ x r.
        let m = reached_leading R Q (λ t. t < 16) (λ k. k < 64) to asked.turned' after (known after below) (Image (OnLetter next letters x o) P)
        (λ t i. rw (← i.step.to) (asked.next_high _)) r in
        let i = m.first in
        record {
          s = i.s;
          from = i.from;
          step = ((i.step.state, i.step.letter), rw i.step.to (a.has m.s m.second));
        })
        h

-- no letter after the present one: each letter of an entry fits
pub here_last :
    (next successors letters : List ℕ) (o : ℕ) (P : ℕ → Type 0) (after : List ℕ) {u : ℕ} → length after ≡ 0 →
    Holds (Image (Leads letters o) P) u → Holds (FitsHere next successors letters o P after) u
here_last next successors letters o P [] e h =
    holds_map
    (λ x i. record {
      t = get_or next (16 * i.s + x) 0;
      is = record { s = i.s; from = i.from; step = record { state = i.step.0; letter = i.step.1; to = refl } };
    })
    (λ x f. fits_letter next successors letters o P [] x f) h
here_last next successors letters o P (x ∷ after) e h = absurd (omega arith)

-- all letters after the present one
pub rest : (w : List ℕ) (b : ℕ) → take (length w - (b + 1)) (drop (b + 1) w) ≡ drop (suc b) w
rest w b = let e : b + 1 ≡ suc b = add-one b in rw (e, ← length-drop (suc b) w) (take-length (drop (suc b) w))

-- the letters before the present one, the present one, and those after it
pub window_fits :
    (next successors letters w : List ℕ) (b starts : ℕ) {set o u : ℕ} → b < length w → o ≡ get_or w b 0 →
    Holds (Following (Leads successors) (Has starts) (take b w)) set →
    Holds (FitsHere next successors letters o (Has set) (drop (suc b) w)) u →
    Holds (FittingIn next successors letters (Has starts) w b) u
window_fits next successors letters w b starts {set} {o} l e p h =
    let R = Leads successors in
    let E = OnLetter next letters in
    let Q = Following R (Has starts) (take b w) in
    let after = drop (suc b) w in
    holds_map
    (λ x r.
    rw (fitting_split R E (Has starts) w b x, drop-cons w b 0 l, ← e)
    (record {
      t = r.t;
      is =
          following_same R after {P = Image (E x o) (Has set)} {P' = Image (E x o) Q}
          (image_within (λ s t y. y) (holds_member p)) r.t r.is;
    }))
    (λ x f.
    let r : Reached R (Image (E x o) Q) after = rw (fitting_split R E (Has starts) w b x, drop-cons w b 0 l, ← e) at f in
    record {
      t = r.t;
      is =
          following_same R after {P = Image (E x o) Q} {P' = Image (E x o) (Has set)}
          (image_within (λ s t y. y) p.has) r.t r.is;
    })
    h

-- no state is left before the present letter: no letter fits
pub none_fits :
    (next successors letters w : List ℕ) (b starts : ℕ) → Holds (Following (Leads successors) (Has starts) (take b w)) 0 →
    Holds (FittingIn next successors letters (Has starts) w b) 0
none_fits next successors letters w b starts p =
    holds_none (λ x f. go x (drop b w) (rw (fitting_split (Leads successors) (OnLetter next letters) (Has starts) w b x) at f))
  where
    go : (x : ℕ) (v : List ℕ) → FittingIn next successors letters (Following (Leads successors) (Has starts) (take b w)) v 0 x → ⊥
    go x [] f = f
    go x (o ∷ v) f =
        let P = Following (Leads successors) (Has starts) (take b w) in
        let q = following_some (Leads successors) v {P = Image (OnLetter next letters x o) P} f.t f.is in
        holds_empty p refl q.1.s q.1.from
