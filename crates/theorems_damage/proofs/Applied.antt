-- The theorem applied to the worked examples: at the first place of which it speaks behind the altered letter, at the last ahead of it.
use mathlib.Core.Path.{◌≡◌, refl}
use mathlib.Core.Bool.{Bool, true, false}
use mathlib.Core.Logic.{◌≢◌}
use mathlib.Core.List.{List, [], ◌∷◌}
use Prim.Native.Nat.{ℕ, zero, suc, ◌+◌, ◌-◌, ◌≤◌, ◌<◌}
use native.Mathlib.Omega.{arith}
use lib.ListN.{length, get_or, take, drop}
use lib.Dec.{lit<, lit≤}
use Rattle.coder.specs.Refusal.{all_below}
use Rattle.coder.proofs.Refusals.{true_false, all_at}
use Rattle.decoder.specs.Places.{StringPromise}
use Rattle.theorems_damage.specs.Change.{Change, kept, altered, lost, added, KeptAt}
use Rattle.theorems_damage.specs.Damage.{StringDecoded, SameByte, AsUndamaged, Undamaged}
use Rattle.theorems_damage.specs.Examples.{Example, Holds, spliced, delayed, noticed, settled}
use Rattle.theorems_damage.proofs.Examples.{examples_hold}
use Rattle.theorems_damage.proofs.Travel.{damage_does_not_travel}
use Rattle.std.specs.Prelude.{Result, Ok}
use Rattle.coder.specs.declared.refusal.Refusal.{Refusal}

-- ---- letters that were kept, by a test

abbrev kept_test : List Change → ℕ → Bool
kept_test [] i = false
kept_test (kept x ∷ cs) zero = true
kept_test (altered x y ∷ cs) zero = false
kept_test (lost x ∷ cs) zero = false
kept_test (added y ∷ cs) zero = false
kept_test (c ∷ cs) (suc i) = kept_test cs i

kept_test_lem : (cs : List Change) (i : ℕ) → kept_test cs i ≡ true → KeptAt cs i
kept_test_lem [] i e = true_false e refl
kept_test_lem (kept x ∷ cs) zero e = tt
kept_test_lem (altered x y ∷ cs) zero e = true_false e refl
kept_test_lem (lost x ∷ cs) zero e = true_false e refl
kept_test_lem (added y ∷ cs) zero e = true_false e refl
kept_test_lem (c ∷ cs) (suc i) e = kept_test_lem cs i e

-- n letters from change j on
kept_from : (cs : List Change) (j n : ℕ) → all_below n (λ i. kept_test cs (j + i)) ≡ true → (i : ℕ) → j ≤ i → i < j + n → KeptAt cs i
kept_from cs j n e i l m =
    let same : j + (i - j) ≡ i = omega arith in
    kept_test_lem cs i (rw same at (all_at n (λ i. kept_test cs (j + i)) e (i - j) (omega arith)))

-- ---- the theorem

-- two calls of an example, where a law says what becomes of them
applied :
    (e : Example) → Holds e → (k k' : ℕ) → AsUndamaged (StringDecoded e.file e.window) e.changes k k' →
    SameByte (length e.bytes) (length e.bytes') e.bytes e.bytes' k k'
applied e h k k' same =
    same _ _ _ _ (rw h.sent_are h.own.undamaged) (rw h.received_are h.own.damaged)

travels_not : (e : Example) → Undamaged e.window (StringDecoded e.file e.window)
travels_not e = damage_does_not_travel.own e.file e.window

-- Letters lost and added, and then an altered one: with the settle count's letter behind the altered one the window begins at place 2.
pub spliced_same : SameByte 7 8 spliced.bytes spliced.bytes' 4 5
unfolding all_below
spliced_same =
    let rest = drop 4 spliced.changes in
    applied spliced examples_hold.0 4 5
    ((travels_not spliced).lost_or_added (take 4 spliced.changes) rest (tt, (tt, (tt, (tt, (tt, (tt, tt)))))) 2
    (record { inside = lit≤ tt; kept = λ i l m. kept_from rest 1 3 refl i (omega arith) (omega arith) }))

-- Without that letter it begins at place 1; the window in front of it holds the altered letter, and its byte differs.
pub spliced_unsettled : SameByte 7 8 spliced.bytes spliced.bytes' 3 4
unfolding all_below
spliced_unsettled =
    let rest = drop 4 spliced.changes in
    applied spliced examples_hold.0 3 4
    ((travels_not spliced).unsettled (take 4 spliced.changes) rest (tt, (tt, (tt, (tt, (tt, (tt, tt)))))) 1 (kept_from rest 1 2 refl))

pub spliced_differs : get_or spliced.bytes' 3 0 ≢ get_or spliced.bytes 2 0
spliced_differs e = absurd (omega (arith, e))

-- One letter altered: the windows next to it on either side, as a splice of one letter and by the sentence on altered letters.
module _ where
  abbrev front : List Change
  front = take 2 delayed.changes

  abbrev cut : List Change
  cut = altered 0 1 ∷ []

  abbrev rest : List Change
  rest = drop 3 delayed.changes

  pub delayed_ahead : SameByte 4 4 delayed.bytes delayed.bytes' 0 0
  delayed_ahead = applied delayed examples_hold.1.0 0 0 ((travels_not delayed).ahead front cut rest (tt, (tt, tt)) 0 (lit≤ tt))

  pub delayed_behind : SameByte 4 4 delayed.bytes delayed.bytes' 3 3
  delayed_behind =
      applied delayed examples_hold.1.0 3 3 ((travels_not delayed).behind front cut rest (tt, (tt, tt)) (tt, (tt, tt)) 0 (lit≤ tt))

pub noticed_behind : SameByte 4 4 noticed.bytes noticed.bytes' 3 3
unfolding all_below
noticed_behind =
    applied noticed examples_hold.1.1.0 3 3
    ((travels_not noticed).altered noticed.changes (tt, (tt, (tt, (tt, (tt, (tt, tt)))))) 3 (kept_from noticed.changes 3 3 refl))

-- Damaged in all four ways, coder G: the settle count's letter is the first behind the altered one.
pub settled_same : SameByte 7 8 settled.bytes settled.bytes' 5 6
unfolding all_below
settled_same =
    let rest = drop 6 settled.changes in
    applied settled examples_hold.1.1.1.0 5 6
    ((travels_not settled).lost_or_added (take 6 settled.changes) rest (tt, (tt, (tt, (tt, tt)))) 1
    (record { inside = lit≤ tt; kept = λ i l m. kept_from rest 0 3 refl i (omega arith) (omega arith) }))

-- Its call is not refused: each letter altered to or added is below O.
pub settled_accepted :
    (before after : List ℕ) (r : Result ℕ Refusal) → 8 ≤ length before →
    StringPromise settled.file settled.window settled.arrives before r after → r ≡ Ok 8
settled_accepted before after r room call =
    damage_does_not_travel.accepted settled.file settled.window settled.changes 7 settled.bytes
    examples_hold.1.1.1.0.own.undamaged
    (tt, (lit< tt, (lit< tt, (tt, (tt, (lit< tt, (tt, (tt, (tt, (tt, tt)))))))))) before r after room call
