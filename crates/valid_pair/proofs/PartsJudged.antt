-- The parts of a pair as they are followed: what following them asks, and the pair judged by its last part.
use mathlib.Core.Path.{◌≡◌, subst₂}
use mathlib.Core.Bool.{Bool, false}
use mathlib.Core.List.{List}
use Prim.Native.Nat.{ℕ, ◌+◌, ◌*◌, ◌≤◌, ◌<◌}
use native.Mathlib.Omega.{arith}
use lib.ListN.{length, get_or}
use Rattle.mealy.specs.Machine.{Machine}
use Rattle.mealy.specs.Word.{Has}
use Rattle.mealy.specs.Setting.{any_state, worded}
use Rattle.mealy.specs.LoopedPair.{LoopedPair, first, second, mark, unlooped, letters, start_of, Valid}
use Rattle.mealy.specs.Walk.{Part, Loop, Parts}
use Rattle.mealy.proofs.Walks.{walk_ends, walk_start}
use Rattle.mealy.proofs.PairParts.{valid→parts, parts→valid}
use Rattle.mealy.proofs.Letters.{letter_at_lem}
use Rattle.coder.specs.Limits.{max_inputs}
use Rattle.coder.specs.Refusal.{Judges}
use Rattle.coder.specs.Table.{machine_of_coder}
use Rattle.valid_pair.proofs.Following.{letter_first}
use Rattle.valid_pair.specs.Follow.{FollowAsked, CheckAsked}
use Rattle.coder.proofs.Refusals.{true_false}
use Rattle.coder.proofs.Judging.{judges_map}

module _ {next output : List ℕ} {p : LoopedPair} (a : CheckAsked next output p) where
  pub follow_asked :
      {s t : ℕ} (place n : ℕ) → s < a.c.states → t < a.c.states → place + n ≤ letters p →
      FollowAsked next output p.bytes s t place n
  follow_asked place n k m l = record {
    c = a.c;
    p = p;
    tables = a.of.tables;
    first = k;
    second = m;
    within = omega (arith, a.of.size);
  }

  -- the letters of the pair lead to states
  pub followed_low :
      (place n : ℕ) {u v : ℕ} → Part (machine_of_coder a.c) p place n p.s p.t u v → (u < a.c.states) × (v < a.c.states)
  followed_low place n w =
      let h = a.of.tables.sound in
      walk_start (any_state (machine_of_coder a.c)) (λ s i m k. h.next_state s i) a.of.first a.of.second w

  -- the letters at the mark are input letters
  pub mark_low : (k : ℕ) → k ≤ 2 * mark p + 1 → get_or p.bytes k 0 < max_inputs
  mark_low k l =
      let h = a.of.tables in
      omega (arith, h.sound.inputs_high, letter_at_lem a.c.inputs p.bytes h.below k (omega (arith, a.of.size)))

-- once the first of two holds, the second decides
pub judges_both : {A B : Type 0} {r : Bool} → A → Judges B r → Judges (A × B) r
judges_both a = judges_map (λ b. (a, b)) (λ q. q.1)

pub judges_neither : {A B : Type 0} {r : Bool} → Judges A r → r ≡ false → Judges (A × B) r
judges_neither j z = record { yes' = λ e. absurd (true_false e z); no' = λ e q. j.no' e q.0 }

-- once the back loop closes and the letters between the loops have equal outputs, the forward loop decides
pub parts_judged :
    {M : Machine} {p : LoopedPair} {u v : ℕ} {answer : Bool} → Loop M p 0 p.back_loop p.s p.t →
    Part M p p.back_loop (p.lead_in + 1 + p.lead_out) p.s p.t u v →
    Judges (Loop M p (unlooped p) p.forward_loop u v) answer → Judges (Parts M p) answer
parts_judged {M} {p} {u} {v} b w =
    judges_map (λ l. record { u = u; v = v; back = b; between = w; forward = l })
    (λ q.
    let z = walk_ends q.between w in
    subst₂ (λ x y. Loop M p (unlooped p) p.forward_loop x y) z.0 z.1 q.forward)

-- where the runs end decides whether they are back in their states
pub loop_judged :
    {M : Machine} {p : LoopedPair} {place n s t u v : ℕ} {answer : Bool} → 0 < n → Part M p place n s t u v →
    Judges ((u ≡ s) × (v ≡ t)) answer → Judges (Loop M p place n s t) answer
loop_judged {M} {p} {place} {n} {s} {t} l w =
    judges_map (λ e. record { letter = l; walk = subst₂ (λ x y. Part M p place n s t x y) e.0 e.1 w }) (λ z. walk_ends w z.walk)

-- start states, and letters i and j that conflict
abbrev pub Marked : ℕ → List ℕ → LoopedPair → ℕ → ℕ → Type 0
Marked starts conflicts p i j = (Has starts p.s × Has starts p.t) × Has (get_or conflicts i 0) j

-- where these letters stand at the mark the parts decide, and where there are none the pair is not valid
module _ {M : Machine} (conflicts : List ℕ) (starts : ℕ) {p : LoopedPair} {i j : ℕ} (ei : i ≡ get_or p.bytes (2 * mark p) 0)
    (ej : j ≡ get_or p.bytes (2 * mark p + 1) 0) where
  pub valid_judged :
      {r : Bool} → length p.bytes ≡ 2 * letters p → p.s < M.states → p.t < M.states → Marked starts conflicts p i j → Judges (Parts M p) r →
      Judges (Valid (worded M starts conflicts) p) r
  valid_judged e l₁ l₂ m =
      let S = worded M starts conflicts in
      judges_map
      (λ q. parts→valid S p (record {
        held = omega (arith, e);
        start = λ r. elim r as (λ k. S.Start (start_of p k)) [ first ↦ (l₁, m.0.0) | second ↦ (l₂, m.0.1) ];
        conflict = rw (letter_first p (mark p) i ei, ej) at m.1;
        parts = q;
      }))
      (λ v. (valid→parts S p v).parts)

  pub not_valid : (Marked starts conflicts p i j → ⊥) → Valid (worded M starts conflicts) p → ⊥
  not_valid n v = n (((v.start first).1, (v.start second).1), rw (letter_first p (mark p) i ei, ej) v.conflict)
