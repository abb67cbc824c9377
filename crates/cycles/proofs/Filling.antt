-- The words of the pairs of states, as they are made step by step.
use mathlib.Core.Path.{◌≡◌, refl, subst₂}
use mathlib.Core.List.{List}
use Prim.Native.Nat.{ℕ, ◌+◌, ◌*◌, ◌/◌, ◌%◌, ◌<◌, ◌≤◌}
use native.Mathlib.Omega.{arith}
use lib.Bits.{bit_or}
use lib.ListN.{get_or, set}
use Rattle.mealy.specs.Word.{Holds}
use Rattle.mealy.proofs.Members.{holds_member}
use Rattle.mealy.proofs.StepWords.{StepGives, StepsTaken, steps_more, steps_bound}
use Rattle.cycles.specs.Successors.{GivesOutput, StateJoins, SuccessorsFilled}

-- Step 16 p + v: the entry at place p, and those of state v with its output.
abbrev pub place_of : List ℕ → ℕ → ℕ
place_of next k = 16 * (16 * (k / 16 / 16) + k % 16) + get_or next (k / 16) 0

abbrev pub GivesAt : List ℕ → List ℕ → ℕ → ℕ → ℕ → Type 0
GivesAt output to inputs k y = GivesOutput output to inputs (k / 16) (k % 16) y

-- Step 16 p + v, in the terms of p and v.
pub steps_pair :
    (next output to : List ℕ) {inputs p v g : ℕ} {words : List ℕ} → v < 16 → p < 256 → get_or next p 0 < 16 →
    StepsTaken (place_of next) (GivesAt output to inputs) 4096 (16 * p + v) words → Holds (GivesOutput output to inputs p v) g →
    (StepsTaken (place_of next) (GivesAt output to inputs) 4096 (16 * p + (v + 1))
    (set words (16 * (16 * (p / 16) + v) + get_or next p 0) (bit_or (get_or words (16 * (16 * (p / 16) + v) + get_or next p 0) 0) g)))
steps_pair next output to {inputs} {p} {v} {g} {words} l b h t w =
    let q : p ≡ (16 * p + v) / 16 = omega arith in
    let r : v ≡ (16 * p + v) % 16 = omega arith in
    let e : place_of next (16 * p + v) ≡ 16 * (16 * (p / 16) + v) + get_or next p 0 = rw (← q, ← r) refl in
    let m : 16 * p + v + 1 ≡ 16 * p + (v + 1) = omega arith in
    rw (← m, ← e) (steps_more t (rw e (omega arith)) (subst₂ (λ a b. Holds (GivesOutput output to inputs a b) g) q r w))

pub steps_filled :
    {next output to : List ℕ} {states inputs : ℕ} {words : List ℕ} → states ≤ 16 → ((p : ℕ) → get_or next p 0 < 16) →
    StepsTaken (place_of next) (GivesAt output to inputs) 4096 (256 * states) words → SuccessorsFilled next output to states inputs words
steps_filled {next} {output} {to} {states} {inputs} {words} high low t =
    record {
      shape = record { size = t.long; bound = steps_bound t };
      has = λ u v x y lu lv lx j. (t.holds (16 * (16 * u + v) + x) (omega arith)).has y (joins_gives u v x y lu lv j);
      only = λ u v x y lu lv lx h. gives_joins u v x y lv lx (holds_member (t.holds (16 * (16 * u + v) + x) (omega arith)) y h);
    }
  where
    joins_gives :
        (u v x y : ℕ) → u < states → v < 16 → StateJoins next output to inputs u v x y →
        StepGives (place_of next) (GivesAt output to inputs) (256 * states) (16 * (16 * u + v) + x) y
    joins_gives u v x y lu lv j =
        let b = j.below in
        let k = 16 * (16 * u + j.i) + v in
        let p : k / 16 ≡ 16 * u + j.i = omega arith in
        let m : k % 16 ≡ v = omega arith in
        let s : (16 * u + j.i) / 16 ≡ u = omega arith in
        record { s = k; from = omega arith; step = (rw (p, m, s, j.first), rw (p, m) j.second) }

    gives_joins :
        (u v x y : ℕ) → v < 16 → x < 16 →
        StepGives (place_of next) (GivesAt output to inputs) (256 * states) (16 * (16 * u + v) + x) y →
        StateJoins next output to inputs u v x y
    gives_joins u v x y lv lx g =
        let p = g.s / 16 in
        let q = g.step.0 in
        let l = low p in
        let m : g.s % 16 ≡ v = omega arith in
        let e : 16 * u + p % 16 ≡ p = omega arith in
        record { i = p % 16; below = omega arith; first = rw e (omega arith); second = rw e (rw m at g.step.1) }
