-- Words that take in a set with each step: step k is at place `at k` and gives the numbers with `G k`.
use mathlib.Core.Path.{◌≡◌, refl, sym, ◌∙◌}
use mathlib.Core.Logic.{inl, ⊎_elim}
use mathlib.Core.List.{List}
use Prim.Native.Nat.{ℕ, ◌+◌, ◌<◌, ◌≤◌}
use native.Mathlib.Decide.{ℕ_discrete, dec_lt}
use native.Mathlib.Omega.{arith}
use lib.Bits.{bit_or}
use lib.ListN.{length, get_or, set, length-set, get_or-eq_default}
use lib.Seq.{get_or-set_same, get_or-set_other}
use Rattle.mealy.specs.Word.{Holds}
use Rattle.mealy.specs.Image.{Image}
use Rattle.mealy.proofs.Words.{holds_map, holds_none}
use Rattle.mealy.proofs.OneMore.{next_below, more_image, image_cases, holds_more}

-- one of the first n steps gives y at place a
abbrev pub StepGives : (ℕ → ℕ) → (ℕ → ℕ → Type 0) → ℕ → ℕ → ℕ → Type 0
StepGives at G n a = Image (λ k y. (at k ≡ a) × G k y) (λ k. k < n)

-- the words, `size` of them, hold what the first n steps give
pub record StepsTaken (at : ℕ → ℕ) (G : ℕ → ℕ → Type 0) (size n : ℕ) (words : List ℕ) : Type 0 where
  pub long : length words ≡ size
  pub holds : (a : ℕ) → a < size → Holds (StepGives at G n a) (get_or words a 0)

module _ {at : ℕ → ℕ} {G : ℕ → ℕ → Type 0} {size : ℕ} where
  pub steps_none : {words : List ℕ} → length words ≡ size → ((p : ℕ) → get_or words p 0 ≡ 0) → StepsTaken at G size 0 words
  steps_none e z = record { long = e; holds = λ a l. rw (z a) (holds_none (λ y g. let b = g.from in omega arith)) }

  pub steps_more :
      {words : List ℕ} {n v : ℕ} → StepsTaken at G size n words → at n < size → Holds (G n) v →
      StepsTaken at G size (n + 1) (set words (at n) (bit_or (get_or words (at n) 0) v))
  steps_more {words} {n} {v} t l h =
      let u = bit_or (get_or words (at n) 0) v in
      let long = t.long in
      record {
        long = length-set words (at n) u ∙ t.long;
        holds = λ a m. elim (ℕ_discrete a (at n)) [
          | yes e ↦
              rw (e, get_or-set_same words (at n) u 0 (omega arith))
              (holds_more (next_below refl) (t.holds (at n) l) (holds_map (λ y g. (refl, g)) (λ y g. g.1) h))
          | no d ↦
              rw (get_or-set_other words (at n) a u 0 d)
              (holds_map (λ y g. more_image (next_below refl) y (inl g))
              (λ y g. ⊎_elim (λ i. i) (λ k. absurd (d (sym k.0))) (image_cases (next_below refl) y g))
              (t.holds a m))
        ];
      }

  -- each is a word, and past the end stands 0
  pub steps_bound : {words : List ℕ} {n : ℕ} → StepsTaken at G size n words → (a : ℕ) → get_or words a 0 < 65536
  steps_bound {words} t a =
      elim (dec_lt a size) [
        | yes l ↦ (t.holds a l).bound
        | no l ↦
            let long = t.long in
            let m : length words ≤ a = omega arith in
            rw (get_or-eq_default words 0 m) (omega arith)
      ]
