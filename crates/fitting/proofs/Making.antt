-- The tables by output letter, as they are made.
use mathlib.Core.List.{List}
use Prim.Native.Nat.{ℕ, ◌+◌, ◌*◌, ◌<◌}
use native.Mathlib.Omega.{arith}
use lib.ListN.{get_or}
use Rattle.mealy.specs.Word.{Holds}
use Rattle.mealy.proofs.Words.{holds_map}
use Rattle.mealy.proofs.Members.{holds_itself}
use Rattle.mealy.proofs.StepWords.{StepsTaken}
use Rattle.fitting.specs.Tables.{Gives, EntriesAsked, ByOutput, Leads}

-- step p: the entry at place p gives its value to the word of its key and its output letter
abbrev pub word_of : List ℕ → List ℕ → ℕ → ℕ
word_of keys output p = 16 * get_or output p 0 + get_or keys p 0

pub word_below :
    {values : List ℕ} {states : ℕ} (keys output : List ℕ) (p : ℕ) → EntriesAsked keys values output states → word_of keys output p < 1024
word_below keys output p a = omega (arith, a.keys_high p, a.output_high p)

pub steps_by_output :
    {keys values output : List ℕ} {states inputs : ℕ} {words : List ℕ} → ((p : ℕ) → get_or keys p 0 < 16) →
    StepsTaken (word_of keys output) (Gives values inputs) 1024 (16 * states) words → ByOutput keys values output states inputs words
steps_by_output {keys} {values} {output} {states} {inputs} low t =
    record {
      size = t.long;
      holds = λ o s l m.
          holds_map
          (λ x g.
          let e = g.step.0 in
          let k = low g.s in
          record { p = g.s; below = g.from; key = omega arith; out = omega arith; gives = g.step.1 })
          (λ x g. record { s = g.p; from = g.below; step = (rw (g.out, g.key), g.gives) })
          (t.holds (16 * o + s) (omega arith));
    }

-- a word of a table holds what it leads to
pub leads_holds :
    (words : List ℕ) (o s : ℕ) → s < 16 → get_or words (16 * o + s) 0 < 65536 → Holds (Leads words o s) (get_or words (16 * o + s) 0)
leads_holds words o s l b = holds_map (λ t h. (l, h)) (λ t h. h.1) (holds_itself b)
