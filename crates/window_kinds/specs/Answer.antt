-- The decoder's answer for kinds, and the one that a word of fitting letters stands for.
use Rattle.std.specs.Prelude.{ℕ, ◌/◌, ◌%◌, ◌^◌, Bool, cond, not, ◌||◌, List, eqb}
use Rattle.std.specs.Int.Count.{count_trailing_zeros}
use Rattle.mealy.specs.Setting.{Setting}
use Rattle.coder.specs.Refusal.{all_below}
use Rattle.fitting.specs.Answer.{answer_of}
use Rattle.fitting.specs.declared.Answer.{Answer}
use Rattle.fitting.specs.declared.Answer.TheVariants as fitting
use Rattle.kinds.specs.KindsAnswer as theory
use Rattle.window_kinds.specs.declared.KindsAnswer.{KindsAnswer}
use Rattle.window_kinds.specs.declared.KindsAnswer.TheVariants.{Letter, Kind, None, Several}

-- The code's four cases as those of the theory (document 02, 8/13, the sentence on the decoder).
abbrev pub meaning : KindsAnswer → theory.KindsAnswer
meaning (Letter x) = theory.letter x
meaning (Kind κ) = theory.kind_only κ
meaning None = theory.none
meaning Several = theory.several

-- The answer is right for the letters w of a window with b letters before the present one.
abbrev pub RightKinds : Setting → (ℕ → ℕ) → List ℕ → ℕ → KindsAnswer → Type 0
RightKinds S kind w b v = theory.KindsAnswers S kind w b (meaning v)

-- ---- from the word u of the letters that fit

-- the letter x is not in the word, or has the kind κ
abbrev pub of_kind : (ℕ → ℕ) → ℕ → ℕ → ℕ → Bool
of_kind kind u κ x = not (eqb (u / 2 ^ x % 2) 1) || eqb (kind x) κ

-- every letter of the word has the kind κ
unfoldable pub shared : (ℕ → ℕ) → ℕ → ℕ → Bool
shared kind u κ = all_below 16 (of_kind kind u κ)

-- the kind of the least letter, where all share it
unfoldable pub kind_or_several : (ℕ → ℕ) → ℕ → KindsAnswer
kind_or_several kind u = cond (shared kind u (kind (count_trailing_zeros 16 u))) (Kind (kind (count_trailing_zeros 16 u))) Several

-- by the answer for letters; its none has no count here (document 02, 9/13, third sentence)
abbrev pub of_answer : (ℕ → ℕ) → ℕ → Answer → KindsAnswer
of_answer kind u (fitting.Letter x) = Letter x
of_answer kind u (fitting.None k) = None
of_answer kind u fitting.Several = kind_or_several kind u

abbrev pub kinds_answer_of : (ℕ → ℕ) → ℕ → KindsAnswer
kinds_answer_of kind u = of_answer kind u (answer_of u 0)
