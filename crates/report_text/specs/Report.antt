-- The report on a coder file: every byte that it prints (document 01, "The report program"; document 02, 1/13, 2/13 and 6/13).
use Rattle.std.specs.Prelude.{ℕ, ◌≡◌, List, [], ◌∷◌, ◌++◌}
use Rattle.mealy.specs.Window.{Works}
use Rattle.mealy.specs.Order.{Least}
use Rattle.mealy.specs.LoopedPair.{LoopedPair}
use Rattle.mealy.specs.First.{First}
use Rattle.coder.specs.Refusal.{upon}
use Rattle.text.specs.Ascii.{space, line_feed}
use Rattle.text.specs.Decimal.{decimal}
use Rattle.pair_text.specs.Lines.{pair_text}
use Rattle.coder.specs.File.{file_refusal, states_of, inputs_of, outputs_of, setting_of, setting_after}
use Rattle.values.specs.Order.{relation_of, default_order}

-- ---- words, in ASCII

-- "refused ", "coder ", "window ": each with one space behind it
abbrev pub refused_word : List ℕ
refused_word = 114 ∷ 101 ∷ 102 ∷ 117 ∷ 115 ∷ 101 ∷ 100 ∷ 32 ∷ []

abbrev pub coder_word : List ℕ
coder_word = 99 ∷ 111 ∷ 100 ∷ 101 ∷ 114 ∷ 32 ∷ []

abbrev pub window_word : List ℕ
window_word = 119 ∷ 105 ∷ 110 ∷ 100 ∷ 111 ∷ 119 ∷ 32 ∷ []

-- ---- lines

-- A refused file: the word and the number, and nothing else.
abbrev pub refused_text : ℕ → List ℕ
refused_text k = refused_word ++ decimal k ++ line_feed

-- The first line on an accepted file: N, I and O.
abbrev pub coder_line : ℕ → ℕ → ℕ → List ℕ
coder_line n i o = coder_word ++ decimal n ++ space ++ decimal i ++ space ++ decimal o ++ line_feed

-- The line on the window with b letters before and a after.
abbrev pub window_line : ℕ → ℕ → List ℕ
window_line b a = window_word ++ decimal b ++ space ++ decimal a ++ line_feed

-- ---- the report

-- Which lines are right behind the first: that of the least window that works, in the default order (document 02, 1/13) and with settle
-- count 0 (6/13); or, where no window works, those of no decoder with the first looped pair (2/13).
pub data VerdictLines (f : List ℕ) : List ℕ → Type 0 where
  a_window : (b a : ℕ) → Least (relation_of default_order) (setting_after f 0) b a → VerdictLines f (window_line b a)
  no_window : (q : LoopedPair) → ((b a : ℕ) → Works (setting_after f 0) b a → ⊥) → First (setting_of f) q → VerdictLines f (pair_text q)

-- The text is this first line, and the right lines behind it.
pub record AllLines (f line text : List ℕ) : Type 0 where
  pub verdict : List ℕ
  pub right : VerdictLines f verdict
  pub is : text ≡ line ++ verdict

-- The report on an accepted file.
abbrev pub AcceptedReport : List ℕ → List ℕ → Type 0
AcceptedReport f text = AllLines f (coder_line (states_of f) (inputs_of f) (outputs_of f)) text

-- The whole text on a file: the number of its refusal, or the lines.
abbrev pub ReportPromise : List ℕ → List ℕ → Type 0
ReportPromise f text = upon (file_refusal f) (λ k. text ≡ refused_text k) (AcceptedReport f text)
