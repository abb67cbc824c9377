-- Whole texts of the report, spelled out.
use mathlib.Core.Path.{◌≡◌, refl}
use mathlib.Core.List.{[], ◌∷◌, ◌++◌}
use Rattle.text.specs.Decimal.{digit_count_within, digit_count, decimal}
use Rattle.pair_text.specs.Lines.{spaced, pair_text}
use Rattle.pair_text.proofs.Examples.{pair_of_c}
use Rattle.report_text.specs.Report.{refused_text, coder_line, window_line}

-- "refused 4"
refused_4 : refused_text 4 ≡ 114 ∷ 101 ∷ 102 ∷ 117 ∷ 115 ∷ 101 ∷ 100 ∷ 32 ∷ 52 ∷ 10 ∷ []
unfolding decimal digit_count digit_count_within
refused_4 = refl

-- "coder 2 2 2" and "window 1 0", the two lines on coder A
lines_of_A :
    coder_line 2 2 2 ++ window_line 1 0
    ≡ 99 ∷ 111 ∷ 100 ∷ 101 ∷ 114 ∷ 32 ∷ 50 ∷ 32 ∷ 50 ∷ 32 ∷ 50 ∷ 10 ∷ 119 ∷ 105 ∷ 110 ∷ 100 ∷ 111 ∷ 119 ∷ 32 ∷ 49 ∷ 32 ∷ 48 ∷ 10 ∷ []
unfolding decimal digit_count digit_count_within
lines_of_A = refl

-- the four lines on coder C
lines_of_C :
    coder_line 1 2 1 ++ pair_text pair_of_c
    ≡ 99 ∷ 111 ∷ 100 ∷ 101 ∷ 114 ∷ 32 ∷ 49 ∷ 32 ∷ 50 ∷ 32 ∷ 49 ∷ 10 ∷ 110 ∷ 111 ∷ 32 ∷ 100 ∷ 101 ∷ 99 ∷ 111 ∷ 100 ∷ 101 ∷ 114 ∷ 10 ∷ 112 ∷ 97 ∷ 105 ∷ 114 ∷ 32 ∷ 48 ∷ 32 ∷ 48 ∷ 32 ∷ 49 ∷ 32 ∷ 48 ∷ 32 ∷ 48 ∷ 32 ∷ 49 ∷ 10 ∷ 108 ∷ 101 ∷ 116 ∷ 116 ∷ 101 ∷ 114 ∷ 115 ∷ 32 ∷ 48 ∷ 32 ∷ 48 ∷ 32 ∷ 48 ∷ 32 ∷ 49 ∷ 32 ∷ 48 ∷ 32 ∷ 48 ∷ 10 ∷ []
unfolding spaced decimal digit_count digit_count_within
lines_of_C = refl
