-- The three lines, spelled out: on coder C, and on a pair whose numbers and letters are distinct, so that their order shows.
use mathlib.Core.Path.{◌≡◌, refl}
use mathlib.Core.List.{[], ◌∷◌}
use Rattle.mealy.specs.LoopedPair.{LoopedPair}
use Rattle.text.specs.Decimal.{digit_count_within, digit_count, decimal}
use Rattle.pair_text.specs.Lines.{spaced, pair_text}

-- The first looped pair of coder C, with two bytes past its letters.
abbrev pub pair_of_c : LoopedPair
pair_of_c =
    record {
      s = 0;
      t = 0;
      back_loop = 1;
      lead_in = 0;
      lead_out = 0;
      forward_loop = 1;
      bytes = 0 ∷ 0 ∷ 0 ∷ 1 ∷ 0 ∷ 0 ∷ 9 ∷ 9 ∷ [];
    }

-- "no decoder", "pair 0 0 1 0 0 1", "letters 0 0 0 1 0 0"
lines_of_C :
    pair_text pair_of_c
    ≡ 110 ∷ 111 ∷ 32 ∷ 100 ∷ 101 ∷ 99 ∷ 111 ∷ 100 ∷ 101 ∷ 114 ∷ 10
    ∷ 112 ∷ 97 ∷ 105 ∷ 114 ∷ 32 ∷ 48 ∷ 32 ∷ 48 ∷ 32 ∷ 49 ∷ 32 ∷ 48 ∷ 32 ∷ 48 ∷ 32 ∷ 49 ∷ 10
    ∷ 108 ∷ 101 ∷ 116 ∷ 116 ∷ 101 ∷ 114 ∷ 115 ∷ 32 ∷ 48 ∷ 32 ∷ 48 ∷ 32 ∷ 48 ∷ 32 ∷ 49 ∷ 32 ∷ 48 ∷ 32 ∷ 48 ∷ 10 ∷ []
unfolding spaced decimal digit_count digit_count_within
lines_of_C = refl

-- A pair whose six numbers are distinct, and so the bytes of its letters, with two bytes past them.
abbrev pub distinct_pair : LoopedPair
distinct_pair =
    record {
      s = 12;
      t = 5;
      back_loop = 2;
      lead_in = 3;
      lead_out = 0;
      forward_loop = 1;
      bytes = 7 ∷ 0 ∷ 15 ∷ 3 ∷ 9 ∷ 14 ∷ 1 ∷ 11 ∷ 4 ∷ 13 ∷ 2 ∷ 8 ∷ 10 ∷ 6 ∷ 5 ∷ 12 ∷ [];
    }

-- "no decoder", "pair 12 5 2 3 0 1", "letters 7 0 15 3 9 14 1 11 4 13 2 8 10 6"
lines_of_distinct :
    pair_text distinct_pair
    ≡ 110 ∷ 111 ∷ 32 ∷ 100 ∷ 101 ∷ 99 ∷ 111 ∷ 100 ∷ 101 ∷ 114 ∷ 10
    ∷ 112 ∷ 97 ∷ 105 ∷ 114 ∷ 32 ∷ 49 ∷ 50 ∷ 32 ∷ 53 ∷ 32 ∷ 50 ∷ 32 ∷ 51 ∷ 32 ∷ 48 ∷ 32 ∷ 49 ∷ 10
    ∷ 108 ∷ 101 ∷ 116 ∷ 116 ∷ 101 ∷ 114 ∷ 115
    ∷ 32 ∷ 55 ∷ 32 ∷ 48 ∷ 32 ∷ 49 ∷ 53 ∷ 32 ∷ 51 ∷ 32 ∷ 57 ∷ 32 ∷ 49 ∷ 52
    ∷ 32 ∷ 49 ∷ 32 ∷ 49 ∷ 49 ∷ 32 ∷ 52 ∷ 32 ∷ 49 ∷ 51 ∷ 32 ∷ 50 ∷ 32 ∷ 56 ∷ 32 ∷ 49 ∷ 48 ∷ 32 ∷ 54 ∷ 10 ∷ []
unfolding spaced decimal digit_count digit_count_within
lines_of_distinct = refl
