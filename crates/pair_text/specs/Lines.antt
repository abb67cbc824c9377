-- The lines on a coder without a decoder: every byte of them (document 01, "The report program"; document 02, 2/13).
use Rattle.std.specs.Prelude.{ℕ, ◌+◌, ◌*◌, ◌≤◌, List, [], ◌∷◌, ◌++◌, length, take}
use Rattle.mealy.specs.LoopedPair.{LoopedPair, letters}
use Rattle.text.specs.Ascii.{space, line_feed}
use Rattle.text.specs.Decimal.{decimal}

-- "pair" and "letters", in ASCII
abbrev pub pair_word : List ℕ
pair_word = 112 ∷ 97 ∷ 105 ∷ 114 ∷ []

abbrev pub letters_word : List ℕ
letters_word = 108 ∷ 101 ∷ 116 ∷ 116 ∷ 101 ∷ 114 ∷ 115 ∷ []

-- Numbers in decimal, with one space in front of each.
unfoldable pub spaced : List ℕ → List ℕ
spaced [] = []
spaced (n ∷ ns) = space ++ decimal n ++ spaced ns

-- "no decoder"
abbrev pub no_decoder_line : List ℕ
no_decoder_line = 110 ∷ 111 ∷ 32 ∷ 100 ∷ 101 ∷ 99 ∷ 111 ∷ 100 ∷ 101 ∷ 114 ∷ line_feed

-- The start states, and the lengths of back loop, lead-in, lead-out and forward loop; and the line of them.
abbrev pub numbers_of : LoopedPair → List ℕ
numbers_of p = p.s ∷ p.t ∷ p.back_loop ∷ p.lead_in ∷ p.lead_out ∷ p.forward_loop ∷ []

abbrev pub pair_line : LoopedPair → List ℕ
pair_line p = pair_word ++ spaced (numbers_of p) ++ line_feed

-- The bytes of letters.
abbrev pub letters_line : List ℕ → List ℕ
letters_line bytes = letters_word ++ spaced bytes ++ line_feed

-- The three lines on a pair, with the bytes of all its letters.
abbrev pub pair_text : LoopedPair → List ℕ
pair_text p = no_decoder_line ++ pair_line p ++ letters_line (take (2 * letters p) p.bytes)

-- The most bytes that they take: 11; 4, 6 × 4 and 1; 7, 1,026 × 3 and 1.
abbrev pub pair_bytes : ℕ
pair_bytes = 3126

-- What is asked where they are written: the bytes hold all letters, and there is room from the place `at` on.
pub record PairAsked (p : LoopedPair) (at : ℕ) (out : List ℕ) : Type 0 where
  pub held : 2 * letters p ≤ length p.bytes
  pub room : at + length (pair_text p) ≤ length out
