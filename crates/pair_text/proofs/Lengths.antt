-- How long the lines on a coder without a decoder are.
use mathlib.Core.Path.{◌≡◌}
use mathlib.Core.List.{List, [], ◌∷◌, ◌++◌}
use Prim.Native.Nat.{ℕ, ◌+◌, ◌*◌, ◌≤◌}
use native.Mathlib.Nat.{mul-le-mul}
use native.Mathlib.Omega.{arith}
use lib.ListN.{length, take, length-append}
use lib.Seq.{length-take-le}
use Rattle.mealy.specs.Machine.{Letters}
use Rattle.mealy.specs.Setting.{Setting, Bounded}
use Rattle.mealy.specs.LoopedPair.{LoopedPair, first, second, letters, Valid, Short}
use Rattle.mealy.proofs.Letters.{letter_at_lem}
use Rattle.mealy.proofs.PairBytes.{valid_letters}
use Rattle.text.specs.Ascii.{line_feed}
use Rattle.text.specs.Decimal.{decimal}
use Rattle.pair_text.specs.Lines.{pair_word, letters_word, spaced, no_decoder_line, numbers_of, pair_line, letters_line, pair_text, pair_bytes}
use Rattle.pair_text.proofs.Spaced.{spaced_length, two_length, spaced_short}

line_length : (word xs : List ℕ) → length (word ++ spaced xs ++ line_feed) ≡ length word + length (spaced xs) + 1
line_length word xs = omega (arith, length-append (word ++ spaced xs) line_feed, length-append word (spaced xs))

pub letters_length : (xs : List ℕ) → length (letters_line xs) ≡ 8 + length (spaced xs)
letters_length xs = omega (arith, line_length letters_word xs)

six_length :
    (a b c d e f : ℕ) →
    length (spaced (a ∷ b ∷ c ∷ d ∷ e ∷ f ∷ [])) ≡
    6 + length (decimal a) + length (decimal b) + length (decimal c) + length (decimal d) + length (decimal e) + length (decimal f)
six_length a b c d e f =
    omega (
      arith,
      spaced_length (a ∷ b ∷ []) (c ∷ d ∷ e ∷ f ∷ []),
      spaced_length (c ∷ d ∷ []) (e ∷ f ∷ []),
      two_length a b,
      two_length c d,
      two_length e f,
    )

pub pair_length :
    (p : LoopedPair) →
    length (pair_line p) ≡
    11 + length (decimal p.s) + length (decimal p.t) + length (decimal p.back_loop) + length (decimal p.lead_in) +
    length (decimal p.lead_out) + length (decimal p.forward_loop)
pair_length p = omega (arith, simp six_length at (line_length pair_word (numbers_of p)))

pub text_length :
    (p : LoopedPair) → length (pair_text p) ≡ 11 + length (pair_line p) + length (letters_line (take (2 * letters p) p.bytes))
text_length p = omega (arith, length-append (no_decoder_line ++ pair_line p) (letters_line (take (2 * letters p) p.bytes)))

-- of a valid pair within both bounds
pub text_short :
    (S : Setting) (p : LoopedPair) → Bounded S → S.M.states ≤ 16 → S.M.inputs ≤ 16 → Valid S p → Short S.M.states p →
    length (pair_text p) ≤ pair_bytes
text_short S p bounded n i v h =
    let xs = take (2 * letters p) p.bytes in
    let e : length xs ≡ 2 * letters p = length-take-le (2 * letters p) p.bytes v.held in
    let square : S.M.states * S.M.states ≤ 16 * 16 = mul-le-mul n n in
    let s = bounded p.s (v.start first) in
    let t = bounded p.t (v.start second) in
    let small : Letters 1000 (numbers_of p) =
    (omega arith, (omega arith, (omega (arith, h.before), (omega (arith, h.before), (omega (arith, h.after), (omega (arith, h.after), tt)))))) in
    omega (
      arith,
      text_length p,
      line_length pair_word (numbers_of p),
      spaced_short 2 (numbers_of p) (letter_at_lem 1000 (numbers_of p) small),
      letters_length xs,
      spaced_short 1 xs (λ k l. let b = letter_at_lem S.M.inputs xs (valid_letters S p v) k l in omega arith),
      h.before,
      h.after,
    )
