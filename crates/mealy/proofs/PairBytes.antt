-- The bytes of a looped pair: whether it is valid, or first, hangs on those of its letters alone, and they are input letters.
use mathlib.Core.Path.{◌≡◌, refl, sym, ap, ap₂, ◌∙◌}
use mathlib.Core.List.{List, ◌∷◌}
use Prim.Native.Nat.{ℕ, zero, suc, ◌+◌, ◌*◌, ◌≤◌, ◌<◌}
use native.Mathlib.Omega.{arith}
use lib.ListN.{length, get_or, take}
use lib.Seq.{get_or-take, length-take-le}
use Rattle.mealy.specs.Machine.{Letters}
use Rattle.mealy.specs.Setting.{Setting}
use Rattle.mealy.specs.LoopedPair.{LoopedPair, Run, first, second, offset, letter_at, letters_from, mark, unlooped, letters, run_inputs, start_of, Valid}
use Rattle.mealy.specs.First.{First}
use Rattle.mealy.proofs.Letters.{letters_by_two}
use Rattle.mealy.proofs.SameSettings.{pair_letter_below}

-- the pair with other bytes
abbrev pub with_bytes : LoopedPair → List ℕ → LoopedPair
with_bytes p bytes =
    record {
      s = p.s;
      t = p.t;
      back_loop = p.back_loop;
      lead_in = p.lead_in;
      lead_out = p.lead_out;
      forward_loop = p.forward_loop;
      bytes = bytes;
    }

offset_low : (r : Run) → offset r ≤ 1
offset_low first = omega arith
offset_low second = omega arith

module _ (p : LoopedPair) (bytes : List ℕ) (same : (k : ℕ) → k < 2 * letters p → get_or bytes k 0 ≡ get_or p.bytes k 0) where
  abbrev q : LoopedPair
  q = with_bytes p bytes

  start_same : (r : Run) → start_of q r ≡ start_of p r
  start_same first = refl
  start_same second = refl

  letter_same : (r : Run) (place : ℕ) → place < letters p → letter_at q r place ≡ letter_at p r place
  letter_same r place l = same (2 * place + offset r) (omega (arith, offset_low r))

  letters_same : (r : Run) (place n : ℕ) → place + n ≤ letters p → letters_from q r place n ≡ letters_from p r place n
  letters_same r place zero l = refl
  letters_same r place (suc n) l = ap₂ ◌∷◌ (letter_same r place (omega arith)) (letters_same r (suc place) n (omega arith))

  pub valid_bytes : (S : Setting) → 2 * letters p ≤ length bytes → Valid S p → Valid S q
  valid_bytes S held v =
      let all : (r : Run) → run_inputs q r ≡ run_inputs p r = λ r. letters_same r 0 (letters p) (omega arith) in
      record {
        held = held;
        start = λ r. rw (start_same r) (v.start r);
        below = λ r. rw (all r) (v.below r);
        back_letter = v.back_letter;
        forward_letter = v.forward_letter;
        outputs = rw (all first, all second) v.outputs;
        conflict = rw (letter_same first (mark p) (omega arith), letter_same second (mark p) (omega arith)) v.conflict;
        back_closed = λ r. rw (start_same r, letters_same r 0 p.back_loop (omega arith)) (v.back_closed r);
        forward_closed = λ r. rw (start_same r, all r, letters_same r 0 (unlooped p) (omega arith)) (v.forward_closed r);
      }

-- with other bytes past those of its letters a first pair is still first
pub first_bytes :
    (S : Setting) (p : LoopedPair) (bytes : List ℕ) → 2 * letters p ≤ length bytes →
    take (2 * letters p) bytes ≡ take (2 * letters p) p.bytes → First S p → First S (with_bytes p bytes)
first_bytes S p bytes held e f =
    let n = 2 * letters p in
    record {
      valid =
          valid_bytes p bytes
          (λ k l. sym (get_or-take n bytes k 0 l) ∙ ap (λ xs. get_or xs k 0) e ∙ get_or-take n p.bytes k 0 l) S held f.valid;
      first = λ q v. rw e (f.first q v);
    }

-- the bytes of a valid pair's letters
module _ (S : Setting) (p : LoopedPair) (v : Valid S p) where
  letter_low : (r : Run) (j : ℕ) → j < letters p → letter_at p r j < S.M.inputs
  letter_low r j l = pair_letter_below S.M.inputs p r (letters p) 0 j j (v.below r) l (omega arith)

  pub valid_letters : Letters S.M.inputs (take (2 * letters p) p.bytes)
  valid_letters =
      letters_by_two S.M.inputs (letters p) p.bytes v.held
      (λ j l. let z : 2 * j + 0 ≡ 2 * j = omega arith in rw z at (letter_low first j l)) (letter_low second)

  -- with those bytes alone it is as valid
  pub valid_cut : Valid S (with_bytes p (take (2 * letters p) p.bytes))
  valid_cut =
      let n = 2 * letters p in
      valid_bytes p (take n p.bytes) (λ k l. get_or-take n p.bytes k 0 l) S
      (omega (arith, length-take-le n p.bytes v.held)) v
