-- Parts of strings, and the letter that a working window reads in a part of a run's outputs.
use mathlib.Core.Path.{◌≡◌, sym, ◌∙◌}
use mathlib.Core.Logic.{◌≢◌}
use mathlib.Core.List.{List}
use Prim.Native.Nat.{ℕ, ◌+◌, ◌≤◌, ◌<◌}
use native.Mathlib.Omega.{arith}
use lib.ListN.{length, get_or, take, drop, length-drop}
use lib.Seq.{length-take-le, get_or-take, get_or-drop, ext_get_or}
use Rattle.mealy.specs.Machine.{outs, Letters}
use Rattle.mealy.specs.Setting.{Setting, Closed}
use Rattle.mealy.specs.Window.{Works}
use Rattle.mealy.specs.Answer.{letter, Answers}
use Rattle.mealy.proofs.Answers.{answer_unique}
use Rattle.mealy.proofs.RunParts.{letters_take, end_start}
use Rattle.mealy.proofs.ComesBack.{comes_back_at}

-- two strings that are equal at n places from place k on have the same n letters there
pub equal_parts :
    (n : ℕ) (w w' : List ℕ) (k : ℕ) → k + n ≤ length w → k + n ≤ length w' →
    ((i : ℕ) → i < n → get_or w (k + i) 0 ≡ get_or w' (k + i) 0) → take n (drop k w) ≡ take n (drop k w')
equal_parts n w w' k l l' same =
    ext_get_or 0 _ _ (long w l ∙ sym (long w' l'))
    (λ i m.
    let below : i < n = omega (arith, long w l) in
    at w i below ∙ same i below ∙ sym (at w' i below))
  where
    long : (w : List ℕ) → k + n ≤ length w → length (take n (drop k w)) ≡ n
    long w l = length-take-le n (drop k w) (simp length-drop (omega arith))

    at : (w : List ℕ) (i : ℕ) → i < n → get_or (take n (drop k w)) i 0 ≡ get_or w (k + i) 0
    at w i m = get_or-take n (drop k w) i 0 m ∙ get_or-drop k w i 0

letter_injective : (x y : ℕ) → letter x ≡ letter y → x ≡ y
letter_injective x y e = cc

module _ (S : Setting) (closed : Closed S) (differ : (i j : ℕ) → i ≢ j → S.Conflict i j) (b a : ℕ) (works : Works S b a) where
  open S use {M, Start}

  -- where two runs put out the same letters over a window that works, its present letter is the same
  pub same_present :
      (s t : ℕ) (xs ys : List ℕ) (k : ℕ) → Start s → Start t → Letters M.inputs xs → Letters M.inputs ys →
      k + (b + 1 + a) ≤ length xs → k + (b + 1 + a) ≤ length ys →
      take (b + 1 + a) (drop k (outs M s xs)) ≡ take (b + 1 + a) (drop k (outs M t ys)) → get_or xs (k + b) 0 ≡ get_or ys (k + b) 0
  same_present s t xs ys k p q l m f g e =
      letter_injective _ _
      (answer_unique S (take (b + 1 + a) (drop k (outs M s xs))) b _ _ (back s xs p l f) (rw e (back t ys q m g)))
    where
      back :
          (s : ℕ) (xs : List ℕ) → Start s → Letters M.inputs xs → k + (b + 1 + a) ≤ length xs →
          Answers S (take (b + 1 + a) (drop k (outs M s xs))) b (letter (get_or xs (k + b) 0))
      back s xs p l f =
          comes_back_at S differ b a works s xs k (end_start S closed s (take k xs) p (letters_take M.inputs k xs l)) l f
