-- Letters come back: with a window that works, the part of a run's outputs that lies in the window is decoded to the letter that
-- went in. It is said of what fits, so that no program that copies its input meets it.
use mathlib.Core.Path.{◌≡◌, refl, sym, ap, ◌∙◌}
use mathlib.Core.Logic.{◌≢◌}
use mathlib.Core.List.{List}
use Prim.Native.Nat.{ℕ, ◌+◌, ◌≤◌}
use native.Mathlib.Omega.{arith}
use native.Mathlib.Decide.{ℕ_discrete}
use lib.ListN.{length, get_or, take, drop, length-drop}
use lib.Seq.{length-take-le, get_or-take, get_or-drop}
use Rattle.mealy.specs.Machine.{outs, end, Letters}
use Rattle.mealy.specs.Setting.{Setting}
use Rattle.mealy.specs.Window.{Works}
use Rattle.mealy.specs.Answer.{letter, Answers}
use Rattle.mealy.proofs.RunParts.{length_outs, take_outs, drop_outs, letters_take, letters_drop}

-- one window, and each place of a string
module _ (S : Setting) (differ : (i j : ℕ) → i ≢ j → S.Conflict i j) (b a : ℕ) (works : Works S b a) where
  open S use {M, Start}

  pub comes_back : (s : ℕ) (xs : List ℕ) → Start s → Letters M.inputs xs → length xs ≡ b + 1 + a → Answers S (outs M s xs) b (letter (get_or xs b 0))
  comes_back s xs p l n = record {
    fits = record { s = s; xs = xs; start = p; letters = l; outputs = refl; inside = omega arith; letter = refl };
    alone = λ y f. elim (ℕ_discrete y (get_or xs b 0)) [
      | yes e ↦ e
      | no e ↦ absurd (works f.s s f.xs xs f.start p
          (record {
            letters₁ = f.letters;
            letters₂ = l;
            length₁ = sym (length_outs M f.s f.xs) ∙ ap length f.outputs ∙ length_outs M s xs ∙ n;
            length₂ = n;
            outputs = f.outputs;
          })
          (differ _ _ (λ z. e (sym f.letter ∙ z))))
    ];
  }

  -- where the run is in a start state after k letters: the part of the outputs that starts at place k has its present letter at place k + b
  pub comes_back_at :
      (s : ℕ) (xs : List ℕ) (k : ℕ) → Start (end M s (take k xs)) → Letters M.inputs xs → k + (b + 1 + a) ≤ length xs →
      Answers S (take (b + 1 + a) (drop k (outs M s xs))) b (letter (get_or xs (k + b) 0))
  comes_back_at s xs k p l n =
      let part = take (b + 1 + a) (drop k xs) in
      let long : length part ≡ b + 1 + a = length-take-le (b + 1 + a) (drop k xs) (simp length-drop (omega arith)) in
      let at : get_or part b 0 ≡ get_or xs (k + b) 0 = get_or-take (b + 1 + a) (drop k xs) b 0 (omega arith) ∙ get_or-drop k xs b 0 in
      rw (drop_outs M s k xs, take_outs M (end M s (take k xs)) (b + 1 + a) (drop k xs), ← at)
      (comes_back (end M s (take k xs)) part p (letters_take _ (b + 1 + a) (drop k xs) (letters_drop _ k xs l)) long)
