-- Kinds come back: with a window that tells the kind always and the letter in the kinds of C, the part of a run's outputs that
-- lies in the window yields the kind of the letter that went in, and the letter where its kind is in C.
use mathlib.Core.Path.{◌≡◌, refl, sym, ap, ◌∙◌}
use mathlib.Core.Logic.{inl, inr}
use mathlib.Core.List.{List}
use Prim.Native.Nat.{ℕ, ◌+◌, ◌≤◌}
use native.Mathlib.Omega.{arith}
use native.Mathlib.Decide.{ℕ_discrete}
use lib.ListN.{length, get_or, take, drop, length-drop}
use lib.Seq.{length-take-le, get_or-take, get_or-drop}
use Rattle.mealy.specs.Machine.{outs, end, Letters}
use Rattle.mealy.specs.Setting.{Setting, Closed}
use Rattle.mealy.specs.Window.{Works}
use Rattle.mealy.specs.Answer.{Fits}
use Rattle.mealy.proofs.RunParts.{length_outs, take_outs, drop_outs, letters_take, letters_drop, end_start}
use Rattle.kinds.specs.Kinds.{tell_carried}
use Rattle.kinds.specs.KindsAnswer.{KindsAnswer, letter, kind_only, several, none, KindsAnswers, Yields}

-- what the letters that fit say of the letter x that went in
pub record Told (S : Setting) (kind : ℕ → ℕ) (C : ℕ → Type 0) (w : List ℕ) (b x : ℕ) : Type 0 where
  pub fits : Fits S w b x
  pub same_kind : (y : ℕ) → Fits S w b y → kind y ≡ kind x
  pub same_letter : C (kind x) → (y : ℕ) → Fits S w b y → y ≡ x

module _ (S : Setting) (kind : ℕ → ℕ) (C : ℕ → Type 0) (w : List ℕ) (b x : ℕ) (h : Told S kind C w b x) where
  pub told_yields : (v : KindsAnswer) → KindsAnswers S kind w b v → Yields kind C x v
  told_yields (letter y) p = sym (p.alone x h.fits)
  told_yields (kind_only κ) p = (
    sym (p.shared x h.fits),
    λ c. p.two.differ (h.same_letter c _ p.two.fits₁ ∙ sym (h.same_letter c _ p.two.fits₂)),
  )
  told_yields none p = p x h.fits
  told_yields several p = p.differ (h.same_kind _ p.fits₁ ∙ sym (h.same_kind _ p.fits₂))

module _ (S : Setting) (kind : ℕ → ℕ) (C : ℕ → Type 0) (b a : ℕ) (works : Works (tell_carried S kind C) b a) where
  open S use {M, Start}

  told :
      (s : ℕ) (xs : List ℕ) → Start s → Letters M.inputs xs → length xs ≡ b + 1 + a →
      Told S kind C (outs M s xs) b (get_or xs b 0)
  told s xs p l n = record {
    fits = record { s = s; xs = xs; start = p; letters = l; outputs = refl; inside = omega arith; letter = refl };
    same_kind = λ y f. elim (ℕ_discrete (kind y) (kind x)) [ yes e ↦ e | no e ↦ absurd (clash y f (inl e)) ];
    same_letter = λ c y f. elim (ℕ_discrete y x) [
      | yes e ↦ e
      | no e ↦ elim (ℕ_discrete (kind y) (kind x)) [
        | yes g ↦ absurd (clash y f (inr (g, rw g c, e)))
        | no g ↦ absurd (clash y f (inl g))
      ]
    ];
  }
    where
      x : ℕ
      x = get_or xs b 0

      clash : (y : ℕ) → Fits S (outs M s xs) b y → (tell_carried S kind C).Conflict y (get_or xs b 0) → ⊥
      clash y f c = works f.s s f.xs xs f.start p
          (record {
            letters₁ = f.letters;
            letters₂ = l;
            length₁ = sym (length_outs M f.s f.xs) ∙ ap length f.outputs ∙ length_outs M s xs ∙ n;
            length₂ = n;
            outputs = f.outputs;
          })
          (rw f.letter c)

  -- the part that starts at place k of the outputs has its present letter at place k + b
  module _ (closed : Closed S) (s : ℕ) (xs : List ℕ) (k : ℕ) (start : Start s) (letters : Letters M.inputs xs)
      (full : k + (b + 1 + a) ≤ length xs) where
    told_at : Told S kind C (take (b + 1 + a) (drop k (outs M s xs))) b (get_or xs (k + b) 0)
    told_at =
        let part = take (b + 1 + a) (drop k xs) in
        let long : length part ≡ b + 1 + a = length-take-le (b + 1 + a) (drop k xs) (simp length-drop (omega arith)) in
        let at : get_or part b 0 ≡ get_or xs (k + b) 0 = get_or-take (b + 1 + a) (drop k xs) b 0 (omega arith) ∙ get_or-drop k xs b 0 in
        let from = end_start S closed s (take k xs) start (letters_take _ k xs letters) in
        let low = letters_take _ (b + 1 + a) (drop k xs) (letters_drop _ k xs letters) in
        rw (drop_outs M s k xs, take_outs M (end M s (take k xs)) (b + 1 + a) (drop k xs), ← at)
        (told (end M s (take k xs)) part from low long)

    -- whatever is answered there yields the kind, and the letter where its kind is in C
    pub kinds_come_back :
        (v : KindsAnswer) → KindsAnswers S kind (take (b + 1 + a) (drop k (outs M s xs))) b v → Yields kind C (get_or xs (k + b) 0) v
    kinds_come_back = told_yields S kind C _ b _ told_at
