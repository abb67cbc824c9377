-- Settings that say the same agree on windows, looped pairs and answers.
use mathlib.Core.Path.{◌≡◌, refl, sym, ap, ap₂, ◌∙◌}
use mathlib.Core.List.{List, [], ◌∷◌}
use Prim.Native.Nat.{ℕ, zero, suc, ◌+◌, ◌≤◌, ◌<◌}
use native.Mathlib.Omega.{arith}
use lib.ListN.{take}
use Rattle.mealy.specs.Machine.{Machine, outs, end, Letters}
use Rattle.mealy.specs.Setting.{Setting, Closed, Same}
use Rattle.mealy.specs.Window.{EqualOutputs, Works}
use Rattle.mealy.specs.Order.{Relation, Least}
use Rattle.mealy.specs.HowFar.{SomeRun, HowFar}
use Rattle.mealy.specs.Answer.{Fits, Answer, letter, none, several, Answers}
use Rattle.mealy.specs.First.{First}
use Rattle.mealy.specs.LoopedPair.{LoopedPair, Run, first, second, letter_at, letters_from, mark, unlooped, letters, start_of, run_inputs, Valid}
use Rattle.mealy.proofs.Letters.{letter_at_lem}

-- the letters of a pair are input letters
pub pair_letter_below :
    (n : ℕ) (p : LoopedPair) (r : Run) (m place k at : ℕ) → Letters n (letters_from p r place m) → k < m → place + k ≡ at →
    letter_at p r at < n
pair_letter_below n p r zero place k at l h e = absurd (omega arith)
pair_letter_below n p r (suc m) place zero at l h e = let q : place ≡ at = omega arith in rw q at l.0
pair_letter_below n p r (suc m) place (suc k) at l h e = pair_letter_below n p r m (suc place) k at l.1 (omega arith) (omega arith)

-- the first m letters of a run are letters where more are
pub letters_fewer :
    (n : ℕ) (p : LoopedPair) (r : Run) (m k place : ℕ) → m ≤ k → Letters n (letters_from p r place k) → Letters n (letters_from p r place m)
letters_fewer n p r zero k place l h = tt
letters_fewer n p r (suc m) zero place l h = absurd (omega arith)
letters_fewer n p r (suc m) (suc k) place l h = (h.0, letters_fewer n p r m k (suc place) (omega arith) h.1)

-- ---- runs

module _ {S T : Setting} (e : Same S T) where
  pub letters_same : (xs : List ℕ) → Letters S.M.inputs xs → Letters T.M.inputs xs
  letters_same xs l = rw e.inputs at l

  pub outs_same : (s : ℕ) (xs : List ℕ) → S.Start s → Letters S.M.inputs xs → outs S.M s xs ≡ outs T.M s xs
  outs_same s [] p l = refl
  outs_same s (x ∷ xs) p l =
      ap₂ ◌∷◌ (e.out s x p l.0)
      (outs_same (S.M.next s x) xs (e.closed s x p l.0) l.1 ∙ ap (λ t. outs T.M t xs) (e.next s x p l.0))

  pub end_same : (s : ℕ) (xs : List ℕ) → S.Start s → Letters S.M.inputs xs → end S.M s xs ≡ end T.M s xs
  end_same s [] p l = refl
  end_same s (x ∷ xs) p l =
      end_same (S.M.next s x) xs (e.closed s x p l.0) l.1 ∙ ap (λ t. end T.M t xs) (e.next s x p l.0)

  equal_same :
      {n s t : ℕ} {xs ys : List ℕ} → S.Start s → S.Start t → EqualOutputs S.M n s t xs ys → EqualOutputs T.M n s t xs ys
  equal_same {n} {s} {t} {xs} {ys} p q w =
      record {
        letters₁ = letters_same xs w.letters₁;
        letters₂ = letters_same ys w.letters₂;
        length₁ = w.length₁;
        length₂ = w.length₂;
        outputs = sym (outs_same s xs p w.letters₁) ∙ w.outputs ∙ outs_same t ys q w.letters₂;
      }

  pub same_sym : Same T S
  same_sym =
      let next : (s i : ℕ) → T.Start s → i < T.M.inputs → T.M.next s i ≡ S.M.next s i =
      λ s i p l. sym (e.next s i (e.start' s p) (rw e.inputs l)) in
      record {
        closed = λ s i p l. rw (next s i p l) (e.start _ (e.closed s i (e.start' s p) (rw e.inputs l)));
        inputs = sym e.inputs;
        start = e.start';
        start' = e.start;
        next = next;
        out = λ s i p l. sym (e.out s i (e.start' s p) (rw e.inputs l));
        conflict = λ i j l m. e.conflict' i j (rw e.inputs l) (rw e.inputs m);
        conflict' = λ i j l m. e.conflict i j (rw e.inputs l) (rw e.inputs m);
      }

pub same_trans : {S T U : Setting} → Same S T → Same T U → Same S U
same_trans e d =
    record {
      closed = e.closed;
      inputs = e.inputs ∙ d.inputs;
      start = λ s p. d.start s (e.start s p);
      start' = λ s p. e.start' s (d.start' s p);
      next = λ s i p l. e.next s i p l ∙ d.next s i (e.start s p) (rw e.inputs at l);
      out = λ s i p l. e.out s i p l ∙ d.out s i (e.start s p) (rw e.inputs at l);
      conflict = λ i j l m c. d.conflict i j (rw e.inputs at l) (rw e.inputs at m) (e.conflict i j l m c);
      conflict' = λ i j l m c. e.conflict' i j l m (d.conflict' i j (rw e.inputs at l) (rw e.inputs at m) c);
    }

-- ---- windows, looped pairs, letters that fit

module _ {S T : Setting} (e : Same S T) where
  pub works_same : (b a : ℕ) → Works S b a → Works T b a
  works_same b a f s t xs ys p q w c =
      let back = equal_same (same_sym e) p q w in
      f s t xs ys (e.start' s p) (e.start' t q) back
      (e.conflict' _ _ (letter_at_lem S.M.inputs xs back.letters₁ b (omega (arith, back.length₁)))
      (letter_at_lem S.M.inputs ys back.letters₂ b (omega (arith, back.length₂))) c)

  pub valid_same : (p : LoopedPair) → Valid S p → Valid T p
  valid_same p v =
      let n = S.M.inputs in
      record {
        held = v.held;
        start = λ r. e.start _ (v.start r);
        below = λ r. letters_same e (run_inputs p r) (v.below r);
        back_letter = v.back_letter;
        forward_letter = v.forward_letter;
        outputs =
            sym (outs_same e p.s (run_inputs p first) (v.start first) (v.below first)) ∙ v.outputs ∙
            outs_same e p.t (run_inputs p second) (v.start second) (v.below second);
        conflict =
            e.conflict _ _ (pair_letter_below n p first (letters p) 0 (mark p) (mark p) (v.below first) (omega arith) (omega arith))
            (pair_letter_below n p second (letters p) 0 (mark p) (mark p) (v.below second) (omega arith) (omega arith)) v.conflict;
        back_closed = λ r. sym (part r p.back_loop (omega arith)) ∙ v.back_closed r;
        forward_closed = λ r. sym (part r (letters p) (omega arith)) ∙ v.forward_closed r ∙ part r (unlooped p) (omega arith);
      }
    where
      part :
          (r : Run) (m : ℕ) → m ≤ letters p →
          end S.M (start_of p r) (letters_from p r 0 m) ≡ end T.M (start_of p r) (letters_from p r 0 m)
      part r m l = end_same e (start_of p r) (letters_from p r 0 m) (v.start r) (letters_fewer S.M.inputs p r m (letters p) 0 l (v.below r))

  pub fits_same : (w : List ℕ) (b x : ℕ) → Fits S w b x → Fits T w b x
  fits_same w b x f =
      record {
        s = f.s;
        xs = f.xs;
        start = e.start _ f.start;
        letters = letters_same e f.xs f.letters;
        outputs = sym (outs_same e f.s f.xs f.start f.letters) ∙ f.outputs;
        inside = f.inside;
        letter = f.letter;
      }

  some_run_same : (w : List ℕ) → SomeRun S w → SomeRun T w
  some_run_same w r =
      record {
        s = r.s;
        xs = r.xs;
        start = e.start _ r.start;
        letters = letters_same e r.xs r.letters;
        outputs = sym (outs_same e r.s r.xs r.start r.letters) ∙ r.outputs;
      }

module _ {S T : Setting} (e : Same S T) where
  pub least_same : (R : Relation) (b a : ℕ) → Least R S b a → Least R T b a
  least_same R b a l =
      record {
        works = works_same e b a l.works;
        least = λ b' a' f. l.least b' a' (works_same (same_sym e) b' a' f);
      }

  pub first_same : (p : LoopedPair) → First S p → First T p
  first_same p f =
      record { valid = valid_same e p f.valid; first = λ q v. f.first q (valid_same (same_sym e) q v) }

  pub far_same : (w : List ℕ) (k : ℕ) → HowFar S w k → HowFar T w k
  far_same w k h =
      record {
        inside = h.inside;
        possible = some_run_same e (take k w) h.possible;
        no_further = λ r. h.no_further (some_run_same (same_sym e) (take (suc k) w) r);
      }

  pub answers_same : (w : List ℕ) (b : ℕ) (v : Answer) → Answers S w b v → Answers T w b v
  answers_same w b (letter x) h =
      record { fits = fits_same e w b x h.fits; alone = λ y f. h.alone y (fits_same (same_sym e) w b y f) }
  answers_same w b (none k) h = far_same w k h
  answers_same w b several h =
      record {
        x = h.x;
        y = h.y;
        fits₁ = fits_same e w b h.x h.fits₁;
        fits₂ = fits_same e w b h.y h.fits₂;
        differ = h.differ;
      }

-- ---- one machine, its start states said in two ways

-- the machine M with the start states A and the conflicts C
abbrev pub starting : Machine → (ℕ → ℕ → Type 0) → (ℕ → Type 0) → Setting
starting M C A = record { M = M; Start = A; Conflict = C }

pub same_starts :
    (M : Machine) (C : ℕ → ℕ → Type 0) {A B : ℕ → Type 0} → Closed (starting M C A) → ((s : ℕ) → A s → B s) → ((s : ℕ) → B s → A s) →
    Same (starting M C A) (starting M C B)
same_starts M C closed to from =
    record {
      closed = closed;
      inputs = refl;
      start = to;
      start' = from;
      next = λ s i r l. refl;
      out = λ s i r l. refl;
      conflict = λ i j l m d. d;
      conflict' = λ i j l m d. d;
    }
