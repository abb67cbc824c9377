-- A valid looped pair, part by part: the back loop; the lead-in, the differing letter and the lead-out; the forward loop.
use mathlib.Core.Path.{◌≡◌, refl, sym, ap, ◌∙◌, subst₂}
use mathlib.Core.Logic.{◌↔◌}
use mathlib.Core.List.{◌∷◌, ◌++◌}
use Prim.Native.Nat.{ℕ, zero, suc, ◌+◌, ◌*◌, ◌≤◌}
use native.Mathlib.Omega.{arith}
use lib.ListN.{length}
use Rattle.mealy.specs.Machine.{Machine, end, Letters}
use Rattle.mealy.specs.Setting.{Setting}
use Rattle.mealy.specs.LoopedPair.{LoopedPair, Run, first, second, letter_at, letters_from, mark, unlooped, letters, run_inputs, start_of, Valid}
use Rattle.mealy.specs.Walk.{Walk, Part, Parts}
use Rattle.mealy.proofs.Walks.{walk_append, walk_cut}

-- ---- letters

pub letters_append :
    (p : LoopedPair) (r : Run) (m n k place after : ℕ) → m + n ≡ k → place + m ≡ after →
    letters_from p r place k ≡ letters_from p r place m ++ letters_from p r after n
letters_append p r zero n k place after e f =
    let g : k ≡ n = omega arith in
    let h : place ≡ after = omega arith in
    rw (g, h)
letters_append p r (suc m) n zero place after e f = absurd (omega arith)
letters_append p r (suc m) n (suc k) place after e f =
    ap (λ l. letter_at p r place ∷ l) (letters_append p r m n k (suc place) after (omega arith) (omega arith))

pub length_letters : (p : LoopedPair) (r : Run) (n place : ℕ) → length (letters_from p r place n) ≡ n
length_letters p r zero place = refl
length_letters p r (suc n) place = ap suc (length_letters p r n (suc place))

-- ---- parts

-- m letters, and then n: k letters in all
module _ {M : Machine} (p : LoopedPair) (m n k place after : ℕ) (e : m + n ≡ k) (f : place + m ≡ after) where
  pub part_append : {s t u v x y : ℕ} → Part M p place m s t u v → Part M p after n u v x y → Part M p place k s t x y
  part_append {s} {t} {x = x} {y = y} a b =
      subst₂ (λ xs ys. Walk M s t xs ys x y) (sym (letters_append p first m n k place after e f))
      (sym (letters_append p second m n k place after e f)) (walk_append _ _ a b)

  pub part_cut :
      {s t x y : ℕ} → Part M p place k s t x y →
      let u = end M s (letters_from p first place m) in
      let v = end M t (letters_from p second place m) in
      Part M p place m s t u v × Part M p after n u v x y
  part_cut {s} {t} {x} {y} w =
      let c =
      walk_cut (letters_from p first place m) (letters_from p second place m)
      (length_letters p first m place ∙ sym (length_letters p second m place))
      (subst₂ (λ xs ys. Walk M s t xs ys x y) (letters_append p first m n k place after e f)
      (letters_append p second m n k place after e f) w) in
      (c.before, c.after)

-- ---- valid, part by part

pub record ValidParts (S : Setting) (p : LoopedPair) : Type 0 where
  pub held : 2 * letters p ≤ length p.bytes
  pub start : (r : Run) → S.Start (start_of p r)
  pub conflict : S.Conflict (letter_at p first (mark p)) (letter_at p second (mark p))
  pub parts : Parts S.M p

module _ (S : Setting) (p : LoopedPair) where
  open S use {M}

  abbrev between_letters : ℕ
  between_letters = p.lead_in + 1 + p.lead_out

  pub valid→parts : Valid S p → ValidParts S p
  valid→parts v =
      let whole : Part M p 0 (letters p) p.s p.t (end M p.s (run_inputs p first)) (end M p.t (run_inputs p second)) =
      record {
        equal = record {
          letters₁ = v.below first;
          letters₂ = v.below second;
          length₁ = refl;
          length₂ = length_letters p second (letters p) 0 ∙ sym (length_letters p first (letters p) 0);
          outputs = v.outputs;
        };
        end₁ = refl;
        end₂ = refl;
      } in
      let c = part_cut p (unlooped p) p.forward_loop (letters p) 0 (unlooped p) refl (omega arith) whole in
      let d = part_cut p p.back_loop between_letters (unlooped p) 0 p.back_loop (omega arith) (omega arith) c.0 in
      record {
        held = v.held;
        start = v.start;
        conflict = v.conflict;
        parts = record {
          u = end M p.s (letters_from p first 0 (unlooped p));
          v = end M p.t (letters_from p second 0 (unlooped p));
          back = record { letter = v.back_letter; walk = rw (v.back_closed first, v.back_closed second) at d.0 };
          between = rw (v.back_closed first, v.back_closed second) at d.1;
          forward = record { letter = v.forward_letter; walk = rw (v.forward_closed first, v.forward_closed second) at c.1 };
        };
      }

  pub parts→valid : ValidParts S p → Valid S p
  parts→valid h =
      let a = h.parts in
      let before =
      part_append p p.back_loop between_letters (unlooped p) 0 p.back_loop (omega arith) (omega arith) a.back.walk a.between in
      let whole = part_append p (unlooped p) p.forward_loop (letters p) 0 (unlooped p) refl (omega arith) before a.forward.walk in
      record {
        held = h.held;
        start = h.start;
        below = λ r. elim r as (λ k. Letters M.inputs (run_inputs p k)) [ first ↦ whole.equal.letters₁ | second ↦ whole.equal.letters₂ ];
        back_letter = a.back.letter;
        forward_letter = a.forward.letter;
        outputs = whole.equal.outputs;
        conflict = h.conflict;
        back_closed = λ r. elim r as (λ k. end M (start_of p k) (letters_from p k 0 p.back_loop) ≡ start_of p k) [ first ↦ a.back.walk.end₁ | second ↦ a.back.walk.end₂ ];
        forward_closed = λ r. elim r as (λ k. end M (start_of p k) (run_inputs p k) ≡ end M (start_of p k) (letters_from p k 0 (unlooped p))) [ first ↦ whole.end₁ ∙ sym before.end₁ | second ↦ whole.end₂ ∙ sym before.end₂ ];
      }

  pub valid↔parts : Valid S p ↔ ValidParts S p
  valid↔parts = (valid→parts, parts→valid)
