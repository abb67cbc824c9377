-- Windows, what fits and what some run gives, with no setting: runs from reachable states whose first p outputs are unseen.
use mathlib.Core.Path.{◌≡◌, refl, sym, ap, ◌∙◌}
use mathlib.Core.Logic.{◌↔◌}
use mathlib.Core.List.{List, ◌++◌}
use Prim.Native.Nat.{ℕ, ◌+◌}
use native.Mathlib.Omega.{arith}
use native.Mathlib.Decide.{ℕ_discrete}
use lib.ListN.{length, get_or, take, drop, length-append, length-drop}
use lib.Seq.{get_or-drop, take_at, drop_at}
use Rattle.mealy.specs.Machine.{Machine, outs, end, Letters}
use Rattle.mealy.specs.Reachable.{Reachable, StartAfter}
use Rattle.mealy.specs.Setting.{after_letters}
use Rattle.mealy.specs.Window.{Works, SameLetter}
use Rattle.mealy.specs.HowFar.{SomeRun, SomeRunAfter}
use Rattle.mealy.specs.Answer.{Fits, FitsAfter}
use Rattle.mealy.proofs.RunParts.{length_outs, drop_outs, letters_drop, equal_from}
use Rattle.mealy.proofs.ReachableStates.{letters_both}
use Rattle.mealy.proofs.StartStates.{start_take}

module _ (M : Machine) where
  -- A run from a start state, with the p letters ahead of it.
  record Ahead (p s : ℕ) (xs : List ℕ) : Type 0 where
    from : ℕ
    all : List ℕ
    reachable : Reachable M from
    letters : Letters M.inputs all
    count : length all ≡ p + length xs
    outputs : drop p (outs M from all) ≡ outs M s xs
    place : (b : ℕ) → get_or all (p + b) 0 ≡ get_or xs b 0

  ahead : (p s : ℕ) (xs : List ℕ) → StartAfter M p s → Letters M.inputs xs → Ahead p s xs
  ahead p s xs h l =
      let t = take_at h.xs xs p h.count in
      let d = drop_at h.xs xs p h.count in
      record {
        from = h.from;
        all = h.xs ++ xs;
        reachable = h.reachable;
        letters = letters_both M.inputs h.xs xs h.letters l;
        count = length-append h.xs xs ∙ omega (arith, h.count);
        outputs = drop_outs M h.from p (h.xs ++ xs) ∙ rw (t, d, h.ends) refl;
        place = λ b. sym (get_or-drop p (h.xs ++ xs) b 0) ∙ ap (λ z. get_or z b 0) d;
      }

  pub works↔same_letter : (p b a : ℕ) → Works (after_letters M p) b a ↔ SameLetter M p b a
  works↔same_letter p b a = (
    (λ f s t xs ys r r' l l' n n' e. elim (ℕ_discrete (get_or xs (p + b) 0) (get_or ys (p + b) 0)) [
      | yes z ↦ z
      | no z ↦
          absurd
          (f (end M s (take p xs)) (end M t (take p ys)) (drop p xs) (drop p ys)
          (start_take M p p s xs (omega arith) (omega arith) r l) (start_take M p p t ys (omega arith) (omega arith) r' l')
          (equal_from M p (b + 1 + a) s t xs ys l l' n n' e)
          (rw (get_or-drop p xs b 0, get_or-drop p ys b 0) z))
    ]),
    (λ f s t xs ys h g w c.
        let x = ahead p s xs h w.letters₁ in
        let y = ahead p t ys g w.letters₂ in
        c
        (sym (x.place b)
        ∙ f x.from y.from x.all y.all x.reachable y.reachable x.letters y.letters
        (x.count ∙ ap (λ z. p + z) w.length₁) (y.count ∙ ap (λ z. p + z) w.length₂) (x.outputs ∙ w.outputs ∙ sym y.outputs)
        ∙ y.place b)),
  )

  pub fits↔fits_after : (p : ℕ) (w : List ℕ) (b x : ℕ) → Fits (after_letters M p) w b x ↔ FitsAfter M p w b x
  fits↔fits_after p w b x = (
    (λ f.
        let z = ahead p f.s f.xs f.start f.letters in
        record {
          s = z.from;
          xs = z.all;
          reachable = z.reachable;
          letters = z.letters;
          outputs = z.outputs ∙ f.outputs;
          inside = omega (arith, z.count, f.inside);
          letter = z.place b ∙ f.letter;
        }),
    (λ f.
        record {
          s = end M f.s (take p f.xs);
          xs = drop p f.xs;
          start = start_take M p p f.s f.xs (omega arith) (omega (arith, f.inside)) f.reachable f.letters;
          letters = letters_drop M.inputs p f.xs f.letters;
          outputs = sym (drop_outs M f.s p f.xs) ∙ f.outputs;
          inside = omega (arith, length-drop p f.xs, f.inside);
          letter = get_or-drop p f.xs b 0 ∙ f.letter;
        }),
  )

  pub some_run↔after : (p : ℕ) (w : List ℕ) → SomeRun (after_letters M p) w ↔ SomeRunAfter M p w
  some_run↔after p w = (
    (λ r.
        let z = ahead p r.s r.xs r.start r.letters in
        record {
          s = z.from;
          xs = z.all;
          reachable = z.reachable;
          letters = z.letters;
          count = omega (arith, z.count, length_outs M r.s r.xs, ap length r.outputs);
          outputs = z.outputs ∙ r.outputs;
        }),
    (λ r.
        record {
          s = end M r.s (take p r.xs);
          xs = drop p r.xs;
          start = start_take M p p r.s r.xs (omega arith) (omega (arith, r.count)) r.reachable r.letters;
          letters = letters_drop M.inputs p r.xs r.letters;
          outputs = sym (drop_outs M r.s p r.xs) ∙ r.outputs;
        }),
  )
