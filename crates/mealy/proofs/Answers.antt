-- The decoder's answer: there is at most one, and it is none exactly where no run gives the outputs.
use mathlib.Core.Path.{◌≡◌, refl, sym, ap, ◌∙◌}
use mathlib.Core.Logic.{◌↔◌}
use mathlib.Core.List.{List}
use Prim.Native.Nat.{ℕ, ◌<◌}
use native.Mathlib.Omega.{arith}
use lib.ListN.{length, get_or}
use Rattle.mealy.specs.Setting.{Setting}
use Rattle.mealy.specs.HowFar.{NoRun, HowFar}
use Rattle.mealy.specs.Answer.{Fits, Answer, letter, none, several, Alone, Two, Answers}
use Rattle.mealy.proofs.RunParts.{length_outs}
use Rattle.mealy.proofs.Possible.{far_unique, far_no_run}

module _ (S : Setting) (w : List ℕ) (b : ℕ) where
  pub no_fit↔no_run : b < length w → ((x : ℕ) → Fits S w b x → ⊥) ↔ NoRun S w
  no_fit↔no_run l = (
    (λ f r. f (get_or r.xs b 0) (record {
      s = r.s;
      xs = r.xs;
      start = r.start;
      letters = r.letters;
      outputs = r.outputs;
      inside = omega (arith, length_outs S.M r.s r.xs, ap length r.outputs);
      letter = refl;
    })),
    λ f x h. f (record { s = h.s; xs = h.xs; start = h.start; letters = h.letters; outputs = h.outputs }),
  )

  pub far_no_fit : (k : ℕ) → HowFar S w k → (x : ℕ) → Fits S w b x → ⊥
  far_no_fit k h x f = far_no_run h (record { s = f.s; xs = f.xs; start = f.start; letters = f.letters; outputs = f.outputs })

  -- where no run gives the outputs a right answer is none
  pub no_run_none : b < length w → NoRun S w → (v : Answer) → Answers S w b v → (k : ℕ) × (v ≡ none k)
  no_run_none l n (letter x) p = absurd ((no_fit↔no_run l).1 n x p.fits)
  no_run_none l n (none k) p = (k, refl)
  no_run_none l n several p = absurd ((no_fit↔no_run l).1 n p.x p.fits₁)

  alone_two : (x : ℕ) → Alone S w b x → Two S w b → ⊥
  alone_two x p q = q.differ (p.alone q.x q.fits₁ ∙ sym (p.alone q.y q.fits₂))

  pub answer_unique : (v v' : Answer) → Answers S w b v → Answers S w b v' → v ≡ v'
  answer_unique (letter x) (letter y) p q = ap letter (q.alone x p.fits)
  answer_unique (letter x) (none j) p q = absurd (far_no_fit j q x p.fits)
  answer_unique (letter x) several p q = absurd (alone_two x p q)
  answer_unique (none k) (letter y) p q = absurd (far_no_fit k p y q.fits)
  answer_unique (none k) (none j) p q = ap none (far_unique p q)
  answer_unique (none k) several p q = absurd (far_no_fit k p q.x q.fits₁)
  answer_unique several (letter y) p q = absurd (alone_two y q p)
  answer_unique several (none j) p q = absurd (far_no_fit j q p.x p.fits₁)
  answer_unique several several p q = refl
