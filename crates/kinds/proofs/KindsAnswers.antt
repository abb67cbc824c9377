-- The decoder's answer for kinds: there is one at most, and without the kinds, and as a byte, it is the decoder's answer for letters.
use mathlib.Core.Path.{◌≡◌, refl, sym, ap, ◌∙◌}
use mathlib.Core.List.{List}
use Prim.Native.Nat.{ℕ}
use Rattle.mealy.specs.Setting.{Setting}
use Rattle.mealy.specs.Answer.{Answer, byte_of, Alone, Two, Answers}
use Rattle.mealy.proofs.Answers.{answer_unique}
use Rattle.kinds.specs.KindsAnswer.{KindsAnswer, letter, kind_only, several, none, OneKind, TwoKinds, KindsAnswers}

-- the byte that the decoder of letters has for the window
abbrev pub letter_byte : KindsAnswer → ℕ
letter_byte (letter x) = x
letter_byte (kind_only κ) = 255
letter_byte several = 255
letter_byte none = 254

module _ (S : Setting) (kind : ℕ → ℕ) (w : List ℕ) (b : ℕ) where
  -- ---- at most one

  alone_two : (x : ℕ) → Alone S w b x → Two S w b → ⊥
  alone_two x p q = q.differ (p.alone q.x q.fits₁ ∙ sym (p.alone q.y q.fits₂))

  alone_kinds : (x : ℕ) → Alone S w b x → TwoKinds S kind w b → ⊥
  alone_kinds x p q = q.differ (ap kind (p.alone q.x q.fits₁ ∙ sym (p.alone q.y q.fits₂)))

  one_kinds : (κ : ℕ) → OneKind S kind w b κ → TwoKinds S kind w b → ⊥
  one_kinds κ p q = q.differ (p.shared q.x q.fits₁ ∙ sym (p.shared q.y q.fits₂))

  pub kinds_answer_unique : (v v' : KindsAnswer) → KindsAnswers S kind w b v → KindsAnswers S kind w b v' → v ≡ v'
  kinds_answer_unique (letter x) (letter y) p q = ap letter (q.alone x p.fits)
  kinds_answer_unique (letter x) (kind_only κ) p q = absurd (alone_two x p q.two)
  kinds_answer_unique (letter x) several p q = absurd (alone_kinds x p q)
  kinds_answer_unique (letter x) none p q = absurd (q x p.fits)
  kinds_answer_unique (kind_only κ) (letter y) p q = absurd (alone_two y q p.two)
  kinds_answer_unique (kind_only κ) (kind_only μ) p q = ap kind_only (sym (p.shared _ p.two.fits₁) ∙ q.shared _ p.two.fits₁)
  kinds_answer_unique (kind_only κ) several p q = absurd (one_kinds κ p q)
  kinds_answer_unique (kind_only κ) none p q = absurd (q _ p.two.fits₁)
  kinds_answer_unique several (letter y) p q = absurd (alone_kinds y q p)
  kinds_answer_unique several (kind_only μ) p q = absurd (one_kinds μ q p)
  kinds_answer_unique several several p q = refl
  kinds_answer_unique several none p q = absurd (q _ p.fits₁)
  kinds_answer_unique none (letter y) p q = absurd (p y q.fits)
  kinds_answer_unique none (kind_only μ) p q = absurd (p _ q.two.fits₁)
  kinds_answer_unique none several p q = absurd (p _ q.fits₁)
  kinds_answer_unique none none p q = refl

  -- ---- with the kinds forgotten, the byte of the answer for letters

  pub kinds_letters : (v : KindsAnswer) (u : Answer) → KindsAnswers S kind w b v → Answers S w b u → byte_of u ≡ letter_byte v
  kinds_letters (letter x) u p q = ap byte_of (answer_unique S w b u (Answer.letter x) q p)
  kinds_letters (kind_only κ) u p q = ap byte_of (answer_unique S w b u Answer.several q p.two)
  kinds_letters several u p q =
      ap byte_of
      (answer_unique S w b u Answer.several q
      (record { x = p.x; y = p.y; fits₁ = p.fits₁; fits₂ = p.fits₂; differ = λ e. p.differ (ap kind e) }))
  kinds_letters none (Answer.letter y) p q = absurd (p y q.fits)
  kinds_letters none (Answer.none k) p q = refl
  kinds_letters none Answer.several p q = absurd (p q.x q.fits₁)
