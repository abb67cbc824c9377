-- Windows of the settings that differ only in the letters told apart: the kind always and the letter in some kinds; letters.
use mathlib.Core.Path.{◌≡◌, refl, sym, ap, ◌∙◌}
use mathlib.Core.Logic.{◌↔◌, ◌≢◌, inl, inr}
use Prim.Native.Nat.{ℕ, ◌<◌}
use native.Mathlib.Omega.{arith}
use native.Mathlib.Decide.{ℕ_discrete}
use Rattle.mealy.specs.Setting.{Setting, Same}
use Rattle.mealy.specs.Window.{Works}
use Rattle.mealy.specs.Order.{Relation, Least}
use Rattle.mealy.proofs.Letters.{letter_at_lem}
use Rattle.kinds.specs.Kinds.{DifferentLetters, DifferentKinds, DifferentWithin, DifferentCarried}
use Rattle.kinds.specs.Kinds.{telling, tell_letters, tell_kinds, tell_one, tell_carried, Carried, Cannot}

-- the letters below n that D tells apart, E tells apart
abbrev pub Included : ℕ → (ℕ → ℕ → Type 0) → (ℕ → ℕ → Type 0) → Type 0
Included n D E = (i j : ℕ) → i < n → j < n → D i j → E i j

module _ (S : Setting) (D E : ℕ → ℕ → Type 0) (f : Included S.M.inputs D E) where
  -- a window that tells more letters apart
  pub works_included : (b a : ℕ) → Works (telling S E) b a → Works (telling S D) b a
  works_included b a w s t xs ys p q e c =
      let l = letter_at_lem _ xs e.letters₁ b (omega (arith, e.length₁)) in
      let m = letter_at_lem _ ys e.letters₂ b (omega (arith, e.length₂)) in
      w s t xs ys p q e (f _ _ l m c)

pub least_included :
    (S : Setting) (D E : ℕ → ℕ → Type 0) → Included S.M.inputs D E → Included S.M.inputs E D → (R : Relation) (b a : ℕ) →
    Least R (telling S E) b a → Least R (telling S D) b a
least_included S D E f g R b a l = record {
  works = works_included S D E f b a l.works;
  least = λ b' a' h. l.least b' a' (works_included S E D g b' a' h);
}

-- settings that say the same, with the same letters to tell apart
pub same_telling : {S T : Setting} → Same S T → (D : ℕ → ℕ → Type 0) → Same (telling S D) (telling T D)
same_telling e D =
    record {
      closed = e.closed;
      inputs = e.inputs;
      start = e.start;
      start' = e.start';
      next = e.next;
      out = e.out;
      conflict = λ i j l m c. c;
      conflict' = λ i j l m c. c;
    }

module _ (S : Setting) (kind : ℕ → ℕ) where
  -- ---- the kind always, and the letter in every kind of C

  module _ (C : ℕ → Type 0) where
    pub carried→kinds : (b a : ℕ) → Works (tell_carried S kind C) b a → Works (tell_kinds S kind) b a
    carried→kinds = works_included S (DifferentKinds kind) (DifferentCarried kind C) (λ i j p q c. inl c)

    pub carried→one : (κ : ℕ) → C κ → (b a : ℕ) → Works (tell_carried S kind C) b a → Works (tell_one S kind κ) b a
    carried→one κ h =
        works_included S (DifferentWithin kind κ) (DifferentCarried kind C)
        (λ i j p q c. inr (c.0 ∙ sym c.1, rw c.0 h, c.2))

    pub kinds→carried :
        (b a : ℕ) → Works (tell_kinds S kind) b a → ((κ : ℕ) → C κ → Works (tell_one S kind κ) b a) → Works (tell_carried S kind C) b a
    kinds→carried b a f g s t xs ys p q e (inl c) = f s t xs ys p q e c
    kinds→carried b a f g s t xs ys p q e (inr c) = g _ c.1 s t xs ys p q e (refl, sym c.0, c.2)

    -- what the reported window does, in two parts
    pub works_carried :
        (b a : ℕ) → Works (tell_carried S kind C) b a ↔ (Works (tell_kinds S kind) b a × ((κ : ℕ) → C κ → Works (tell_one S kind κ) b a))
    works_carried b a = ((λ f. (carried→kinds b a f, λ κ h. carried→one κ h b a f)), λ z. kinds→carried b a z.0 z.1)

  -- a kind of which no two letters differ is carried
  pub single_carried :
      (κ : ℕ) → ((i j : ℕ) → i < S.M.inputs → j < S.M.inputs → kind i ≡ κ → kind j ≡ κ → i ≡ j) → Carried S kind κ
  single_carried κ f = (
    0,
    0,
    works_included S (DifferentWithin kind κ) (λ i j. ⊥) (λ i j p q c. c.2 (f i j p q c.0 c.1)) 0 0 (λ s t xs ys p q e c. c),
  )

  -- "a kind that no letter has counts as carried"
  pub unused_carried : (κ : ℕ) → ((i : ℕ) → i < S.M.inputs → kind i ≢ κ) → Carried S kind κ
  unused_carried κ f = single_carried κ (λ i j p q e d. absurd (f i p e))

  -- ---- letters

  carried→letters : (C : ℕ → Type 0) (i j : ℕ) → DifferentCarried kind C i j → i ≢ j
  carried→letters C i j (inl d) e = d (ap kind e)
  carried→letters C i j (inr d) e = d.2 e

  module _ (b a : ℕ) (works : Works (tell_letters S) b a) where
    pub letters_carried : (κ : ℕ) → Carried S kind κ
    letters_carried κ = (b, a, works_included S (DifferentWithin kind κ) DifferentLetters (λ i j p q c. c.2) b a works)

    pub letters_can : Cannot S kind → ⊥
    letters_can f = f b a (works_included S (DifferentKinds kind) DifferentLetters (λ i j p q c e. c (ap kind e)) b a works)

  -- where C has the kind of every letter, the windows are those for letters
  module _ (C : ℕ → Type 0) (every : (i : ℕ) → i < S.M.inputs → C (kind i)) where
    letters→different : Included S.M.inputs DifferentLetters (DifferentCarried kind C)
    letters→different i j p q c = elim (ℕ_discrete (kind i) (kind j)) [ yes e ↦ inr (e, every i p, c) | no e ↦ inl e ]

    different→letters : Included S.M.inputs (DifferentCarried kind C) DifferentLetters
    different→letters i j p q = carried→letters C i j

    pub least_every : (R : Relation) (b a : ℕ) → Least R (tell_carried S kind C) b a ↔ Least R (tell_letters S) b a
    least_every R b a = (
      least_included S DifferentLetters (DifferentCarried kind C) letters→different different→letters R b a,
      least_included S (DifferentCarried kind C) DifferentLetters different→letters letters→different R b a,
    )
