-- The words of the letters that are to be told apart, one letter after the other; and which letters these are.
use mathlib.Core.Path.{◌≡◌, refl, sym, ◌∙◌}
use mathlib.Core.Bool.{true, false}
use mathlib.Core.List.{List}
use mathlib.Core.Logic.{◌↔◌, inl, inr, ⊎_elim}
use Prim.Native.Nat.{ℕ, ◌+◌, ◌-◌, ◌*◌, ◌%◌, ◌^◌, ◌<◌}
use native.Mathlib.Decide.{ℕ_discrete}
use native.Mathlib.Omega.{arith}
use lib.Bits.{bit_or, bit_and}
use lib.ListN.{length, get_or}
use Rattle.mealy.specs.Word.{Has, Holds}
use Rattle.mealy.proofs.Words.{holds_map, holds_none, holds_shifted, holds_union, holds_both, holds_not, shifted, has_itself, has_alone}
use Rattle.coder.proofs.Refusals.{true_false}
use Rattle.kinds.specs.Kinds.{DifferentKinds, DifferentWithin, DifferentCarried}
use Rattle.search_kinds.specs.Letters.{OfKind, SameKind, ToldApart}

-- ---- the numbers below k with P, as a word

module _ {P : ℕ → Type 0} where
  pub held_none : Holds (λ j. (j < 0) × P j) 0
  held_none = holds_none (λ j p. omega (arith, p.0))

  module _ {u : ℕ} (k : ℕ) (h : Holds (λ j. (j < k) × P j) u) where
    pub held_more : k < 16 → P k → Holds (λ j. (j < k + 1) × P j) (bit_or u (1 * 2 ^ k % 2 ^ 16))
    held_more l p =
        holds_map
        (λ j. ⊎_elim (λ q. (omega (arith, q.0), q.1)) (λ (e : j ≡ k). (omega arith, rw e p)))
        (λ j q. elim (ℕ_discrete j k) [ yes e ↦ inr e | no n ↦ inl (omega (arith, q.0), q.1) ])
        (holds_union h (holds_shifted k l refl (λ j e. e)))

    pub held_less : (P k → ⊥) → Holds (λ j. (j < k + 1) × P j) u
    held_less n =
        holds_map
        (λ j q. (omega (arith, q.0), q.1))
        (λ j q. elim (ℕ_discrete j k) [ yes e ↦ absurd (n (rw e at q.1)) | no m ↦ (omega (arith, q.0), q.1) ])
        h

-- ---- the letters to be told apart from i, whose kind is k

module _ (kind : ℕ → ℕ) (C : ℕ → Type 0) {i k : ℕ} (e : k ≡ kind i) where
  pub same_held :
      {u : ℕ} → Holds (OfKind kind k) u → i < 16 → C k →
      Holds (λ j. (j < 16) × SameKind kind C i j) (bit_and u (65535 - (1 * 2 ^ i % 2 ^ 16)))
  same_held h l c =
      holds_map
      (λ j q. (q.0.0, (sym e ∙ sym q.0.1, rw (← e) c, λ z. q.1.1 (sym z))))
      (λ j q. ((q.0, sym q.1.0 ∙ sym e), (q.0, λ z. q.1.2 (sym z))))
      (holds_both h (holds_not (holds_shifted {P = λ j. j ≡ i} i l refl (λ j z. z))))

pub other_held :
    (kind : ℕ → ℕ) {i k u : ℕ} → k ≡ kind i → Holds (OfKind kind k) u → Holds (λ j. (j < 16) × DifferentKinds kind i j) (65535 - u)
other_held kind e h =
    holds_map
    (λ j q. (q.0, λ z. q.1 (q.0, sym z ∙ sym e)))
    (λ j q. (q.0, λ z. q.1 (sym e ∙ sym z.1)))
    (holds_not h)

module _ (kind : ℕ → ℕ) (C : ℕ → Type 0) {i u : ℕ} (h : Holds (λ j. (j < 16) × SameKind kind C i j) u) where
  pub across_held :
      {v : ℕ} → Holds (λ j. (j < 16) × DifferentKinds kind i j) v → Holds (λ j. (j < 16) × ToldApart true kind C i j) (bit_or u v)
  across_held o =
      holds_map
      (λ j. ⊎_elim (λ q. (q.0, inl q.1)) (λ q. (q.0, inr (refl, q.1))))
      (λ j q. elim q.1 [ inl s ↦ inl (q.0, s) | inr d ↦ inr (q.0, d.1) ])
      (holds_union h o)

-- ---- all words

-- the words of the letters below k are made
pub record WordsTo (D : ℕ → ℕ → Type 0) (k : ℕ) (words : List ℕ) : Type 0 where
  pub size : length words ≡ 16
  pub made : (i : ℕ) → i < k → Holds (λ j. (j < 16) × D i j) (get_or words i 0)

-- ---- which letters these are

pub apart_carried : (kind : ℕ → ℕ) (C : ℕ → Type 0) (i j : ℕ) → ToldApart true kind C i j ↔ DifferentCarried kind C i j
apart_carried kind C i j = (⊎_elim (λ s. inr s) (λ o. inl o.1), ⊎_elim (λ d. inr (refl, d)) (λ s. inl s))

-- the word of the kind κ alone
pub apart_within :
    (kind : ℕ → ℕ) (κ : ℕ) → κ < 16 → (i j : ℕ) →
    ToldApart false kind (Has (1 * 2 ^ κ % 2 ^ 16)) i j ↔ DifferentWithin kind κ i j
apart_within kind κ l i j =
    let is = shifted 16 κ l in (
      ⊎_elim
          (λ s. let e : kind i ≡ κ = has_alone (kind i) κ (rw is at s.1) in (e, sym s.0 ∙ e, s.2))
          (λ o. absurd (true_false o.0 refl)),
      λ d. inl (d.0 ∙ sym d.1, rw (is, d.0) (has_itself κ), d.2),
    )
