-- The lexicographic order is total, transitive and antisymmetric; so two first pairs have the same starts, lengths and letters.
use mathlib.Core.Path.{◌≡◌, refl, sym}
use mathlib.Core.Logic.{◌⊎◌, inl, inr}
use mathlib.Core.List.{List, [], ◌∷◌, ◌++◌}
use Prim.Native.Nat.{ℕ, ◌<◌}
use native.Mathlib.Omega.{arith}
use native.Mathlib.Decide.{dec_le, ℕ_discrete}
use lib.ListN.{length}
use Rattle.mealy.specs.Setting.{Setting}
use Rattle.mealy.specs.LoopedPair.{LoopedPair, letters}
use Rattle.mealy.specs.First.{Lexicographic, key, First}

pub lexicographic_refl : (xs : List ℕ) → Lexicographic xs xs
lexicographic_refl [] = tt
lexicographic_refl (x ∷ xs) = (omega arith, λ e. lexicographic_refl xs)

pub lexicographic_total : (xs ys : List ℕ) → Lexicographic xs ys ⊎ Lexicographic ys xs
lexicographic_total [] ys = inl tt
lexicographic_total (x ∷ xs) [] = inr tt
lexicographic_total (x ∷ xs) (y ∷ ys) = elim (ℕ_discrete x y) [
  | yes e ↦ elim (lexicographic_total xs ys) [ inl l ↦ inl (omega arith, λ _. l) | inr l ↦ inr (omega arith, λ _. l) ]
  | no n ↦ elim (dec_le x y) [ yes l ↦ inl (l, λ e. absurd (n e)) | no l ↦ inr (omega arith, λ e. absurd (n (sym e))) ]
]

pub lexicographic_trans : (xs ys zs : List ℕ) → Lexicographic xs ys → Lexicographic ys zs → Lexicographic xs zs
lexicographic_trans [] ys zs p q = tt
lexicographic_trans (x ∷ xs) [] zs p q = absurd p
lexicographic_trans (x ∷ xs) (y ∷ ys) [] p q = absurd q
lexicographic_trans (x ∷ xs) (y ∷ ys) (z ∷ zs) p q =
    let l = p.0 in
    let m = q.0 in
    (omega arith, λ e. lexicographic_trans xs ys zs (p.1 (omega arith)) (q.1 (omega arith)))

pub lexicographic_antisym : (xs ys : List ℕ) → Lexicographic xs ys → Lexicographic ys xs → xs ≡ ys
lexicographic_antisym [] [] p q = refl
lexicographic_antisym [] (y ∷ ys) p q = absurd q
lexicographic_antisym (x ∷ xs) [] p q = absurd p
lexicographic_antisym (x ∷ xs) (y ∷ ys) p q =
    let l = p.0 in
    let m = q.0 in
    let e : x ≡ y = omega arith in
    let f = lexicographic_antisym xs ys (p.1 e) (q.1 (sym e)) in
    cc

-- lists of equal lengths one after the other
pub lexicographic_append :
    (xs ys xs' ys' : List ℕ) → length xs ≡ length ys → Lexicographic xs ys → (xs ≡ ys → Lexicographic xs' ys') →
    Lexicographic (xs ++ xs') (ys ++ ys')
lexicographic_append [] [] xs' ys' n p q = q refl
lexicographic_append [] (y ∷ ys) xs' ys' n p q = absurd (omega arith)
lexicographic_append (x ∷ xs) [] xs' ys' n p q = absurd (omega arith)
lexicographic_append (x ∷ xs) (y ∷ ys) xs' ys' n p q =
    (p.0, λ e. lexicographic_append xs ys xs' ys' (omega arith) (p.1 e) (λ f. q (cc)))

pub first_unique : (S : Setting) (p q : LoopedPair) → First S p → First S q → key p ≡ key q
first_unique S p q a b = lexicographic_antisym (key p) (key q) (a.first q b.valid) (b.first p a.valid)

-- ---- what decides, one thing after the other

module _ (p q : LoopedPair) where
  pub fewer_letters : letters p < letters q → Lexicographic (key p) (key q)
  fewer_letters l = (omega arith, λ e. absurd (omega arith))

  module _ (all : letters p ≡ letters q) where
    pub lower_s : p.s < q.s → Lexicographic (key p) (key q)
    lower_s l = (omega arith, λ _. (omega arith, λ e. absurd (omega arith)))

    module _ (same₁ : p.s ≡ q.s) where
      pub lower_t : p.t < q.t → Lexicographic (key p) (key q)
      lower_t l = (omega arith, λ _. (omega arith, λ _. (omega arith, λ e. absurd (omega arith))))

      module _ (same₂ : p.t ≡ q.t) where
        pub shorter_back_loop : p.back_loop < q.back_loop → Lexicographic (key p) (key q)
        shorter_back_loop l =
            (omega arith, λ _. (omega arith, λ _. (omega arith, λ _. (omega arith, λ e. absurd (omega arith)))))

        module _ (same₃ : p.back_loop ≡ q.back_loop) where
          pub shorter_lead_in : p.lead_in < q.lead_in → Lexicographic (key p) (key q)
          shorter_lead_in l =
              (omega arith, λ _. (omega arith, λ _. (omega arith, λ _. (omega arith, λ _. (omega arith, λ e. absurd (omega arith))))))

          pub shorter_lead_out : p.lead_in ≡ q.lead_in → p.lead_out < q.lead_out → Lexicographic (key p) (key q)
          shorter_lead_out same₄ l = (
            omega arith,
            λ _. (omega arith, λ _. (omega arith, λ _. (omega arith, λ _. (omega arith, λ _. (omega arith, λ e. absurd (omega arith)))))),
          )
