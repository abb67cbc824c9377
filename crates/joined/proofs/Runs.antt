-- The numbers of the joined machine's states; running it is running the second machine on what the first puts out.
use mathlib.Core.Path.{◌≡◌, refl, ap, ap₂, ◌∙◌}
use mathlib.Core.List.{List, [], ◌∷◌}
use Prim.Native.Nat.{ℕ, ◌<◌}
use native.Mathlib.Nat.{mod-lt, div-lt_iff_lt-mul, div-add-mod'}
use lib.Arith.{digits_lt, digits_div, digits_mod}
use Rattle.mealy.specs.Machine.{Machine, outs, end, Letters, Total}
use Rattle.joined.specs.Joined.{joined_state, first_state, second_state, joined, Joinable}

-- ---- the two states that a number stands for, and the number of two states

pub first_state_lem : (B : Machine) (s t : ℕ) → t < B.states → first_state B (joined_state B s t) ≡ s
first_state_lem B s t l = digits_div s l

pub second_state_lem : (B : Machine) (s t : ℕ) → t < B.states → second_state B (joined_state B s t) ≡ t
second_state_lem B s t l = digits_mod s l

pub joined_state_lem : (B : Machine) (q : ℕ) → joined_state B (first_state B q) (second_state B q) ≡ q
joined_state_lem B q = div-add-mod' q B.states

module _ (A B : Machine) (j : Joinable A B) where
  open j use {states₂, total₁, total₂, outputs}

  -- ---- the joined machine

  pub first_below : (q : ℕ) → q < (joined A B).states → first_state B q < A.states
  first_below q l = (div-lt_iff_lt-mul states₂).1 l

  pub second_below : (q : ℕ) → second_state B q < B.states
  second_below q = mod-lt q states₂

  pub joined_total : Total (joined A B)
  joined_total q i l m =
      let s = first_below q l in
      digits_lt (total₁ _ i s m) (total₂ _ _ (second_below q) (outputs _ i s m))

  -- what the first puts out, the second takes
  pub letters_outs : (s : ℕ) (xs : List ℕ) → s < A.states → Letters A.inputs xs → Letters B.inputs (outs A s xs)
  letters_outs s [] l m = tt
  letters_outs s (x ∷ xs) l m = (outputs s x l m.0, letters_outs (A.next s x) xs (total₁ s x l m.0) m.1)

  -- ---- runs

  -- one letter
  pub joined_out : (s t i : ℕ) → t < B.states → (joined A B).out (joined_state B s t) i ≡ B.out t (A.out s i)
  joined_out s t i l = ap₂ (λ u v. B.out v (A.out u i)) (first_state_lem B s t l) (second_state_lem B s t l)

  pub joined_next :
      (s t i : ℕ) → t < B.states → (joined A B).next (joined_state B s t) i ≡ joined_state B (A.next s i) (B.next t (A.out s i))
  joined_next s t i l =
      ap₂ (λ u v. joined_state B (A.next u i) (B.next v (A.out u i))) (first_state_lem B s t l) (second_state_lem B s t l)

  pub joined_outs :
      (s t : ℕ) (xs : List ℕ) → s < A.states → t < B.states → Letters A.inputs xs →
      outs (joined A B) (joined_state B s t) xs ≡ outs B t (outs A s xs)
  joined_outs s t [] l m h = refl
  joined_outs s t (x ∷ xs) l m h =
      ap₂ ◌∷◌ (joined_out s t x m)
      (ap (λ q. outs (joined A B) q xs) (joined_next s t x m)
      ∙ joined_outs (A.next s x) (B.next t (A.out s x)) xs (total₁ s x l h.0) (total₂ t _ m (outputs s x l h.0)) h.1)

  pub joined_end :
      (s t : ℕ) (xs : List ℕ) → s < A.states → t < B.states → Letters A.inputs xs →
      end (joined A B) (joined_state B s t) xs ≡ joined_state B (end A s xs) (end B t (outs A s xs))
  joined_end s t [] l m h = refl
  joined_end s t (x ∷ xs) l m h =
      ap (λ q. end (joined A B) q xs) (joined_next s t x m)
      ∙ joined_end (A.next s x) (B.next t (A.out s x)) xs (total₁ s x l h.0) (total₂ t _ m (outputs s x l h.0)) h.1
