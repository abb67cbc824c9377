-- A square with one place written.
use mathlib.Core.Path.{◌≡◌, refl, ap, ◌∙◌}
use mathlib.Core.List.{List, []}
use Prim.Native.Nat.{ℕ, ◌<◌}
use native.Mathlib.Omega.{arith}
use native.Mathlib.Decide.{ℕ_discrete}
use lib.ListN.{length, get_or, set, replicate, length-set, get_or-replicate}
use lib.Seq.{get_or-set_same, get_or-set_other}
use Rattle.product.specs.Depth.{Square}

abbrev pub put : {A : Type 0} → List (List A) → ℕ → ℕ → A → List (List A)
put d u v x = set d u (set (get_or d u []) v x)

-- the place of row u and column v, or z
abbrev pub cell : {A : Type 0} → A → List (List A) → ℕ → ℕ → A
cell z d u v = get_or (get_or d u []) v z

module _ {A : Type 0} {d : List (List A)} (square : Square d) (u v : ℕ) (x : A) (row : u < 16) (column : v < 16) where
  same_row : get_or (put d u v x) u [] ≡ set (get_or d u []) v x
  same_row = get_or-set_same d u _ [] (omega (arith, square.rows))

  pub put_same : (z : A) → cell z (put d u v x) u v ≡ x
  put_same z = ap (λ r. get_or r v z) same_row ∙ get_or-set_same (get_or d u []) v x z (omega (arith, square.columns u row))

  pub put_other : (z : A) (s t : ℕ) → (s ≡ u → t ≡ v → ⊥) → cell z (put d u v x) s t ≡ cell z d s t
  put_other z s t f = elim (ℕ_discrete s u) [
    | yes e ↦ rw e (ap (λ r. get_or r t z) same_row ∙ get_or-set_other (get_or d u []) v t x z (f e))
    | no e ↦ ap (λ r. get_or r t z) (get_or-set_other d u s (set (get_or d u []) v x) [] e)
  ]

  pub put_square : Square (put d u v x)
  put_square = record {
    rows = length-set d u (set (get_or d u []) v x) ∙ square.rows;
    columns = λ s l. elim (ℕ_discrete s u) [
      | yes e ↦ rw e (ap length same_row ∙ length-set (get_or d u []) v x ∙ square.columns u row)
      | no e ↦ ap length (get_or-set_other d u s (set (get_or d u []) v x) [] e) ∙ square.columns s l
    ];
  }

-- 16 rows of 16 equal columns
module _ {A : Type 0} (x : A) where
  pub square_of : Square (replicate 16 (replicate 16 x))
  square_of = record { rows = refl; columns = λ u l. ap length (get_or-replicate {A = List A} 16 u (replicate 16 x) [] l) }

  pub square_at : (z : A) (u v : ℕ) → u < 16 → v < 16 → cell z (replicate 16 (replicate 16 x)) u v ≡ x
  square_at z u v l m =
      ap (λ r. get_or r v z) (get_or-replicate {A = List A} 16 u (replicate 16 x) [] l) ∙ get_or-replicate {A = A} 16 v x z m
