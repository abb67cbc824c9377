-- Before the first round: the start square and the first edges, place by place.
use mathlib.Core.Path.{◌≡◌, ◌∙◌, subst}
use mathlib.Core.List.{List}
use Prim.Native.Nat.{ℕ, ◌+◌, ◌*◌, ◌≤◌, ◌<◌}
use native.Mathlib.Omega.{arith}
use native.Mathlib.Decide.{ℕ_discrete, dec_lt}
use lib.ListN.{get_or, replicate}
use Rattle.product.specs.Depth.{at, endless, Square}
use Rattle.product.specs.Rounds.{edge_at}
use Rattle.product.specs.declared.inner.Edge.{Edge}
use Rattle.product.proofs.Squares.{put, put_same, put_other, put_square, square_of, square_at}

-- ---- a square with the pairs of P endless and the others 0, from place 0 on

abbrev zeros : List (List ℕ)
zeros = replicate 16 (replicate 16 0)

module _ (P : ℕ → ℕ → Type 0) where
  pub record FilledTo (a : ℕ) (d : List (List ℕ)) : Type 0 where
    pub shape : Square d
    pub yes' : (u v : ℕ) → u < 16 → v < 16 → 16 * u + v < a → P u v → at d u v ≡ endless
    pub no' : (u v : ℕ) → u < 16 → v < 16 → 16 * u + v < a → (P u v → ⊥) → at d u v ≡ 0
    pub zero_from : (u v : ℕ) → u < 16 → v < 16 → a ≤ 16 * u + v → at d u v ≡ 0

  pub filled_start : FilledTo 0 zeros
  filled_start = record {
    shape = square_of 0;
    yes' = λ u v l m n. absurd (omega arith);
    no' = λ u v l m n. absurd (omega arith);
    zero_from = λ u v l m n. square_at 0 0 u v l m;
  }

  module _ {u v : ℕ} {d : List (List ℕ)} (f : FilledTo (16 * u + v) d) (row : u < 16) (column : v < 16) where
    -- the pair at the place of u and v
    here : (s t : ℕ) → t < 16 → 16 * s + t ≡ 16 * u + v → (s ≡ u) × (t ≡ v)
    here s t m e = (omega arith, omega arith)

    pub filled_put : P u v → FilledTo (16 * u + (v + 1)) (put d u v endless)
    filled_put p = record {
      shape = put_square f.shape u v endless row column;
      yes' = λ s t l m n q. elim (ℕ_discrete (16 * s + t) (16 * u + v)) [
        | yes e ↦ (let w = here s t m e in rw (w.0, w.1) (put_same f.shape u v endless row column 0))
        | no e ↦ stays s t (λ x y. e (omega arith)) ∙ f.yes' s t l m (omega arith) q
      ];
      no' = λ s t l m n q. elim (ℕ_discrete (16 * s + t) (16 * u + v)) [
        | yes e ↦ (let w = here s t m e in absurd (q (rw (w.0, w.1) p)))
        | no e ↦ stays s t (λ x y. e (omega arith)) ∙ f.no' s t l m (omega arith) q
      ];
      zero_from = λ s t l m n. stays s t (λ x y. omega arith) ∙ f.zero_from s t l m (omega arith);
    }
      where
        stays : (s t : ℕ) → (s ≡ u → t ≡ v → ⊥) → at (put d u v endless) s t ≡ at d s t
        stays = put_other f.shape u v endless row column 0

    pub filled_skip : (P u v → ⊥) → FilledTo (16 * u + (v + 1)) d
    filled_skip p = record {
      shape = f.shape;
      yes' = λ s t l m n q. elim (ℕ_discrete (16 * s + t) (16 * u + v)) [
        | yes e ↦ (let w = here s t m e in absurd (p (rw (w.0, w.1) at q)))
        | no e ↦ f.yes' s t l m (omega arith) q
      ];
      no' = λ s t l m n q. elim (ℕ_discrete (16 * s + t) (16 * u + v)) [
        | yes e ↦ f.zero_from s t l m (omega arith)
        | no e ↦ f.no' s t l m (omega arith) q
      ];
      zero_from = λ s t l m n. f.zero_from s t l m (omega arith);
    }

  -- the same place, said otherwise
  pub filled_at : {a b : ℕ} {d : List (List ℕ)} → a ≡ b → FilledTo a d → FilledTo b d
  filled_at {a} {b} {d} e = subst (λ x. FilledTo x d) e

  -- where no pair from place a on is in P, that is all
  module _ {a : ℕ} {d : List (List ℕ)} (f : FilledTo a d) where
    pub filled_yes :
        ((u v : ℕ) → a ≤ 16 * u + v → v < 16 → P u v → ⊥) → (u v : ℕ) → u < 16 → v < 16 → P u v → at d u v ≡ endless
    filled_yes none u v l m p = elim (dec_lt (16 * u + v) a) [
      | yes n ↦ f.yes' u v l m n p
      | no n ↦ absurd (none u v (omega arith) m p)
    ]

    pub filled_no : (u v : ℕ) → u < 16 → v < 16 → (P u v → ⊥) → at d u v ≡ 0
    filled_no u v l m p = elim (dec_lt (16 * u + v) a) [ yes n ↦ f.no' u v l m n p | no n ↦ f.zero_from u v l m (omega arith) ]

-- ---- the first edges

pub record FirstEdgesTo (last : List ℕ) (a : ℕ) (edges : List (List Edge)) : Type 0 where
  pub kept : Square edges
  pub first : (u v : ℕ) → u < 16 → v < 16 → 16 * u + v < a → edge_at edges u v ≡ record { x = get_or last u 0; y = get_or last v 0 }
