-- One edge of the product machine, and runs with equal outputs one letter at a time.
use mathlib.Core.Path.{refl, sym, ap}
use mathlib.Core.List.{List, [], ◌∷◌}
use Prim.Native.Nat.{ℕ, suc}
use native.Mathlib.Omega.{arith}
use Rattle.mealy.specs.Machine.{Machine}
use Rattle.mealy.specs.Window.{EqualOutputs}
use Rattle.mealy.specs.Product.{Edge, Direction, back, forward, Step, Neighbour}

pub edge_swap : {M : Machine} {s t i j u v : ℕ} → Edge M s t i j u v → Edge M t s j i v u
edge_swap e = record { below₁ = e.below₂; below₂ = e.below₁; output = sym e.output; to₁ = e.to₂; to₂ = e.to₁ }

step_swap : (M : Machine) (d : Direction) (u v i j s t : ℕ) → Step M d u v i j s t → Step M d v u j i t s
step_swap M back u v i j s t e = edge_swap e
step_swap M forward u v i j s t e = edge_swap e

module _ {M : Machine} {P Q : ℕ → ℕ → Type 0} {u v : ℕ} where
  pub neighbour_map : {d : Direction} → ((s t : ℕ) → P s t → Q s t) → Neighbour M d P u v → Neighbour M d Q u v
  neighbour_map f n = record { s = n.s; t = n.t; i = n.i; j = n.j; step = n.step; within = f n.s n.t n.within }

  pub neighbour_swap : (d : Direction) → ((s t : ℕ) → P s t → Q t s) → Neighbour M d P u v → Neighbour M d Q v u
  neighbour_swap d f n = record { s = n.t; t = n.s; i = n.j; j = n.i; step = step_swap M d u v _ _ _ _ n.step; within = f n.s n.t n.within }

-- ---- runs with equal outputs

pub equal_nil : {M : Machine} {s t : ℕ} → EqualOutputs M 0 s t [] []
equal_nil = record { letters₁ = tt; letters₂ = tt; length₁ = refl; length₂ = refl; outputs = refl }

pub equal_cons :
    {M : Machine} {n s t i j u v : ℕ} {xs ys : List ℕ} → Edge M s t i j u v → EqualOutputs M n u v xs ys →
    EqualOutputs M (suc n) s t (i ∷ xs) (j ∷ ys)
equal_cons e w =
    record {
      letters₁ = (e.below₁, w.letters₁);
      letters₂ = (e.below₂, w.letters₂);
      length₁ = ap suc w.length₁;
      length₂ = ap suc w.length₂;
      outputs = cc (e.output, e.to₁, e.to₂, w.outputs);
    }

pub equal_edge : {M : Machine} {n s t i j : ℕ} {xs ys : List ℕ} → EqualOutputs M n s t (i ∷ xs) (j ∷ ys) → Edge M s t i j (M.next s i) (M.next t j)
equal_edge w = record { below₁ = w.letters₁.0; below₂ = w.letters₂.0; output = cc; to₁ = refl; to₂ = refl }

pub equal_tail :
    {M : Machine} {n s t i j : ℕ} {xs ys : List ℕ} → EqualOutputs M (suc n) s t (i ∷ xs) (j ∷ ys) →
    EqualOutputs M n (M.next s i) (M.next t j) xs ys
equal_tail w =
    record {
      letters₁ = w.letters₁.1;
      letters₂ = w.letters₂.1;
      length₁ = omega arith;
      length₂ = omega arith;
      outputs = cc;
    }
