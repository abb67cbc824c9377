-- Machines with the same entries run alike.
use mathlib.Core.Path.{◌≡◌, refl, ap, ap₂, ◌∙◌}
use mathlib.Core.List.{List, [], ◌∷◌}
use Prim.Native.Nat.{ℕ}
use Rattle.mealy.specs.Machine.{Machine, outs, end}

module _ (M M' : Machine) (n : M.next ≡ M'.next) (o : M.out ≡ M'.out) where
  pub outs_agree : (s : ℕ) (xs : List ℕ) → outs M s xs ≡ outs M' s xs
  outs_agree s [] = refl
  outs_agree s (x ∷ xs) =
      ap₂ ◌∷◌ (ap (λ (g : ℕ → ℕ → ℕ). g s x) o)
      (ap (λ (g : ℕ → ℕ → ℕ). outs M (g s x) xs) n ∙ outs_agree (M'.next s x) xs)

  pub end_agree : (s : ℕ) (xs : List ℕ) → end M s xs ≡ end M' s xs
  end_agree s [] = refl
  end_agree s (x ∷ xs) = ap (λ (g : ℕ → ℕ → ℕ). end M (g s x) xs) n ∙ end_agree (M'.next s x) xs
