-- Laws of walks of the product machine.
use mathlib.Core.Path.{◌≡◌, refl, sym, ◌∙◌}
use mathlib.Core.List.{List, [], ◌∷◌, ◌++◌}
use Prim.Native.Nat.{ℕ, zero, suc}
use native.Mathlib.Omega.{arith}
use lib.ListN.{length}
use Rattle.mealy.specs.Machine.{Machine, end}
use Rattle.mealy.specs.Setting.{Setting, Closed}
use Rattle.mealy.specs.Product.{Edge}
use Rattle.mealy.specs.LoopedPair.{repeat}
use Rattle.mealy.specs.Walk.{Walk}
use Rattle.mealy.proofs.RunParts.{end_start}
use Rattle.mealy.proofs.Edges.{equal_nil, equal_cons, equal_edge, equal_tail}

pub walk_nil : {M : Machine} {s t : ℕ} → Walk M s t [] [] s t
walk_nil = record { equal = equal_nil; end₁ = refl; end₂ = refl }

pub walk_cons :
    {M : Machine} {s t i j u v u' v' : ℕ} {xs ys : List ℕ} → Edge M s t i j u v → Walk M u v xs ys u' v' →
    Walk M s t (i ∷ xs) (j ∷ ys) u' v'
walk_cons e w = record { equal = equal_cons e w.equal; end₁ = cc (e.to₁, w.end₁); end₂ = cc (e.to₂, w.end₂) }

pub walk_tail : {M : Machine} {s t i j u v : ℕ} {xs ys : List ℕ} → Walk M s t (i ∷ xs) (j ∷ ys) u v → Walk M (M.next s i) (M.next t j) xs ys u v
walk_tail w = record { equal = equal_tail w.equal; end₁ = w.end₁; end₂ = w.end₂ }

-- the letters decide where a walk ends
pub walk_ends : {M : Machine} {s t u v u' v' : ℕ} {xs ys : List ℕ} → Walk M s t xs ys u v → Walk M s t xs ys u' v' → (u ≡ u') × (v ≡ v')
walk_ends a b = (sym a.end₁ ∙ b.end₁, sym a.end₂ ∙ b.end₂)

-- a walk leads from start states to start states
pub walk_start :
    (S : Setting) → Closed S → {s t u v : ℕ} {xs ys : List ℕ} → S.Start s → S.Start t → Walk S.M s t xs ys u v →
    S.Start u × S.Start v
walk_start S closed {s} {t} {xs = xs} {ys = ys} p q w = (
  rw w.end₁ at (end_start S closed s xs p w.equal.letters₁),
  rw w.end₂ at (end_start S closed t ys q w.equal.letters₂),
)

-- ---- one after the other, and again and again

pub walk_append :
    {M : Machine} {s t u v p q : ℕ} (xs ys : List ℕ) {xs' ys' : List ℕ} → Walk M s t xs ys u v → Walk M u v xs' ys' p q →
    Walk M s t (xs ++ xs') (ys ++ ys') p q
walk_append [] [] a b = rw (a.end₁, a.end₂) b
walk_append [] (y ∷ ys) a b = absurd (omega (arith, a.equal.length₂))
walk_append (x ∷ xs) [] a b = absurd (omega (arith, a.equal.length₂))
walk_append (x ∷ xs) (y ∷ ys) a b = walk_cons (equal_edge a.equal) (walk_append xs ys (walk_tail a) b)

pub walk_repeat : {M : Machine} {s t : ℕ} (k : ℕ) (xs ys : List ℕ) → Walk M s t xs ys s t → Walk M s t (repeat k xs) (repeat k ys) s t
walk_repeat zero xs ys a = walk_nil
walk_repeat (suc k) xs ys a = walk_append xs ys a (walk_repeat k xs ys a)

-- ---- cut in two

pub record Cut (M : Machine) (s t : ℕ) (xs ys xs' ys' : List ℕ) (p q : ℕ) : Type 0 where
  pub before : Walk M s t xs ys (end M s xs) (end M t ys)
  pub after : Walk M (end M s xs) (end M t ys) xs' ys' p q

pub walk_cut :
    {M : Machine} {s t p q : ℕ} (xs ys : List ℕ) {xs' ys' : List ℕ} → length xs ≡ length ys → Walk M s t (xs ++ xs') (ys ++ ys') p q →
    Cut M s t xs ys xs' ys' p q
walk_cut [] [] e w = record { before = walk_nil; after = w }
walk_cut [] (y ∷ ys) e w = absurd (omega arith)
walk_cut (x ∷ xs) [] e w = absurd (omega arith)
walk_cut (x ∷ xs) (y ∷ ys) e w =
    let c = walk_cut xs ys (omega arith) (walk_tail w) in
    record { before = walk_cons (equal_edge w.equal) c.before; after = c.after }
