-- A window works exactly when no conflicting edge stands between its level sets; larger windows; when no window works.
use mathlib.Core.Path.{◌≡◌, refl}
use mathlib.Core.Logic.{◌↔◌}
use mathlib.Core.List.{List, [], ◌∷◌}
use Prim.Native.Nat.{ℕ, zero, suc, ◌+◌, ◌≤◌}
use native.Mathlib.Omega.{arith}
use lib.ListN.{get_or}
use Rattle.mealy.specs.Setting.{Setting, Closed}
use Rattle.mealy.specs.Window.{EqualOutputs, Works}
use Rattle.mealy.specs.Product.{back, forward, Level, Settled, ConflictEdge, Ambiguous}
use Rattle.mealy.proofs.Edges.{equal_cons, equal_edge, equal_tail}
use Rattle.mealy.proofs.Levels.{level_down, every_level}
use Rattle.mealy.proofs.Runs.{prefix, forward→runs, edge_start, back_edge, forward_along}

pub conflict_map :
    {S : Setting} {P Q P' Q' : ℕ → ℕ → Type 0} → ((s t : ℕ) → P s t → P' s t) → ((u v : ℕ) → Q u v → Q' u v) → ConflictEdge S P Q →
    ConflictEdge S P' Q'
conflict_map f g c =
    record {
      s = c.s;
      t = c.t;
      i = c.i;
      j = c.j;
      u = c.u;
      v = c.v;
      from = f _ _ c.from;
      edge = c.edge;
      conflict = c.conflict;
      to = g _ _ c.to;
    }

module _ (S : Setting) where
  open S use {M, Start, Conflict}

  pub works→unambiguous : (b a : ℕ) → Works S b a → Ambiguous S b a → ⊥
  works→unambiguous b a f c =
      let r = forward→runs S a _ _ c.to in
      let p = prefix S b (suc a) (b + 1 + a) c.s c.t (c.i ∷ r.xs) (c.j ∷ r.ys) (omega arith) c.from (equal_cons c.edge r.equal) in
      f p.s p.t p.xs' p.ys' p.start₁ p.start₂ p.equal
      (rw (p.place₁ 0 b (omega arith), p.place₂ 0 b (omega arith)) c.conflict)

module _ (S : Setting) (closed : Closed S) where
  open S use {M, Start, Conflict}

  -- two runs with equal outputs and conflicting letters at place b are split there
  split : (b a k n N s t : ℕ) (xs ys : List ℕ) → n ≡ b + 1 + a → k + b ≡ N → Start s → Start t → Level S back k s t → EqualOutputs M n s t xs ys
      → Conflict (get_or xs b 0) (get_or ys b 0) → ConflictEdge S (Level S back N) (Level S forward a)
  split b a k n N s t [] ys l e p q h w c = absurd (omega arith)
  split b a k n N s t (x ∷ xs) [] l e p q h w c = absurd (omega arith)
  split b a k zero N s t (x ∷ xs) (y ∷ ys) l e p q h w c = absurd (omega arith)
  split zero a k (suc n) N s t (x ∷ xs) (y ∷ ys) l e p q h w c =
      let r : k ≡ N = omega arith in
      let o : n ≡ a = omega arith in
      let z = edge_start S closed (equal_edge w) p q in
      record {
        s = s;
        t = t;
        i = x;
        j = y;
        u = _;
        v = _;
        from = rw r at h;
        edge = equal_edge w;
        conflict = c;
        to = forward_along S closed a _ _ xs ys z.0 z.1 (rw o at (equal_tail w));
      }
  split (suc b) a k (suc n) N s t (x ∷ xs) (y ∷ ys) l e p q h w c =
      let z = edge_start S closed (equal_edge w) p q in
      split b a (suc k) n N _ _ xs ys (omega arith) (omega arith) z.0 z.1 (back_edge S closed k (equal_edge w) p q h) (equal_tail w) c

  pub unambiguous→works : (b a : ℕ) → (Ambiguous S b a → ⊥) → Works S b a
  unambiguous→works b a f s t xs ys p q w c = f (split b a 0 (b + 1 + a) b s t xs ys refl (omega arith) p q (p, q) w c)

  pub works↔unambiguous : (b a : ℕ) → Works S b a ↔ (Ambiguous S b a → ⊥)
  works↔unambiguous b a = (works→unambiguous S b a, unambiguous→works b a)

  -- ---- larger windows go on working

  pub works_larger : (b a b' a' : ℕ) → b ≤ b' → a ≤ a' → Works S b a → Works S b' a'
  works_larger b a b' a' l m f =
      unambiguous→works b' a' (λ c.
      works→unambiguous S b a f (conflict_map (λ s t. level_down S back s t l) (λ u v. level_down S forward u v m) c))

  -- ---- settled levels

  -- lookahead past the level where the forward levels have settled helps no window
  pub works_settled : (L : ℕ) → Settled S forward L → (b a : ℕ) → Works S b a → Works S b L
  works_settled L settled b a f =
      unambiguous→works b L (λ c.
      works→unambiguous S b a f (conflict_map (λ s t h. h) (λ u v h. every_level S forward L settled u v h a) c))

  -- and letters past the level where the back levels have settled help none
  pub works_settled_back : (K : ℕ) → Settled S back K → (b a : ℕ) → Works S b a → Works S K a
  works_settled_back K settled b a f =
      unambiguous→works K a (λ c.
      works→unambiguous S b a f (conflict_map (λ s t h. every_level S back K settled s t h b) (λ u v h. h) c))

  -- a conflicting edge between settled levels: no window works, whatever its sides
  pub no_decoder : (K L : ℕ) → Settled S back K → Settled S forward L → Ambiguous S K L → (b a : ℕ) → Works S b a → ⊥
  no_decoder K L settled_k settled_l c b a f =
      works→unambiguous S b a f
      (conflict_map (λ s t h. every_level S back K settled_k s t h b) (λ u v h. every_level S forward L settled_l u v h a) c)
