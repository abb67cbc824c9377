-- What the level sets are of runs.
use mathlib.Core.Path.{◌≡◌, refl, ap, subst₂}
use mathlib.Core.Logic.{◌↔◌}
use mathlib.Core.List.{List, [], ◌∷◌}
use Prim.Native.Nat.{ℕ, zero, suc, ◌+◌}
use native.Mathlib.Omega.{arith}
use lib.ListN.{get_or}
use Rattle.mealy.specs.Machine.{end}
use Rattle.mealy.specs.Setting.{Setting, Closed}
use Rattle.mealy.specs.Window.{EqualOutputs}
use Rattle.mealy.specs.Product.{Edge, back, forward, Level}
use Rattle.mealy.proofs.Edges.{equal_nil, equal_cons, equal_edge, equal_tail}

-- two runs of k letters with equal outputs, from start states, end in u and v
pub record RunsTo (S : Setting) (k u v : ℕ) : Type 0 where
  pub s : ℕ
  pub t : ℕ
  pub xs : List ℕ
  pub ys : List ℕ
  pub start₁ : S.Start s
  pub start₂ : S.Start t
  pub equal : EqualOutputs S.M k s t xs ys
  pub end₁ : end S.M s xs ≡ u
  pub end₂ : end S.M t ys ≡ v

-- two runs of k letters with equal outputs start in s and t, which are start states
pub record RunsFrom (S : Setting) (k s t : ℕ) : Type 0 where
  pub xs : List ℕ
  pub ys : List ℕ
  pub start₁ : S.Start s
  pub start₂ : S.Start t
  pub equal : EqualOutputs S.M k s t xs ys

module _ (S : Setting) where
  open S use {M, Start}

  -- ---- from levels to runs

  pub forward→runs : (k s t : ℕ) → Level S forward k s t → RunsFrom S k s t
  forward→runs zero s t h = record { xs = []; ys = []; start₁ = h.0; start₂ = h.1; equal = equal_nil }
  forward→runs (suc k) s t h =
      let n = h.2 in
      let r = forward→runs k n.s n.t n.within in
      record { xs = n.i ∷ r.xs; ys = n.j ∷ r.ys; start₁ = h.0; start₂ = h.1; equal = equal_cons n.step r.equal }

  -- Two runs with equal outputs from a pair of back level k have k letters put before them: place m becomes place k + m, and
  -- the ends stay.
  pub record Prefixed (k N u v : ℕ) (xs ys : List ℕ) : Type 0 where
    pub s : ℕ
    pub t : ℕ
    pub xs' : List ℕ
    pub ys' : List ℕ
    pub start₁ : Start s
    pub start₂ : Start t
    pub equal : EqualOutputs M N s t xs' ys'
    pub end₁ : end M s xs' ≡ end M u xs
    pub end₂ : end M t ys' ≡ end M v ys
    pub place₁ : (m p : ℕ) → k + m ≡ p → get_or xs' p 0 ≡ get_or xs m 0
    pub place₂ : (m p : ℕ) → k + m ≡ p → get_or ys' p 0 ≡ get_or ys m 0

  pub prefix : (k n N u v : ℕ) (xs ys : List ℕ) → k + n ≡ N → Level S back k u v → EqualOutputs M n u v xs ys → Prefixed k N u v xs ys
  prefix zero n N u v xs ys e h w =
      let q : n ≡ N = omega arith in
      record {
        s = u;
        t = v;
        xs' = xs;
        ys' = ys;
        start₁ = h.0;
        start₂ = h.1;
        equal = rw q at w;
        end₁ = refl;
        end₂ = refl;
        place₁ = λ m p f. ap (λ z. get_or xs z 0) (omega arith);
        place₂ = λ m p f. ap (λ z. get_or ys z 0) (omega arith);
      }
  prefix (suc k) n N u v xs ys e h w =
      let b = h.2 in
      let r = prefix k (suc n) N b.s b.t (b.i ∷ xs) (b.j ∷ ys) (omega arith) b.within (equal_cons b.step w) in
      record {
        s = r.s;
        t = r.t;
        xs' = r.xs';
        ys' = r.ys';
        start₁ = r.start₁;
        start₂ = r.start₂;
        equal = r.equal;
        end₁ = cc (r.end₁, b.step.to₁);
        end₂ = cc (r.end₂, b.step.to₂);
        place₁ = λ m p f. r.place₁ (suc m) p (omega arith);
        place₂ = λ m p f. r.place₂ (suc m) p (omega arith);
      }

  pub back→runs : (k u v : ℕ) → Level S back k u v → RunsTo S k u v
  back→runs k u v h =
      let r = prefix k 0 k u v [] [] (omega arith) h equal_nil in
      record {
        s = r.s;
        t = r.t;
        xs = r.xs';
        ys = r.ys';
        start₁ = r.start₁;
        start₂ = r.start₂;
        equal = r.equal;
        end₁ = r.end₁;
        end₂ = r.end₂;
      }

module _ (S : Setting) (closed : Closed S) where
  open S use {M, Start}

  -- ---- from runs to levels

  pub edge_start : {s t i j u v : ℕ} → Edge M s t i j u v → Start s → Start t → Start u × Start v
  edge_start e p q = (rw e.to₁ at (closed _ _ p e.below₁), rw e.to₂ at (closed _ _ q e.below₂))

  -- one edge on from a pair of a back level
  pub back_edge : (k : ℕ) {s t i j u v : ℕ} → Edge M s t i j u v → Start s → Start t → Level S back k s t → Level S back (suc k) u v
  back_edge k {s} {t} {i} {j} e p q h =
      let z = edge_start e p q in
      (z.0, z.1, record { s = s; t = t; i = i; j = j; step = e; within = h })

  pub back_along :
      (k n N s t : ℕ) (xs ys : List ℕ) → k + n ≡ N → Start s → Start t → Level S back k s t → EqualOutputs M n s t xs ys →
      Level S back N (end M s xs) (end M t ys)
  back_along k n N s t [] [] e p q h w = let r : k ≡ N = omega arith in rw r at h
  back_along k n N s t [] (y ∷ ys) e p q h w = absurd (omega arith)
  back_along k n N s t (x ∷ xs) [] e p q h w = absurd (omega arith)
  back_along k zero N s t (x ∷ xs) (y ∷ ys) e p q h w = absurd (omega arith)
  back_along k (suc n) N s t (x ∷ xs) (y ∷ ys) e p q h w =
      let z = edge_start (equal_edge w) p q in
      back_along (suc k) n N _ _ xs ys (omega arith) z.0 z.1 (back_edge k (equal_edge w) p q h) (equal_tail w)

  pub forward_along : (n s t : ℕ) (xs ys : List ℕ) → Start s → Start t → EqualOutputs M n s t xs ys → Level S forward n s t
  forward_along zero s t xs ys p q w = (p, q)
  forward_along (suc n) s t [] ys p q w = absurd (omega arith)
  forward_along (suc n) s t (x ∷ xs) [] p q w = absurd (omega arith)
  forward_along (suc n) s t (x ∷ xs) (y ∷ ys) p q w =
      let z = edge_start (equal_edge w) p q in
      (p, q, record { s = _; t = _; i = x; j = y; step = equal_edge w; within = forward_along n _ _ xs ys z.0 z.1 (equal_tail w) })

  -- ---- both ways

  pub back↔runs : (k u v : ℕ) → Level S back k u v ↔ RunsTo S k u v
  back↔runs k u v = (
    back→runs S k u v,
    λ r. subst₂ (Level S back k) r.end₁ r.end₂
        (back_along 0 k k _ _ r.xs r.ys (omega arith) r.start₁ r.start₂ (r.start₁, r.start₂) r.equal),
  )

  pub forward↔runs : (k s t : ℕ) → Level S forward k s t ↔ RunsFrom S k s t
  forward↔runs k s t = (forward→runs S k s t, λ r. forward_along k s t r.xs r.ys r.start₁ r.start₂ r.equal)
