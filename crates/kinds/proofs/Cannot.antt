-- A window works exactly when it leaves no two letters; "cannot" stands only for coders where every window leaves two kinds.
use mathlib.Core.Logic.{◌↔◌}
use mathlib.Core.List.{◌∷◌}
use Prim.Native.Nat.{ℕ, suc, ◌+◌}
use native.Mathlib.Omega.{arith}
use Rattle.mealy.specs.Setting.{Setting, Closed, Bounded}
use Rattle.mealy.specs.Window.{Works}
use Rattle.mealy.proofs.Edges.{equal_cons}
use Rattle.mealy.proofs.Runs.{prefix, forward→runs}
use Rattle.mealy.specs.Product.{Ambiguous}
use Rattle.mealy.proofs.Windows.{unambiguous→works}
use Rattle.mealy.proofs.Decisions.{dec_ambiguous}
use Rattle.kinds.specs.Kinds.{tell_kinds, Cannot, Leaves}
use Rattle.kinds.proofs.CarriedKinds.{dec_kinds}

pub ambiguous→leaves : (S : Setting) (b a : ℕ) → Ambiguous S b a → Leaves S b a
ambiguous→leaves S b a c =
    let r = forward→runs S a _ _ c.to in
    let p =
    prefix S b (suc a) (b + 1 + a) c.s c.t (c.i ∷ r.xs) (c.j ∷ r.ys) (omega arith) c.from
    (equal_cons c.edge r.equal) in
    record {
      s = p.s;
      t = p.t;
      xs = p.xs';
      ys = p.ys';
      start₁ = p.start₁;
      start₂ = p.start₂;
      equal = p.equal;
      conflict = rw (p.place₁ 0 b (omega arith), p.place₂ 0 b (omega arith)) c.conflict;
    }

pub leaves→fails : (S : Setting) (b a : ℕ) → Leaves S b a → Works S b a → ⊥
leaves→fails S b a l f = f l.s l.t l.xs l.ys l.start₁ l.start₂ l.equal l.conflict

module _ (S : Setting) (closed : Closed S) (decide_start : (s : ℕ) → Dec (S.Start s)) (bounded : Bounded S) where
  pub fails→leaves : ((i j : ℕ) → Dec (S.Conflict i j)) → (b a : ℕ) → (Works S b a → ⊥) → Leaves S b a
  fails→leaves d b a f = elim (dec_ambiguous S decide_start bounded closed d b a) [
    | yes c ↦ ambiguous→leaves S b a c
    | no c ↦ absurd (f (unambiguous→works S closed b a c))
  ]

pub cannot↔leaves :
    (S : Setting) → Closed S → ((s : ℕ) → Dec (S.Start s)) → Bounded S → (kind : ℕ → ℕ) →
    Cannot S kind ↔ ((b a : ℕ) → Leaves (tell_kinds S kind) b a)
cannot↔leaves S closed decide_start bounded kind = (
  (λ f b a. fails→leaves (tell_kinds S kind) closed decide_start bounded (dec_kinds kind) b a (f b a)),
  λ f b a. leaves→fails (tell_kinds S kind) b a (f b a),
)
