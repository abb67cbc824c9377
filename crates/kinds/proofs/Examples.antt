-- The definitions on coders of one state, whose output is a function of the letter alone.
--   outputs 0 0 1, kinds 0 0 1: kinds are told by the window 0 0; kind 0 is not carried, kinds 1 and 2 are (2 is unused).
--     Received 0 is kind 0, received 1 is letter 2, received 2 is none.
--   outputs 0 0 1, kinds 0 1 1: cannot. Received 0 is several.
use mathlib.Core.Path.{◌≡◌, refl, sym, ◌∙◌}
use mathlib.Core.Logic.{◌≢◌, inl, inr}
use mathlib.Core.List.{List, [], ◌∷◌}
use Prim.Native.Nat.{ℕ, zero, suc, ◌<◌}
use native.Mathlib.Omega.{arith}
use lib.ListN.{length, get_or}
use lib.Dec.{lit<}
use Rattle.mealy.specs.Machine.{Machine, outs, Letters, Total}
use Rattle.mealy.specs.Setting.{any_state}
use Rattle.mealy.specs.Window.{Works}
use Rattle.mealy.specs.Product.{back, forward, Settled}
use Rattle.mealy.specs.Answer.{Fits}
use Rattle.mealy.proofs.Windows.{unambiguous→works}
use Rattle.kinds.specs.Kinds.{KindsBelow, DifferentKinds, DifferentWithin, telling, tell_carried, Carried, Cannot, Found}
use Rattle.kinds.specs.KindsAnswer.{letter, kind_only, several, none, KindsAnswers}
use Rattle.kinds.proofs.Telling.{carried→one, unused_carried}
use Rattle.kinds.proofs.CarriedKinds.{edge→none}
use Rattle.mealy.specs.Order.{LeastLookahead}

abbrev output : ℕ → ℕ
output i = get_or (0 ∷ 0 ∷ 1 ∷ []) i 0

abbrev M : Machine
M = record { states = 1; inputs = 3; next = λ s i. 0; out = λ s i. output i }

total : Total M
total s i p l = lit< tt

settled_back : Settled (any_state M) back 0
settled_back u v h = (
  h.0,
  h.1,
  record {
    s = 0;
    t = 0;
    i = 0;
    j = 0;
    step = record { below₁ = lit< tt; below₂ = lit< tt; output = refl; to₁ = omega arith; to₂ = omega arith };
    within = (lit< tt, lit< tt);
  },
)

settled_forward : Settled (any_state M) forward 0
settled_forward u v h = (
  h.0,
  h.1,
  record {
    s = 0;
    t = 0;
    i = 0;
    j = 0;
    step = record { below₁ = lit< tt; below₂ = lit< tt; output = refl; to₁ = refl; to₂ = refl };
    within = (lit< tt, lit< tt);
  },
)

-- the edge on the letters 0 and 1, which have the same output
no_window : (D : ℕ → ℕ → Type 0) → D 0 1 → (b a : ℕ) → Works (telling (any_state M) D) b a → ⊥
no_window D d = edge→none (any_state M) total 0 0 settled_back settled_forward D (record {
  s = 0;
  t = 0;
  i = 0;
  j = 1;
  u = 0;
  v = 0;
  from = (lit< tt, lit< tt);
  edge = record { below₁ = lit< tt; below₂ = lit< tt; output = refl; to₁ = refl; to₂ = refl };
  conflict = d;
  to = (lit< tt, lit< tt);
})

fits : (x : ℕ) → x < 3 → Fits (any_state M) (output x ∷ []) 0 x
fits x l = record { s = 0; xs = x ∷ []; start = lit< tt; letters = (l, tt); outputs = refl; inside = lit< tt; letter = refl }

reads : (o x : ℕ) → Fits (any_state M) (o ∷ []) 0 x → (output x ≡ o) × (x < 3)
reads o x f = go f.s f.xs f.letters f.outputs f.inside f.letter
  where
    go : (s : ℕ) (xs : List ℕ) → Letters 3 xs → outs M s xs ≡ o ∷ [] → 0 < length xs → get_or xs 0 0 ≡ x → (output x ≡ o) × (x < 3)
    go s [] q e l f = absurd (omega arith)
    go s (y ∷ ys) q e l f = let h : output y ≡ o = cc in rw (← f) (h, q.0)

-- ---- kinds 0 0 1: the kind of a letter is its output

abbrev kind : ℕ → ℕ
kind i = output i

kinds_below : KindsBelow 3 kind
kinds_below zero l = lit< tt
kinds_below (suc zero) l = lit< tt
kinds_below (suc (suc zero)) l = lit< tt
kinds_below (suc (suc (suc i))) l = absurd (omega arith)

-- the one letter that does not have kind 0
other : (i : ℕ) → i < 3 → kind i ≢ 0 → i ≡ 2
other zero l n = absurd (n refl)
other (suc zero) l n = absurd (n refl)
other (suc (suc zero)) l n = refl
other (suc (suc (suc i))) l n = absurd (omega arith)

-- the carried kinds
abbrev C : ℕ → Type 0
C κ = κ ≢ 0

works : Works (tell_carried (any_state M) kind C) 0 0
works = unambiguous→works (tell_carried (any_state M) kind C) total 0 0 (λ c. elim c.conflict [
  | inl d ↦ d c.edge.output
  | inr d ↦ d.2 (other c.i c.edge.below₁ d.1 ∙ sym (other c.j c.edge.below₂ (rw d.0 at d.1)))
])

not_carried : Carried (any_state M) kind 0 → ⊥
not_carried w = no_window (DifferentWithin kind 0) (refl, refl, omega arith) w.0 w.1 w.2

pub found : Found LeastLookahead (any_state M) kind C 0 0
found = record {
  carried = λ κ l. ((λ n. (0, 0, carried→one (any_state M) kind C κ n 0 0 works)), λ w e. not_carried (rw e at w));
  least = record { works = works; least = λ b a f. record { first = omega arith; second = λ e. omega arith } };
}

-- kind 2 is no letter's
pub unused : Carried (any_state M) kind 2
unused = unused_carried (any_state M) kind 2 (λ i l e. let z = kinds_unused i l in omega arith)
  where
    kinds_unused : (i : ℕ) → i < 3 → kind i < 2
    kinds_unused zero l = lit< tt
    kinds_unused (suc zero) l = lit< tt
    kinds_unused (suc (suc zero)) l = lit< tt
    kinds_unused (suc (suc (suc i))) l = absurd (omega arith)

pub only_kind : KindsAnswers (any_state M) kind (0 ∷ []) 0 (kind_only 0)
only_kind = record {
  two = record { x = 0; y = 1; fits₁ = fits 0 (lit< tt); fits₂ = fits 1 (lit< tt); differ = omega arith };
  shared = λ y f. (reads 0 y f).0;
}

pub one_letter : KindsAnswers (any_state M) kind (1 ∷ []) 0 (letter 2)
one_letter = record {
  fits = fits 2 (lit< tt);
  alone = λ y f. let z = reads 1 y f in other y z.1 (λ e. let q : ◌≡◌ {A = ℕ} 0 1 = sym e ∙ z.0 in omega arith);
}

pub no_letter : KindsAnswers (any_state M) kind (2 ∷ []) 0 none
no_letter x f = let z = reads 2 x f in go x z.1 z.0
  where
    go : (x : ℕ) → x < 3 → output x ≡ 2 → ⊥
    go zero l e = omega arith
    go (suc zero) l e = omega arith
    go (suc (suc zero)) l e = omega arith
    go (suc (suc (suc i))) l e = omega arith

-- ---- kinds 0 1 1

abbrev kind' : ℕ → ℕ
kind' i = get_or (0 ∷ 1 ∷ 1 ∷ []) i 0

pub cannot : Cannot (any_state M) kind'
cannot = no_window (DifferentKinds kind') (λ e. omega arith)

pub two_kinds : KindsAnswers (any_state M) kind' (0 ∷ []) 0 several
two_kinds = record { x = 0; y = 1; fits₁ = fits 0 (lit< tt); fits₂ = fits 1 (lit< tt); differ = λ e. omega arith }
