-- Where an edge on conflicting letters joins levels of N × N letters, as it does where no window works, some pair is valid, with at most
-- 2 × N × N + 1 letters.
use mathlib.Core.Path.{◌≡◌, refl, ap}
use mathlib.Core.List.{List, [], ◌∷◌}
use Prim.Native.Nat.{ℕ, zero, suc, ◌+◌, ◌*◌, ◌-◌, ◌≤◌, ◌<◌}
use native.Mathlib.Omega.{arith}
use lib.ListN.{get_or, take}
use lib.Seq.{take_all}
use Rattle.mealy.specs.Machine.{Machine, end}
use Rattle.mealy.specs.Setting.{Setting, Closed, Bounded}
use Rattle.mealy.specs.Window.{EqualOutputs, Works}
use Rattle.mealy.specs.Product.{Edge, back, forward, Level, ConflictEdge}
use Rattle.mealy.specs.LoopedPair.{LoopedPair, letters, Valid}
use Rattle.mealy.proofs.RunParts.{letters_take, end_start}
use Rattle.mealy.proofs.Edges.{equal_edge, equal_tail}
use Rattle.mealy.proofs.Runs.{back→runs, forward→runs}
use Rattle.mealy.proofs.Windows.{unambiguous→works}
use Rattle.mealy.proofs.Decisions.{dec_ambiguous}
use Rattle.first_pair.specs.Reach.{Reach, At, Cycle, SomeConflictInto}
use Rattle.first_pair.proofs.Reaching.{edge_into, reach_end}
use Rattle.first_pair.proofs.Making.{possible_valid}
use Rattle.first_pair.proofs.Shortening.{twice}

-- A walk of n letters from (s, t) to (u, v) comes twice to the pair (x, y) of start states: m letters lead to it, c back to it, and k on.
pub record Meeting (S : Setting) (n s t u v : ℕ) : Type 0 where
  pub x : ℕ
  pub y : ℕ
  pub m : ℕ
  pub c : ℕ
  pub k : ℕ
  pub all : m + c + k ≡ n
  pub start₁ : S.Start x
  pub start₂ : S.Start y
  pub before : Reach S.M (At x y) m s t
  pub cycle : Cycle S.M c x y
  pub after : Reach S.M (At u v) k x y

-- ---- two runs with equal outputs, place by place

run_edge :
    (M : Machine) (n a s t : ℕ) (xs ys : List ℕ) → a < n → EqualOutputs M n s t xs ys →
    Edge M (end M s (take a xs)) (end M t (take a ys)) (get_or xs a 0) (get_or ys a 0) (end M s (take (suc a) xs)) (end M t (take (suc a) ys))
run_edge M zero a s t xs ys l w = absurd (omega arith)
run_edge M (suc n) a s t [] ys l w = absurd (omega arith)
run_edge M (suc n) a s t (x ∷ xs) [] l w = absurd (omega arith)
run_edge M (suc n) zero s t (x ∷ xs) (y ∷ ys) l w = equal_edge w
run_edge M (suc n) (suc a) s t (x ∷ xs) (y ∷ ys) l w = run_edge M n a _ _ xs ys (omega arith) (equal_tail w)

module _ (S : Setting) (closed : Closed S) (bounded : Bounded S) where
  open S use {M, Start}

  abbrev n : ℕ
  n = M.states * M.states

  module _ (s t : ℕ) (xs ys : List ℕ) (start₁ : Start s) (start₂ : Start t) (w : EqualOutputs M n s t xs ys) where
    abbrev σ : ℕ → ℕ
    σ a = end M s (take a xs)

    abbrev τ : ℕ → ℕ
    τ a = end M t (take a ys)

    segment : (k a b : ℕ) → a + k ≡ b → b ≤ n → Reach M (At (σ b) (τ b)) k (σ a) (τ a)
    segment zero a b e l = let f : a ≡ b = omega arith in (ap σ f, ap τ f)
    segment (suc k) a b e l =
        record {
          s = σ (suc a);
          t = τ (suc a);
          i = _;
          j = _;
          step = run_edge M n a s t xs ys (omega arith) w;
          within = segment k (suc a) b (omega arith) l;
        }

    starts : (a : ℕ) → Start (σ a) × Start (τ a)
    starts a = (
      end_start S closed s (take a xs) start₁ (letters_take _ a xs w.letters₁),
      end_start S closed t (take a ys) start₂ (letters_take _ a ys w.letters₂),
    )

    meeting_at : (i j : ℕ) → i < j → j ≤ n → σ i ≡ σ j → τ i ≡ τ j → Meeting S n s t (end M s xs) (end M t ys)
    meeting_at i j l h e f =
        let g₁ : σ n ≡ end M s xs = ap (end M s) (take_all n xs (omega arith)) in
        let g₂ : τ n ≡ end M t ys = ap (end M t) (take_all n ys (omega arith)) in
        record {
          x = σ i;
          y = τ i;
          m = i;
          c = j - i;
          k = n - j;
          all = omega arith;
          start₁ = (starts i).0;
          start₂ = (starts i).1;
          before = segment i 0 i (omega arith) (omega arith);
          cycle = record { letter = omega arith; closed = rw (← e, ← f) at (segment (j - i) i j (omega arith) h) };
          after = rw (← e, ← f, g₁, g₂) at (segment (n - j) j n (omega arith) (omega arith));
        }

    pub meeting : Meeting S n s t (end M s xs) (end M t ys)
    meeting =
        let r = twice M M.states n σ τ segment (λ a l. (bounded _ (starts a).0, bounded _ (starts a).1)) (λ a. a) (λ a l. l) in
        meeting_at r.i r.j r.less r.most r.same₁ r.same₂

  -- ---- a valid pair

  meetings_valid :
      (s t i j u v s' t' u' v' : ℕ) → Edge M s t i j u v → S.Conflict i j → Meeting S n s' t' s t → Meeting S n u v u' v' →
      (q : LoopedPair) × Valid S q × (letters q ≤ 2 * n + 1)
  meetings_valid s t i j u v s' t' u' v' e d b f =
      let q = possible_valid S b.x b.y b.c b.k f.m f.c (b.c + b.k + 1 + f.m + f.c) refl b.start₁ b.start₂ b.cycle
      (reach_end M (SomeConflictInto S (Reach M (Cycle M f.c) f.m)) b.k b.x b.y s t b.after
      (record {
        i = i;
        j = j;
        edge = record { conflict = d; into = edge_into e (reach_end M (Cycle M f.c) f.m u v f.x f.y f.before f.cycle) };
      })) in
      (q.pair, q.valid, omega (arith, q.all, b.all, f.all))

  pub endless_valid : ConflictEdge S (Level S back n) (Level S forward n) → (q : LoopedPair) × Valid S q × (letters q ≤ 2 * n + 1)
  endless_valid c =
      let b = back→runs S n c.s c.t c.from in
      let f = forward→runs S n c.u c.v c.to in
      meetings_valid c.s c.t c.i c.j c.u c.v _ _ _ _ c.edge c.conflict
      (rw (b.end₁, b.end₂) at (meeting b.s b.t b.xs b.ys b.start₁ b.start₂ b.equal))
      (meeting c.u c.v f.xs f.ys f.start₁ f.start₂ f.equal)

  -- where no window works there is such an edge
  module _ (decide_start : (s : ℕ) → Dec (Start s)) (decide_conflict : (i j : ℕ) → Dec (S.Conflict i j)) where
    pub none_valid : ((b a : ℕ) → Works S b a → ⊥) → (q : LoopedPair) × Valid S q × (letters q ≤ 2 * n + 1)
    none_valid none = elim (dec_ambiguous S decide_start bounded closed decide_conflict n n) [
      | yes c ↦ endless_valid c
      | no c ↦ absurd (none n n (unambiguous→works S closed n n c))
    ]
