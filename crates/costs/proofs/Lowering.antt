-- Passes over a table of costs: what holds within a pass and after each, and that the costs are least where none falls.
use mathlib.Core.Path.{◌≡◌, refl, sym, ◌∙◌}
use mathlib.Core.Bool.{Bool, true, false, true≢false}
use mathlib.Core.List.{List}
use Prim.Native.Nat.{ℕ, zero, suc, ◌+◌, ◌*◌, ◌-◌, ◌≤◌, ◌<◌}
use native.Mathlib.Decide.{ℕ_discrete}
use native.Mathlib.Nat.{mul-zero, mul-suc}
use native.Mathlib.Omega.{arith}
use lib.ListN.{get_or, set, length-set}
use lib.Seq.{get_or-set_same, get_or-set_other}
use Rattle.mealy.specs.Machine.{Machine}
use Rattle.mealy.specs.Word.{Has}
use Rattle.mealy.specs.Image.{Image}
use Rattle.mealy.proofs.Members.{has_below}
use Rattle.mealy.proofs.Sums.{sum, sum_le}
use Rattle.first_pair.specs.Reach.{Reach}
use Rattle.first_pair.specs.Cost.{CostTable, Capped, Cost, Seeds, entry, no_cost}
use Rattle.first_pair.specs.Successors.{word_at, SuccessorsOf}
use Rattle.costs.specs.Lowering.{RowCost, NextCost, PassAsked, CostsIn, PassDone, LoweringAsked, LoweringDone}
use Rattle.first_pair.proofs.Capping.{capped_map}

-- ---- the least cost of a pair that follows

pub row_cost : {t : List ℕ} {x row cap r : ℕ} → Capped (Image (λ y n. entry t x y ≡ n) (Has row)) cap r → Capped (RowCost t x row) cap r
row_cost a =
    capped_map (λ n i. record { y = i.s; within = i.from; is = i.step }) (λ n c. record { s = c.y; from = c.within; step = c.is }) a

-- over the rows of the states below n
pub next_cost :
    {words t : List ℕ} {n a cap r : ℕ} → Capped (Image (λ x. RowCost t x (word_at words a x)) (λ x. x < n)) cap r →
    Capped (NextCost words t n a) cap r
next_cost h =
    capped_map (λ n i. record { x = i.s; below = i.from; row = i.step }) (λ n c. record { s = c.x; from = c.below; step = c.row }) h

-- ---- within a pass

sum_less : (n : ℕ) (f g : ℕ → ℕ) (a : ℕ) → a < n → ((i : ℕ) → f i ≤ g i) → f a < g a → sum n f < sum n g
sum_less zero f g a l h s = absurd (omega arith)
sum_less (suc n) f g a l h s =
    elim (ℕ_discrete a n) [
      | yes q ↦ (let s' : f n < g n = rw q at s in omega (arith, sum_le n f g (λ i l. h i)))
      | no q ↦ omega (arith, h n, sum_less n f g a (omega arith) h s)
    ]

-- the pairs from a on are done
pub record Passing (words : List ℕ) (states step low : ℕ) (t₀ t : List ℕ) (fell : Bool) (a : ℕ) : Type 0 where
  pub below : a ≤ 16 * states
  pub table : CostTable t
  pub low_least : (k : ℕ) → k < 256 → low ≤ get_or t k 0
  pub costs :
      (M : Machine) (s : List ℕ) → SuccessorsOf M words → M.states ≡ states → CostsIn states (Cost M step (Seeds s)) t₀ →
      CostsIn states (Cost M step (Seeds s)) t
  pub falls : (k : ℕ) → get_or t k 0 ≤ get_or t₀ k 0
  pub still : fell ≡ false → (b n : ℕ) → a ≤ b → b < 16 * states → NextCost words t states b n → get_or t b 0 ≤ n + step
  pub less : fell ≡ true → sum 256 (λ k. get_or t k 0) < sum 256 (λ k. get_or t₀ k 0)

-- the cost of one letter in front of a pair that follows
one_more :
    {words : List ℕ} {M : Machine} (s t : List ℕ) {states step m u v : ℕ} → SuccessorsOf M words → M.states ≡ states →
    u < states → v < states → m < no_cost → CostsIn states (Cost M step (Seeds s)) t → NextCost words t states (16 * u + v) m →
    Cost M step (Seeds s) (m + step) u v
one_more {words} {M} s t {states} {step} {m} {u} {v} w states_are p q l h c =
    let b = c.below in
    let few = w.few in
    let p' : u < M.states = omega arith in
    let q' : v < M.states = omega arith in
    let j = w.only u v c.x c.row.y p' q' (omega arith) c.row.within in
    let x_below = w.total u j.i p' j.edge.below₁ in
    let y_below = w.total v j.j q' j.edge.below₂ in
    let e = c.row.is in
    let y = h c.x c.row.y (omega (arith, j.edge.to₁)) (omega (arith, j.edge.to₂)) (omega arith) in
    let z : Cost M step (Seeds s) m c.x c.row.y = rw e at y in
    record {
      k = suc z.k;
      n = z.n;
      all = omega (arith, z.all, mul-suc step z.k);
      reach = record { s = c.x; t = c.row.y; i = j.i; j = j.j; step = j.edge; within = z.reach };
    }

module _ {words : List ℕ} {states step low : ℕ} {t₀ : List ℕ} (asked : PassAsked words states step low t₀) where
  -- no pair that follows costs less than the lowest
  next_low :
      {t : List ℕ} {fell : Bool} {a : ℕ} → Passing words states step low t₀ t fell a → (b n : ℕ) → NextCost words t states b n → low ≤ n
  next_low p b n c =
      let l = c.below in
      let few = asked.few in
      let y = has_below c.row.y (asked.shape.bound (16 * b + c.x)) c.row.within in
      let e = c.row.is in
      omega (arith, p.low_least (16 * c.x + c.row.y) (omega arith))

  pub passing_none : Passing words states step low t₀ t₀ false (16 * states)
  passing_none =
      record {
        below = omega arith;
        table = asked.table;
        low_least = asked.low_least;
        costs = λ M s w e h. h;
        falls = λ k. omega arith;
        still = λ e b n l m c. absurd (omega arith);
        less = λ e. absurd (true≢false (sym e));
      }

  -- the cost of the pair a - 1 does not fall
  pub passing_kept :
      {t : List ℕ} {fell : Bool} {a : ℕ} → Passing words states step low t₀ t fell a → 0 < a →
      ((n : ℕ) → NextCost words t states (a - 1) n → get_or t (a - 1) 0 ≤ n + step) → Passing words states step low t₀ t fell (a - 1)
  passing_kept {t} {fell} {a} p l h =
      record {
        below = omega (arith, p.below);
        table = p.table;
        low_least = p.low_least;
        costs = p.costs;
        falls = p.falls;
        still = λ e b n m m' c. elim (ℕ_discrete b (a - 1)) [
          | yes q ↦ rw q (h n (rw q at c))
          | no q ↦ p.still e b n (omega arith) m' c
        ];
        less = p.less;
      }

  -- as it is at most a step above the lowest
  pub passing_low :
      {t : List ℕ} {fell : Bool} {a : ℕ} → Passing words states step low t₀ t fell a → 0 < a → get_or t (a - 1) 0 ≤ low + step →
      Passing words states step low t₀ t fell (a - 1)
  passing_low {a = a} p l m = passing_kept p l (λ n c. omega (arith, next_low p (a - 1) n c))

  -- as it is at most a step above those that follow it
  pub passing_high :
      {t : List ℕ} {fell : Bool} {a m : ℕ} → Passing words states step low t₀ t fell a → 0 < a →
      Capped (NextCost words t states (a - 1)) no_cost m → get_or t (a - 1) 0 ≤ m + step → Passing words states step low t₀ t fell (a - 1)
  passing_high p l h e = passing_kept p l (λ n c. omega (arith, h.least n c))

  -- it falls
  pub passing_fell :
      {t : List ℕ} {fell : Bool} {a m : ℕ} → Passing words states step low t₀ t fell a → 0 < a →
      Capped (NextCost words t states (a - 1)) no_cost m → m + step < get_or t (a - 1) 0 →
      Passing words states step low t₀ (set t (a - 1) (m + step)) true (a - 1)
  passing_fell {t} {fell} {a} {m} p l h f =
      record {
        below = omega (arith, p.below);
        table = record {
          size = length-set t (a - 1) (m + step) ∙ p.table.size;
          high = λ k. at k (λ x. x ≤ no_cost) (λ q. omega (arith, p.table.high (a - 1))) (p.table.high k);
        };
        low_least = λ k b. at k (λ x. low ≤ x) (λ q. omega (arith, next_low p (a - 1) m next)) (p.low_least k b);
        costs = λ M s w e c u v lu lv. at (16 * u + v) (λ x. x < no_cost → Cost M step (Seeds s) x u v)
            (λ q _. one_more s t w e lu lv ended (p.costs M s w e c) (rw q next))
            (p.costs M s w e c u v lu lv);
        falls = falls;
        still = λ e. absurd (true≢false e);
        less = λ e. sum_less 256 (λ k. get_or (set t (a - 1) (m + step)) k 0) (λ k. get_or t₀ k 0) (a - 1) inside falls
            (rw same (omega (arith, p.falls (a - 1))));
      }
    where
      inside : a - 1 < 256
      inside = omega (arith, p.below, asked.few)

      same : get_or (set t (a - 1) (m + step)) (a - 1) 0 ≡ m + step
      same = get_or-set_same t (a - 1) (m + step) 0 (rw p.table.size inside)

      -- what the new cost has, and each of the others
      at : (k : ℕ) (P : ℕ → Type 0) → (k ≡ a - 1 → P (m + step)) → P (get_or t k 0) → P (get_or (set t (a - 1) (m + step)) k 0)
      at k P x y = elim (ℕ_discrete k (a - 1)) [
        | yes q ↦ rw q (rw same (x q))
        | no q ↦ rw (get_or-set_other t (a - 1) k (m + step) 0 q) y
      ]

      falls : (k : ℕ) → get_or (set t (a - 1) (m + step)) k 0 ≤ get_or t₀ k 0
      falls k = at k (λ x. x ≤ get_or t₀ k 0) (λ q. rw q (omega (arith, p.falls (a - 1)))) (p.falls k)

      ended : m < no_cost
      ended = omega (arith, p.table.high (a - 1))

      next : NextCost words t states (a - 1) m
      next = h.holds ended

  pub passing_all :
      {t : List ℕ} {fell : Bool} {a : ℕ} → Passing words states step low t₀ t fell a → a ≡ 0 → PassDone words states step low t₀ t fell
  passing_all p e =
      record {
        table = p.table;
        low_least = p.low_least;
        costs = p.costs;
        falls = p.falls;
        still = λ f b n l c. p.still f b n (omega arith) l c;
        less = p.less;
      }

-- ---- passes until none falls

-- what holds of the table t after passes, the first over t₀
pub record LoweringSoFar (words : List ℕ) (states step low : ℕ) (t₀ t : List ℕ) : Type 0 where
  pub low_high : low ≤ no_cost
  pub table : CostTable t
  pub low_least : (k : ℕ) → k < 256 → low ≤ get_or t k 0
  pub costs : (M : Machine) → SuccessorsOf M words → M.states ≡ states → CostsIn states (Cost M step (Seeds t₀)) t
  pub falls : (k : ℕ) → get_or t k 0 ≤ get_or t₀ k 0

-- each cost is that of a walk of no letters
start : (M : Machine) (step : ℕ) (t : List ℕ) (n : ℕ) → CostsIn n (Cost M step (Seeds t)) t
start M step t n u v lu lv l = record { k = 0; n = entry t u v; all = omega (arith, mul-zero step); reach = (refl, l) }

module _ {words : List ℕ} {states step : ℕ} {t₀ : List ℕ} (asked : LoweringAsked words states step t₀) where
  pub lowering_none :
      {low : ℕ} → low ≤ no_cost → ((k : ℕ) → k < 256 → low ≤ get_or t₀ k 0) → LoweringSoFar words states step low t₀ t₀
  lowering_none l h =
      record {
        low_high = l;
        table = asked.table;
        low_least = h;
        costs = λ M w e. start M step t₀ states;
        falls = λ k. omega arith;
      }

  pub lowering_asked : {low : ℕ} {t : List ℕ} → LoweringSoFar words states step low t₀ t → PassAsked words states step low t
  lowering_asked s =
      record {
        shape = asked.shape;
        few = asked.few;
        step_high = asked.step_high;
        low_high = s.low_high;
        table = s.table;
        low_least = s.low_least;
      }

  pub lowering_more :
      {low : ℕ} {t t' : List ℕ} {fell : Bool} → LoweringSoFar words states step low t₀ t → PassDone words states step low t t' fell →
      LoweringSoFar words states step low t₀ t'
  lowering_more s p =
      record {
        low_high = s.low_high;
        table = p.table;
        low_least = p.low_least;
        costs = λ M w e. p.costs M t₀ w e (s.costs M w e);
        falls = λ k. omega (arith, s.falls k, p.falls k);
      }

  -- in the last pass none falls
  pub lowering_done :
      {low : ℕ} {t t' : List ℕ} → LoweringSoFar words states step low t₀ t → PassDone words states step low t t' false →
      LoweringDone words states step t₀ t'
  lowering_done {low} {t} {t'} s p M w e =
      record {
        size = p.table.size;
        at = λ u v lu lv. record {
          high = p.table.high (16 * u + v);
          holds = p.costs M t₀ w e (s.costs M w e) u v lu lv;
          least = λ n c. omega (arith, c.all, least c.k c.n u v (omega arith) (omega arith) c.reach);
        };
      }
    where
      -- no walk costs less, by its letters
      least : (k n u v : ℕ) → u < M.states → v < M.states → Reach M (Seeds t₀ n) k u v → entry t' u v ≤ step * k + n
      least zero n u v lu lv r = omega (arith, mul-zero step, r.0, s.falls (16 * u + v), p.falls (16 * u + v))
      least (suc k) n u v lu lv r =
          let x_below : r.s < M.states = rw r.step.to₁ at (w.total u r.i lu r.step.below₁) in
          let y_below : r.t < M.states = rw r.step.to₂ at (w.total v r.j lv r.step.below₂) in
          let has = w.has u v r.s r.t lu lv (record { i = r.i; j = r.j; edge = r.step }) in
          let few = w.few in
          let below = least k n r.s r.t x_below y_below r.within in
          let c : NextCost words t' states (16 * u + v) (entry t' r.s r.t) =
          record { x = r.s; below = omega arith; row = record { y = r.t; within = has; is = refl } } in
          let one = p.still refl (16 * u + v) _ (omega arith) c in
          omega (arith, mul-suc step k)
