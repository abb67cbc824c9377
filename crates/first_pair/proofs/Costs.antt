-- Least costs in a table, and the lowest letters along it.
use mathlib.Core.Path.{refl, ◌∙◌}
use mathlib.Core.List.{List}
use Prim.Native.Nat.{ℕ, zero, suc, ◌+◌, ◌*◌, ◌≤◌, ◌<◌}
use native.Mathlib.Omega.{arith}
use native.Mathlib.Nat.{mul-suc, mul-zero}
use native.Mathlib.Decide.{dec_lt, ℕ_discrete}
use lib.ListN.{get_or, replicate, set, length-set}
use lib.Seq.{get_or-set_same, get_or-set_other}
use Rattle.mealy.specs.Machine.{Machine, Total}
use Rattle.mealy.specs.Product.{Edge}
use Rattle.first_pair.specs.Reach.{Pairs, Reach, Into}
use Rattle.first_pair.specs.Lowest.{BytesLead, none, letter, Lowest, there, lowest}
use Rattle.first_pair.specs.Cost.{CostTable, Cost, LeastCosts, Seeds, CostOf, entry, no_cost}
use Rattle.first_pair.proofs.Reaching.{neighbour_into, leads_reach}
use Rattle.first_pair.proofs.Making.{reach_leads}

-- ---- tables

replicate_high : (n k : ℕ) → get_or {A = ℕ} (replicate n no_cost) k 0 ≤ no_cost
replicate_high zero k = omega arith
replicate_high (suc n) zero = omega arith
replicate_high (suc n) (suc k) = replicate_high n k

pub table_endless : CostTable (replicate 256 no_cost)
table_endless = record { size = refl; high = replicate_high 256 }

pub table_set : {t : List ℕ} {a n : ℕ} → CostTable t → a < 256 → n ≤ no_cost → CostTable (set t a n)
table_set {t} {a} {n} w l m =
    let e = w.size in
    record {
      size = length-set t a n ∙ w.size;
      high = λ k. elim (ℕ_discrete k a) [
        | yes q ↦ rw (q, get_or-set_same t a n 0 (omega arith)) m
        | no q ↦ rw (get_or-set_other t a k n 0 q) (w.high k)
      ];
    }

-- ---- walks stay among the states

module _ (M : Machine) (total : Total M) where
  abbrev N : ℕ
  N = M.states

  pub leads_below : {k u v x y : ℕ} {bytes : List ℕ} → BytesLead M k u v bytes x y → u < N → v < N → (x < N) × (y < N)
  leads_below none l m = (l, m)
  leads_below (letter e r) l m = leads_below r (total _ _ l e.below₁) (total _ _ m e.below₂)

  -- ---- from the costs in a table to the costs that they are

  module _ (step : ℕ) (A : ℕ → Pairs) (t t' : List ℕ) (a : LeastCosts N A t) (b : LeastCosts N (Cost M step (Seeds t)) t') where
    seeds_cost : (m u v : ℕ) → u < N → v < N → Cost M step (Seeds t) m u v → Cost M step A m u v
    seeds_cost m u v l₁ l₂ c =
        let w = reach_leads M (Seeds t c.n) c.k u v c.reach in
        let z = leads_below w.leads l₁ l₂ in
        let e = w.within.0 in
        let s : entry t w.x w.y < no_cost = omega (arith, w.within.1) in
        record {
          k = c.k;
          n = c.n;
          all = c.all;
          reach = leads_reach (A c.n) w.leads (rw e at ((a.at w.x w.y z.0 z.1).holds s));
        }

    cost_seeds : (m u v : ℕ) → u < N → v < N → Cost M step A m u v → entry t' u v ≤ m
    cost_seeds m u v l₁ l₂ c =
        let w = reach_leads M (A c.n) c.k u v c.reach in
        let z = leads_below w.leads l₁ l₂ in
        let e = (a.at w.x w.y z.0 z.1).least c.n w.within in
        elim (dec_lt (entry t w.x w.y) no_cost) [
          | yes s ↦
              omega (
                arith,
                c.all,
                (b.at u v l₁ l₂).least (step * c.k + entry t w.x w.y) (record {
                  k = c.k;
                  n = entry t w.x w.y;
                  all = refl;
                  reach = leads_reach (Seeds t (entry t w.x w.y)) w.leads (refl, s);
                }),
              )
          | no s ↦ omega (arith, c.all, (b.at u v l₁ l₂).high)
        ]

    pub least_seeds : LeastCosts N (Cost M step A) t'
    least_seeds = record {
      size = b.size;
      at = λ u v l₁ l₂. record {
        high = (b.at u v l₁ l₂).high;
        holds = λ s. seeds_cost (entry t' u v) u v l₁ l₂ ((b.at u v l₁ l₂).holds s);
        least = λ n c. cost_seeds n u v l₁ l₂ c;
      };
    }

-- ---- one letter more

pub cost_edge :
    {M : Machine} {step : ℕ} {A : ℕ → Pairs} {u v i j : ℕ} (m : ℕ) → Edge M u v i j (M.next u i) (M.next v j) →
    Cost M step A m (M.next u i) (M.next v j) → Cost M step A (step + m) u v
cost_edge {step = step} m e c =
    record {
      k = suc c.k;
      n = c.n;
      all = omega (arith, c.all, mul-suc step c.k);
      reach = record { s = _; t = _; i = _; j = _; step = e; within = c.reach };
    }

-- no letter
pub cost_none : {M : Machine} {step : ℕ} {A : ℕ → Pairs} {u v : ℕ} (n : ℕ) → A n u v → Cost M step A n u v
cost_none {step = step} n h = record { k = 0; n = n; all = omega (arith, mul-zero step); reach = h }

-- ---- the lowest letters along a table

-- sets that agree where the letters lead
pub lowest_same :
    {M : Machine} {L L' : ℕ → Pairs} (G : ℕ → Pairs) →
    ((k u v i j : ℕ) → G (suc k) u v → Into M (L k) u v i j → Into M (L' k) u v i j) →
    ((k u v i j : ℕ) → G (suc k) u v → Into M (L' k) u v i j → Into M (L k) u v i j) →
    ((k u v i j : ℕ) → G (suc k) u v → Into M (L k) u v i j → G k (M.next u i) (M.next v j)) →
    ((u v : ℕ) → G 0 u v → L 0 u v → L' 0 u v) →
    {k u v x y : ℕ} {bytes : List ℕ} → G k u v → Lowest M L k u v bytes x y → Lowest M L' k u v bytes x y
lowest_same G to from on at g (there h) = there (at _ _ g h)
lowest_same G to from on at g (lowest {k = k} {u = u} {v = v} {i = i} {j = j} e r) =
    lowest
    (record {
      holds = to k u v i j g e.holds;
      lowest = λ i' j' f. e.lowest i' j' (from k u v i' j' g f);
    })
    (lowest_same G to from on at (on k u v i j g e.holds) r)

-- The table has least costs by `step` and A, and for up to n letters the pairs from which k letters lead into P are those that may cost k
-- letters and `base`.
pub record Along (M : Machine) (step base n : ℕ) (A : ℕ → Pairs) (P : Pairs) (t : List ℕ) : Type 0 where
  pub least : LeastCosts M.states (Cost M step A) t
  pub bound : (k : ℕ) → k ≤ n → step * k + base < no_cost
  pub to : (k x y : ℕ) → k ≤ n → Cost M step A (step * k + base) x y → Reach M P k x y
  pub from : (k x y : ℕ) → Reach M P k x y → Cost M step A (step * k + base) x y

-- no letter from (u, v) leads to a lower cost than that of k letters and `base`, less one letter
pub record NoLower (M : Machine) (step base n : ℕ) (A : ℕ → Pairs) (k u v : ℕ) : Type 0 where
  pub most : k ≤ n
  pub below₁ : u < M.states
  pub below₂ : v < M.states
  pub lower :
      (i j m : ℕ) → Edge M u v i j (M.next u i) (M.next v j) → Cost M step A m (M.next u i) (M.next v j) → step * k + base ≤ step + m

module _ (M : Machine) (total : Total M) {step base n : ℕ} {A : ℕ → Pairs} {P : Pairs} {t : List ℕ} (w : Along M step base n A P t) where
  -- a pair with that least cost is such a pair
  pub no_lower : (k u v : ℕ) → k ≤ n → u < M.states → v < M.states → CostOf t step base k u v → NoLower M step base n A k u v
  no_lower k u v l l₁ l₂ c = record {
    most = l;
    below₁ = l₁;
    below₂ = l₂;
    lower = λ i j m e d. omega (arith, c, (w.least.at u v l₁ l₂).least (step + m) (cost_edge m e d));
  }

  reach_cost : (k x y : ℕ) → k ≤ n → x < M.states → y < M.states → CostOf t step base k x y → Reach M P k x y
  reach_cost k x y l l₁ l₂ c =
      let b = w.bound k l in
      let s : entry t x y < no_cost = omega arith in
      w.to k x y l (rw c at ((w.least.at x y l₁ l₂).holds s))

  module _ (k u v i j : ℕ) (g : NoLower M step base n A (suc k) u v) where
    into_reach : Into M (CostOf t step base k) u v i j → Into M (Reach M P k) u v i j
    into_reach h =
        let e = h.edge in
        let m = g.most in
        record {
          edge = e;
          within = reach_cost k _ _ (omega arith) (total _ _ g.below₁ e.below₁) (total _ _ g.below₂ e.below₂) h.within;
        }

    into_cost : Into M (Reach M P k) u v i j → Into M (CostOf t step base k) u v i j
    into_cost h =
        let e = h.edge in
        let m = g.most in
        let l₁ = total _ _ g.below₁ e.below₁ in
        let l₂ = total _ _ g.below₂ e.below₂ in
        let c = w.least.at _ _ l₁ l₂ in
        let high = c.least (step * k + base) (w.from k _ _ h.within) in
        let b = w.bound k (omega arith) in
        let s : entry t (M.next u i) (M.next v j) < no_cost = omega arith in
        let low = g.lower i j (entry t (M.next u i) (M.next v j)) e (c.holds s) in
        record { edge = e; within = omega (arith, mul-suc step k) }

    no_lower_on : Into M (CostOf t step base k) u v i j → NoLower M step base n A k (M.next u i) (M.next v j)
    no_lower_on h =
        let e = h.edge in
        let m = g.most in
        no_lower k _ _ (omega arith) (total _ _ g.below₁ e.below₁) (total _ _ g.below₂ e.below₂) h.within

  -- the lowest letters by the table are the lowest that lead into P
  pub lowest_costs :
      {k u v x y : ℕ} {bytes : List ℕ} → NoLower M step base n A k u v → Lowest M (CostOf t step base) k u v bytes x y →
      Lowest M (Reach M P) k u v bytes x y
  lowest_costs =
      lowest_same (NoLower M step base n A) into_reach into_cost no_lower_on
      (λ u v g h. reach_cost 0 u v (omega arith) g.below₁ g.below₂ h)

  -- where k + 1 letters lead into P, one of them leads to a pair that costs k letters and `base`
  pub cost_first :
      (k u v : ℕ) → NoLower M step base n A (suc k) u v → Reach M P (suc k) u v →
      (i : ℕ) × (j : ℕ) × Into M (CostOf t step base k) u v i j
  cost_first k u v g h = (h.i, h.j, into_cost k u v h.i h.j g (neighbour_into h))

  pub cost_on :
      (k u v : ℕ) → suc k ≤ n → u < M.states → v < M.states → CostOf t step base (suc k) u v →
      (i : ℕ) × (j : ℕ) × Into M (CostOf t step base k) u v i j
  cost_on k u v l l₁ l₂ c = cost_first k u v (no_lower (suc k) u v l l₁ l₂ c) (reach_cost (suc k) u v l l₁ l₂ c)
