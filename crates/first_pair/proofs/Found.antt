-- The pair whose lengths and letters are found by tables of least costs is the first.
use mathlib.Core.Path.{◌≡◌, refl}
use mathlib.Core.List.{List}
use Prim.Native.Nat.{ℕ, suc, ◌+◌, ◌*◌, ◌≤◌, ◌<◌}
use native.Mathlib.Omega.{arith}
use native.Mathlib.Decide.{dec_lt}
use lib.ListN.{length}
use Rattle.mealy.specs.Machine.{Machine, Total}
use Rattle.mealy.specs.Setting.{Setting, Bounded}
use Rattle.mealy.specs.LoopedPair.{LoopedPair, first, second, letter_at, mark, letters, Valid}
use Rattle.mealy.specs.First.{Lexicographic, First}
use Rattle.first_pair.specs.Reach.{Reach, At, Cycle, Into, ConflictInto, SomeConflictInto}
use Rattle.first_pair.specs.Lowest.{LowestOf, Lowest, LowestPair}
use Rattle.first_pair.specs.Found.{total_at, LengthsBy, LettersBy}
use Rattle.first_pair.specs.Cost.{Cost, Only, Looped, Tail, Marked, Head, LeastCosts, CostOf, entry, letter_cost, in_cost, out_cost, no_cost, tail_cost, head_cost}
use Rattle.first_pair.proofs.Reaching.{into_neighbour}
use Rattle.first_pair.proofs.Lowest.{lowest_leads, lowest_within}
use Rattle.first_pair.proofs.Making.{reach_leads}
use Rattle.first_pair.proofs.ByLengths.{lengths, valid_cycle, valid_reach, first_pair}
use Rattle.first_pair.proofs.Costs.{Along, NoLower, no_lower, lowest_costs, cost_first, cost_none, leads_below}
use Rattle.first_pair.proofs.LengthCosts.{head_order, distance_to, distance_from, tail_of, tail_to, head_of, head_to}

-- ---- closed walks, by the number of letters to one pair

module _ (M : Machine) (total : Total M) (x y n : ℕ) (small : n < 1024) (d : List ℕ) (least : LeastCosts M.states (Cost M 1 (Only (At x y))) d) where
  pub closed_along : Along M 1 0 n (Only (At x y)) (At x y) d
  closed_along = record {
    least = least;
    bound = λ k l. omega arith;
    to = λ k u v l c. let e : 1 * k + 0 ≡ k = omega arith in distance_to M x y k u v (rw e at c);
    from = λ k u v h. let e : 1 * k + 0 ≡ k = omega arith in rw e (distance_from M x y k u v h);
  }

  -- at the pair itself, no closed walk there being shorter
  module _ (l₁ : x < M.states) (l₂ : y < M.states) (shortest : (m : ℕ) → Cycle M m x y → n ≤ m) where
    no_lower_closed : (k : ℕ) → n ≡ k → NoLower M 1 0 n (Only (At x y)) k x y
    no_lower_closed k q = record {
      most = omega arith;
      below₁ = l₁;
      below₂ = l₂;
      lower = λ i j m e c.
          let h = shortest (suc m) (record {
            letter = omega arith;
            closed = into_neighbour (record { edge = e; within = distance_to M x y m _ _ c });
          }) in
          omega arith;
    }

    pub closed_lowest :
        {u v : ℕ} {bytes : List ℕ} → Lowest M (CostOf d 1 0) n x y bytes u v → Lowest M (Reach M (At x y)) n x y bytes x y
    closed_lowest w =
        let r = lowest_costs M total closed_along (no_lower_closed n refl) w in
        let e = lowest_within r in
        rw (e.0, e.1) at r

    pub closed_first : (k : ℕ) → n ≡ suc k → Cycle M n x y → (i : ℕ) × (j : ℕ) × Into M (CostOf d 1 0 k) x y i j
    closed_first k e c = cost_first M total closed_along k x y (no_lower_closed (suc k) e) (rw e at c.closed)

-- ---- lead-out and lead-in

module _ (M : Machine) (lo fl : ℕ) (small : tail_cost lo fl < no_cost) (t : List ℕ) (least : LeastCosts M.states (Tail M) t) where
  pub tail_along : Along M out_cost (letter_cost * fl) lo (Looped M) (Cycle M fl) t
  tail_along = record {
    least = least;
    bound = λ k l. omega arith;
    to = λ k u v l c. tail_to M k fl u v (omega arith) c;
    from = λ k u v h. tail_of M k fl u v h;
  }

module _ (S : Setting) (li lo fl : ℕ) (small : head_cost li lo fl < no_cost) (t : List ℕ) (least : LeastCosts S.M.states (Head S) t) where
  pub head_along : Along S.M in_cost (letter_cost + tail_cost lo fl) li (Marked S) (SomeConflictInto S (Reach S.M (Cycle S.M fl) lo)) t
  head_along = record {
    least = least;
    bound = λ k l. omega arith;
    to = λ k u v l c. head_to S k lo fl u v (omega arith) c;
    from = λ k u v h. head_of S k lo fl u v h;
  }

-- ---- the lengths

low_first : (s t s' t' : ℕ) → 16 * s + t ≤ 16 * s' + t' → t < 16 → t' < 16 → s ≤ s'
low_first s t s' t' l m n = omega arith

module _ (S : Setting) (bounded : Bounded S) (few : S.M.states ≤ 16) (loops heads : List ℕ) (back : LeastCosts S.M.states (Looped S.M) loops)
    (head : LeastCosts S.M.states (Head S) heads) (p : LoopedPair) (w : LengthsBy S loops heads p) where
  open S use {M}

  module _ (q : LoopedPair) (c : Valid S q) where
    l₁ : q.s < M.states
    l₁ = bounded _ (c.start first)

    l₂ : q.t < M.states
    l₂ = bounded _ (c.start second)

    back_most : entry loops q.s q.t ≤ letter_cost * q.back_loop
    back_most = (back.at q.s q.t l₁ l₂).least (letter_cost * q.back_loop) (record { k = q.back_loop; all = refl; cycle = valid_cycle S q c })

    head_most : entry heads q.s q.t ≤ head_cost q.lead_in q.lead_out q.forward_loop
    head_most =
        (head.at q.s q.t l₁ l₂).least (head_cost q.lead_in q.lead_out q.forward_loop)
        (head_of S q.lead_in q.lead_out q.forward_loop q.s q.t (valid_reach S q c))

    total_most : letters q < 1024 → total_at loops heads q.s q.t ≤ letters q
    total_most l = let a = back_most in let b = head_most in omega arith

    all_most : letters p ≤ letters q
    all_most = elim (dec_lt (letters q) 1024) [
      | yes l ↦ omega (arith, total_most l, w.fewest q.s q.t (c.start first) (c.start second))
      | no l ↦ omega (arith, w.few)
    ]

    -- the starts are no later where the letters are as many
    starts_least : letters p ≡ letters q → 16 * p.s + p.t ≤ 16 * q.s + q.t
    starts_least e =
        let l : letters q < 1024 = omega (arith, w.few) in
        w.lowest q.s q.t (c.start first) (c.start second)
        (omega (arith, total_most l, w.fewest q.s q.t (c.start first) (c.start second)))

    -- with the same starts
    module _ (e₁ : p.s ≡ q.s) (e₂ : p.t ≡ q.t) where
      back_least : p.back_loop ≤ q.back_loop
      back_least = let a : entry loops p.s p.t ≤ letter_cost * q.back_loop = rw (e₁, e₂) back_most in omega (arith, w.back_is)

      head_least : head_cost p.lead_in p.lead_out p.forward_loop ≤ head_cost q.lead_in q.lead_out q.forward_loop
      head_least =
          let a : entry heads p.s p.t ≤ head_cost q.lead_in q.lead_out q.forward_loop = rw (e₁, e₂) head_most in
          rw w.head_is at a

      rest_least : letters p ≡ letters q → p.back_loop ≡ q.back_loop → (p.lead_in ≤ q.lead_in) × (p.lead_in ≡ q.lead_in → p.lead_out ≤ q.lead_out)
      rest_least e₀ e₃ =
          head_order p.lead_in p.lead_out p.forward_loop q.lead_in q.lead_out q.forward_loop (omega arith) (omega (arith, w.few))
          head_least

    pub lengths_least : Lexicographic (lengths p) (lengths q)
    lengths_least = (
      all_most,
      λ e₀. (
        low_first p.s p.t q.s q.t (starts_least e₀) (omega (arith, few, bounded _ w.start₂)) (omega (arith, few, l₂)),
        λ e₁. (
          omega (arith, starts_least e₀),
          λ e₂. (
            back_least e₁ e₂,
            λ e₃.
                let r = rest_least e₁ e₂ e₀ e₃ in
                (r.0, λ e₄. (r.1 e₄, λ e₅. (omega arith, λ e₆. tt))),
          ),
        ),
      ),
    )

-- ---- the letters by the tables are the lowest

module _ (S : Setting) (bounded : Bounded S) (total : Total S.M) (loops tails heads : List ℕ)
    (back : LeastCosts S.M.states (Looped S.M) loops) (tail : LeastCosts S.M.states (Tail S.M) tails)
    (head : LeastCosts S.M.states (Head S) heads) (p : LoopedPair) (w : LengthsBy S loops heads p) where
  open S use {M}

  abbrev bl : ℕ
  bl = p.back_loop

  abbrev li : ℕ
  li = p.lead_in

  abbrev lo : ℕ
  lo = p.lead_out

  abbrev fl : ℕ
  fl = p.forward_loop

  s_below : p.s < M.states
  s_below = bounded _ w.start₁

  t_below : p.t < M.states
  t_below = bounded _ w.start₂

  back_small : bl < 1024
  back_small = omega (arith, w.few)

  forward_small : fl < 1024
  forward_small = omega (arith, w.few)

  tail_small : tail_cost lo fl < no_cost
  tail_small = omega (arith, w.few)

  head_small : head_cost li lo fl < no_cost
  head_small = omega (arith, w.few)

  -- the back loop is a shortest closed walk
  pub back_cycle : Cycle M bl p.s p.t
  back_cycle =
      let l : entry loops p.s p.t < no_cost = omega (arith, w.back_is, back_small) in
      let c = (back.at p.s p.t s_below t_below).holds l in
      let e : c.k ≡ bl = omega (arith, c.all, w.back_is) in
      rw e at c.cycle

  pub back_shortest : (m : ℕ) → Cycle M m p.s p.t → bl ≤ m
  back_shortest m c =
      omega (arith, w.back_is, (back.at p.s p.t s_below t_below).least (letter_cost * m) (record { k = m; all = refl; cycle = c }))

  -- lead-in, differing letter, lead-out and forward loop are possible
  pub head_reach : Reach M (SomeConflictInto S (Reach M (Cycle M fl) lo)) li p.s p.t
  head_reach =
      let l : entry heads p.s p.t < no_cost = omega (arith, w.head_is, head_small) in
      head_to S li lo fl p.s p.t head_small (rw w.head_is at ((head.at p.s p.t s_below t_below).holds l))

  pub forward_letter : 0 < fl
  forward_letter =
      let a = reach_leads M (SomeConflictInto S (Reach M (Cycle M fl) lo)) li p.s p.t head_reach in
      let b = reach_leads M (Cycle M fl) lo _ _ a.within.edge.into.within in
      b.within.letter

  -- ---- where the lead-in ends

  module _ (u v : ℕ) (l₁ : u < M.states) (l₂ : v < M.states) (c : CostOf heads in_cost (letter_cost + tail_cost lo fl) 0 u v) where
    mark_to :
        (i j : ℕ) → ConflictInto S (λ a b. entry tails a b ≡ tail_cost lo fl) u v i j → ConflictInto S (Reach M (Cycle M fl) lo) u v i j
    mark_to i j h =
        let e = h.into.edge in
        let d = tail.at _ _ (total _ _ l₁ e.below₁) (total _ _ l₂ e.below₂) in
        let s : entry tails (M.next u i) (M.next v j) < no_cost = omega (arith, h.into.within, tail_small) in
        record {
          conflict = h.conflict;
          into = record { edge = e; within = tail_to M lo fl _ _ tail_small (rw h.into.within at (d.holds s)) };
        }

    mark_from :
        (i j : ℕ) → ConflictInto S (Reach M (Cycle M fl) lo) u v i j → ConflictInto S (λ a b. entry tails a b ≡ tail_cost lo fl) u v i j
    mark_from i j h =
        let e = h.into.edge in
        let d = tail.at _ _ (total _ _ l₁ e.below₁) (total _ _ l₂ e.below₂) in
        let high = d.least (tail_cost lo fl) (tail_of M lo fl _ _ h.into.within) in
        let s : entry tails (M.next u i) (M.next v j) < no_cost = omega (arith, tail_small) in
        let low = (head.at u v l₁ l₂).least (letter_cost + entry tails (M.next u i) (M.next v j)) (cost_none (letter_cost + entry tails (M.next u i) (M.next v j)) (record {
          n = entry tails (M.next u i) (M.next v j);
          all = refl;
          edge = record { i = i; j = j; edge = record { conflict = h.conflict; into = record { edge = e; within = d.holds s } } };
        })) in
        record { conflict = h.conflict; into = record { edge = e; within = omega (arith, c) } }

    pub mark_lowest :
        (i j : ℕ) → LowestOf (ConflictInto S (λ a b. entry tails a b ≡ tail_cost lo fl) u v) i j →
        LowestOf (ConflictInto S (Reach M (Cycle M fl) lo) u v) i j
    mark_lowest i j h = record { holds = mark_to i j h.holds; lowest = λ i' j' f. h.lowest i' j' (mark_from i' j' f) }

    -- there is such a letter
    pub mark_some : (i : ℕ) × (j : ℕ) × ConflictInto S (λ a b. entry tails a b ≡ tail_cost lo fl) u v i j
    mark_some =
        let b = tail_small in
        let s : entry heads u v < no_cost = omega (arith, c) in
        let q : in_cost * 0 + (letter_cost + tail_cost lo fl) ≡ head_cost 0 lo fl = refl in
        let h = head_to S 0 lo fl u v (omega (arith, c)) (rw c at ((head.at u v l₁ l₂).holds s)) in
        (h.i, h.j, mark_from h.i h.j h.edge)

  -- ---- where the lead-out ends

  module _ (x y : ℕ) (l₁ : x < M.states) (l₂ : y < M.states) (c : CostOf tails out_cost (letter_cost * fl) 0 x y) where
    pub forward_cycle : Cycle M fl x y
    forward_cycle =
        let b = tail_small in
        let s : entry tails x y < no_cost = omega (arith, c) in
        tail_to M 0 fl x y (omega (arith, b)) (rw c at ((tail.at x y l₁ l₂).holds s))

    pub forward_shortest : (m : ℕ) → Cycle M m x y → fl ≤ m
    forward_shortest m z = omega (arith, c, (tail.at x y l₁ l₂).least (letter_cost * m) (cost_none (letter_cost * m) (record { k = m; all = refl; cycle = z })))

  -- ---- all five parts

  module _ (u v x y : ℕ) (z : LettersBy S tails heads p u v x y) where
    mark_below : (u < M.states) × (v < M.states)
    mark_below = leads_below M total (lowest_leads z.before) s_below t_below

    mark_cost : CostOf heads in_cost (letter_cost + tail_cost lo fl) 0 u v
    mark_cost = lowest_within z.before

    after_below :
        (M.next u (letter_at p first (mark p)) < M.states) × (M.next v (letter_at p second (mark p)) < M.states)
    after_below =
        let e = z.conflict.holds.into.edge in
        (total _ _ mark_below.0 e.below₁, total _ _ mark_below.1 e.below₂)

    letters_lowest : LowestPair S p u v x y
    letters_lowest = record {
      back = z.back;
      before =
          lowest_costs M total (head_along S li lo fl head_small heads head)
          (no_lower M total (head_along S li lo fl head_small heads head) li p.s p.t (omega arith) s_below t_below w.head_is) z.before;
      conflict = mark_lowest u v mark_below.0 mark_below.1 mark_cost _ _ z.conflict;
      after =
          lowest_costs M total (tail_along M lo fl tail_small tails tail)
          (no_lower M total (tail_along M lo fl tail_small tails tail) lo _ _ (omega arith) after_below.0 after_below.1 z.conflict.holds.into.within)
          z.after;
      forward = z.forward;
    }

    -- the pair that is found by the tables is the first
    pub found_first : M.states ≤ 16 → 2 * letters p ≤ length p.bytes → First S p
    found_first few held =
        first_pair S p u v x y held w.start₁ w.start₂ back_cycle.letter forward_letter
        (lengths_least S bounded few loops heads back head p w) letters_lowest
