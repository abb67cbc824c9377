-- From set to set of pairs: the pairs that one letter more leads to, each being followed once.
use mathlib.Core.Path.{◌≡◌, refl}
use mathlib.Core.Logic.{inl, inr, ⊎_elim}
use mathlib.Core.Bool.{Bool, false}
use mathlib.Core.List.{List}
use Prim.Native.Nat.{ℕ, zero, suc, ◌+◌, ◌*◌, ◌/◌, ◌%◌, ◌^◌, ◌≤◌, ◌<◌}
use native.Mathlib.Decide.{ℕ_discrete, dec_le}
use native.Mathlib.Numerals.{add-one}
use native.Mathlib.Omega.{arith}
use lib.ListN.{get_or}
use Rattle.mealy.specs.Word.{Has}
use Rattle.mealy.specs.Machine.{Machine, Total}
use Rattle.mealy.proofs.Edges.{neighbour_map}
use Rattle.mealy.proofs.Words.{has_empty}
use Rattle.first_pair.specs.Reach.{Reach, At, Cycle, Joined}
use Rattle.cycles.specs.Successors.{In, Rows, word_at, SuccessorsOf, WithBesides, FollowsSet, ExactlyPairs, Parted, too_long, CycleFound}
use Rattle.cycles.proofs.PairSets.{in_below}

-- ---- the last letter of a walk

-- j letters lead from (u, v) to some (s, t), and one more to (x, y)
pub record LastLetter (M : Machine) (j u v x y : ℕ) : Type 0 where
  pub s : ℕ
  pub t : ℕ
  pub before : Reach M (At s t) j u v
  pub joined : Joined M s t x y

module _ (M : Machine) where
  pub reach_last : (j u v x y : ℕ) → Reach M (At x y) (suc j) u v → LastLetter M j u v x y
  reach_last zero u v x y n =
      record {
        s = u;
        t = v;
        before = (refl, refl);
        joined = record { i = n.i; j = n.j; edge = rw (n.within.0, n.within.1) at n.step };
      }
  reach_last (suc j) u v x y n =
      let b = reach_last j n.s n.t x y n.within in
      record {
        s = b.s;
        t = b.t;
        before = record { s = n.s; t = n.t; i = n.i; j = n.j; step = n.step; within = b.before };
        joined = b.joined;
      }

  pub reach_more : (j u v s t x y : ℕ) → Reach M (At s t) j u v → Joined M s t x y → Reach M (At x y) (suc j) u v
  reach_more zero u v s t x y e d =
      record { s = x; t = y; i = d.i; j = d.j; step = rw (e.0, e.1) d.edge; within = (refl, refl) }
  reach_more (suc j) u v s t x y n d = neighbour_map (λ s' t' h. reach_more j s' t' s t x y h d) n

  -- between states
  module _ (total : Total M) where
    pub joined_below : (u v x y : ℕ) → u < M.states → v < M.states → Joined M u v x y → (x < M.states) × (y < M.states)
    joined_below u v x y k l d =
        let e = d.edge in
        (rw e.to₁ at (total u d.i k e.below₁), rw e.to₂ at (total v d.j l e.below₂))

    pub reach_below :
        (j u v x y : ℕ) → u < M.states → v < M.states → Reach M (At x y) j u v → (x < M.states) × (y < M.states)
    reach_below zero u v x y k l e = (rw e.0 at k, rw e.1 at l)
    reach_below (suc j) u v x y k l n =
        let b = joined_below u v n.s n.t k l (record { i = n.i; j = n.j; edge = n.step }) in
        reach_below j n.s n.t x y b.0 b.1 n.within

-- ---- the sets

-- k letters lead from (u, v) to the pairs of the set. `seen` has all pairs that some letters, at most k, lead to and, of each of its pairs
-- that is not in the set, what follows it. No closed walk at (u, v) has fewer than k letters, and `seen` has (u, v) only if the set has it.
pub record Met (M : Machine) (u v k : ℕ) (set seen : List ℕ) : Type 0 where
  pub led : (x y : ℕ) → In set x y → Reach M (At x y) k u v
  pub met : (j x y : ℕ) → 0 < j → j ≤ k → Reach M (At x y) j u v → In seen x y
  pub onward : (x y x' y' : ℕ) → In seen x y → (In set x y → ⊥) → Joined M x y x' y' → In seen x' y'
  pub shortest : (n : ℕ) → Cycle M n u v → k ≤ n
  pub itself : In seen u v → In set u v

module _ {M : Machine} {words : List ℕ} (S : SuccessorsOf M words) {u v : ℕ} (k : u < M.states) (l : v < M.states) where
  pub met_first :
      {none none' to set seen : List ℕ} {r : Bool} → ((x : ℕ) → get_or none x 0 ≡ 0) → ((x : ℕ) → get_or none' x 0 ≡ 0) →
      WithBesides (λ x y. Has (word_at words (16 * u + v) x) y) none to → Parted to none' set seen r → Met M u v 1 set seen
  met_first {none} {none'} {to} {set} {seen} {r} z z' w p =
      record {
        led = λ x y h. reach_more M 0 u v u v x y (refl, refl) (joined x y h);
        met = λ j x y a b h. into x y (first j x y a b h);
        onward = λ x y x' y' h n d. absurd (n (back x y h));
        shortest = λ n c. omega (arith, c.letter);
        itself = back u v;
      }
    where
      fresh : (x y : ℕ) → In set x y → In to x y
      fresh x y h = (p.fresh.only x y (in_below p.fresh.rows x y h).0 h).0

      joined : (x y : ℕ) → In set x y → Joined M u v x y
      joined x y h =
          let b = (in_below p.fresh.rows x y h).0 in
          ⊎_elim (λ e. absurd (has_empty y (rw (z x) at e))) (λ e. S.only u v x y k l b e) (w.only x y b (fresh x y h))

      first : (j x y : ℕ) → 0 < j → j ≤ 1 → Reach M (At x y) j u v → Joined M u v x y
      first j x y a b h =
          let e : j ≡ 1 = omega arith in
          let t = reach_last M 0 u v x y (rw e at h) in
          rw (← t.before.0, ← t.before.1) at t.joined

      into : (x y : ℕ) → Joined M u v x y → In seen x y
      into x y d =
          let b = joined_below M S.total u v x y k l d in
          let m : x < 16 = omega (arith, S.few) in
          p.more.has x y m (inr (w.has x y m (inr (S.has u v x y k l d))))

      back : (x y : ℕ) → In seen x y → In set x y
      back x y h =
          let b = (in_below p.more.rows x y h).0 in
          ⊎_elim
          (λ e. absurd (has_empty y (rw (z' x) at e)))
          (λ e. p.fresh.has x y b (e, λ f. has_empty y (rw (z' x) at f)))
          (p.more.only x y b h)

  module _ {n : ℕ} {set seen : List ℕ} (m : Met M u v n set seen) (a : 0 < n) where
    -- where the set has not the pair itself, a closed walk is longer
    pub met_longer : (In set u v → ⊥) → (j : ℕ) → Cycle M j u v → suc n ≤ j
    met_longer not j c =
        let q = m.shortest j c in
        elim (ℕ_discrete j n) [
          | yes e ↦ absurd (not (m.itself (m.met j u v c.letter (omega arith) c.closed)))
          | no d ↦ omega arith
        ]

    -- where the set has no pair, `seen` has all that any letters lead to
    pub met_all : ((x y : ℕ) → In set x y → ⊥) → (j x y : ℕ) → 0 < j → Reach M (At x y) j u v → In seen x y
    met_all none zero x y b h = absurd (omega arith)
    met_all none (suc j) x y b h =
        elim (dec_le (suc j) n) [
          | yes q ↦ m.met (suc j) x y b q h
          | no q ↦
              let t = reach_last M j u v x y h in
              m.onward t.s t.t x y (met_all none j t.s t.t (omega arith) t.before) (none t.s t.t) t.joined
        ]

    pub met_more :
        {to set' seen' : List ℕ} {r : Bool} → Rows seen → (In set u v → ⊥) → ExactlyPairs (FollowsSet words M.states set) to →
        Parted to seen set' seen' r → Met M u v (suc n) set' seen'
    met_more {to} {set'} {seen'} {r} rows not w p =
        record {
          led = λ x y h. led' x y (p.fresh.only x y (in_below p.fresh.rows x y h).0 h).0;
          met = met';
          onward = onward';
          shortest = met_longer not;
          itself = itself';
        }
      where
        led' : (x y : ℕ) → In to x y → Reach M (At x y) (suc n) u v
        led' x y h =
            let b = (in_below w.rows x y h).0 in
            let f = w.only x y b h in
            let g = f.row in
            let q = m.led f.u g.v g.within in
            let c = reach_below M S.total n u v f.u g.v k l q in
            reach_more M n u v f.u g.v x y q (S.only f.u g.v x y c.0 c.1 b g.word)

        kept : (x y : ℕ) → In seen x y → In seen' x y
        kept x y h = p.more.has x y (in_below rows x y h).0 (inl h)

        -- what follows a pair of `seen` has now been seen
        onto : (x y x' y' : ℕ) → In seen x y → Joined M x y x' y' → In seen' x' y'
        onto x y x' y' h d =
            elim (ℕ_discrete (get_or set x 0 / 2 ^ y % 2) 1) [
              | yes i ↦
                  let b = reach_below M S.total n u v x y k l (m.led x y i) in
                  let c = joined_below M S.total x y x' y' b.0 b.1 d in
                  let e : x' < 16 = omega (arith, S.few) in
                  p.more.has x' y' e
                  (inr (w.has x' y' e
                  (record { u = x; below = b.0; row = record { v = y; within = i; word = S.has x y x' y' b.0 b.1 d } })))
              | no i ↦ kept x' y' (m.onward x y x' y' h i d)
            ]

        met' : (j x y : ℕ) → 0 < j → j ≤ suc n → Reach M (At x y) j u v → In seen' x y
        met' j x y b c h =
            elim (dec_le j n) [
              | yes q ↦ kept x y (m.met j x y b q h)
              | no q ↦
                  let e : j ≡ suc n = omega arith in
                  let t = reach_last M n u v x y (rw e at h) in
                  onto t.s t.t x y (m.met n t.s t.t a (omega arith) t.before) t.joined
            ]

        onward' : (x y x' y' : ℕ) → In seen' x y → (In set' x y → ⊥) → Joined M x y x' y' → In seen' x' y'
        onward' x y x' y' h i d =
            elim (ℕ_discrete (get_or seen x 0 / 2 ^ y % 2) 1) [
              | yes f ↦ onto x y x' y' f d
              | no f ↦
                  let b = (in_below p.more.rows x y h).0 in
                  absurd (⊎_elim f (λ g. i (p.fresh.has x y b (g, f))) (p.more.only x y b h))
            ]

        itself' : In seen' u v → In set' u v
        itself' h =
            let b : u < 16 = omega (arith, S.few) in
            let not' : In seen u v → ⊥ = λ f. not (m.itself f) in
            ⊎_elim (λ f. absurd (not' f)) (λ f. p.fresh.has u v b (f, not')) (p.more.only u v b h)

-- ---- the search

-- what `cycle` ensures
abbrev Found : List ℕ → ℕ → ℕ → ℕ → ℕ → Type 0
Found words states u v r = (r ≤ too_long) × CycleFound words states u v r

capped_limit :
    {words : List ℕ} {states u v : ℕ} →
    ((M : Machine) → SuccessorsOf M words → M.states ≡ states → (n : ℕ) → Cycle M n u v → too_long ≤ n) → Found words states u v too_long
capped_limit f = (omega arith, λ M S e. record { high = omega arith; holds = λ h. absurd (omega arith); least = f M S e })

-- after k letters, whatever machine has these successors
pub record Searched (words : List ℕ) (states u v k : ℕ) (set seen : List ℕ) (r : Bool) : Type 0 where
  pub low : 0 < k
  pub high : k < too_long
  pub rows : Rows set
  pub rows' : Rows seen
  pub none : r ≡ false → (x y : ℕ) → x < 16 → In set x y → ⊥
  pub met : (M : Machine) → SuccessorsOf M words → M.states ≡ states → Met M u v k set seen

module _ {words : List ℕ} {states u v : ℕ} (k : u < states) (l : v < states) where
  pub searched_first :
      {none none' to set seen : List ℕ} {r : Bool} → ((x : ℕ) → get_or none x 0 ≡ 0) → ((x : ℕ) → get_or none' x 0 ≡ 0) →
      WithBesides (λ x y. Has (word_at words (16 * u + v) x) y) none to → Parted to none' set seen r →
      Searched words states u v 1 set seen r
  searched_first z z' w p =
      record {
        low = omega arith;
        high = omega arith;
        rows = p.fresh.rows;
        rows' = p.more.rows;
        none = p.some;
        met = λ M S e. met_first S (omega arith) (omega arith) z z' w p;
      }

  module _ {n : ℕ} {set seen : List ℕ} {r : Bool} (s : Searched words states u v n set seen r) where
    pub searched_more :
        {to set' seen' : List ℕ} {r' : Bool} → (In set u v → ⊥) → n + 1 < too_long → ExactlyPairs (FollowsSet words states set) to →
        Parted to seen set' seen' r' → Searched words states u v (n + 1) set' seen' r'
    searched_more {to} {set'} {seen'} {r'} not h w p =
        record {
          low = omega arith;
          high = h;
          rows = p.fresh.rows;
          rows' = p.more.rows;
          none = p.some;
          met = λ M S e.
              rw add-one (met_more S (omega arith) (omega arith) (s.met M S e) s.low s.rows' not (rw (← e) at w) p);
        }

    -- the set has the pair itself
    pub searched_found : In set u v → Found words states u v n
    searched_found h = (
      omega (arith, s.high),
      λ M S e.
          let m = s.met M S e in
          record { high = omega (arith, s.high); holds = λ _. record { letter = s.low; closed = m.led u v h }; least = m.shortest },
    )

    -- it has not, and there are too many letters
    pub searched_limit : (In set u v → ⊥) → n + 1 ≡ too_long → Found words states u v too_long
    searched_limit not q =
        capped_limit (λ M S e j c. omega (arith, met_longer S (omega arith) (omega arith) (s.met M S e) s.low not j c))

    -- there is no pair left
    pub searched_ended : r ≡ false → Found words states u v too_long
    searched_ended q =
        let none : (x y : ℕ) → In set x y → ⊥ = λ x y h. s.none q x y (in_below s.rows x y h).0 h in
        capped_limit (λ M S e j c.
        let m = s.met M S e in
        absurd (none u v (m.itself (met_all S (omega arith) (omega arith) m s.low none j u v c.letter c.closed))))

-- ---- before the next letter

-- What is made of a set of pairs and those met before it: once parted, the sets after k letters.
pub record Ahead (words : List ℕ) (states u v k : ℕ) (set seen : List ℕ) : Type 0 where
  pub rows : Rows set
  pub rows' : Rows seen
  pub parts :
      k < too_long → {set' seen' : List ℕ} {r : Bool} → Parted set seen set' seen' r → Searched words states u v k set' seen' r
  pub limit : k ≡ too_long → Found words states u v too_long

module _ {words : List ℕ} {states u v : ℕ} (k : u < states) (l : v < states) where
  pub ahead_first :
      {none none' to : List ℕ} → Rows none' → ((x : ℕ) → get_or none x 0 ≡ 0) → ((x : ℕ) → get_or none' x 0 ≡ 0) →
      WithBesides (λ x y. Has (word_at words (16 * u + v) x) y) none to → Ahead words states u v 1 to none'
  ahead_first b z z' w =
      record { rows = w.rows; rows' = b; parts = λ _ p. searched_first k l z z' w p; limit = λ e. absurd (omega arith) }

  pub ahead_more :
      {n : ℕ} {set seen to : List ℕ} {r : Bool} → Searched words states u v n set seen r → (In set u v → ⊥) →
      ExactlyPairs (FollowsSet words states set) to → Ahead words states u v (n + 1) to seen
  ahead_more s not w =
      record {
        rows = w.rows;
        rows' = s.rows';
        parts = λ h p. searched_more k l s not h w p;
        limit = λ e. searched_limit k l s not e;
      }
