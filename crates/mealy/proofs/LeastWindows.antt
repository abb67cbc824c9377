-- The least window that works: from the candidates to all windows, in any order of windows; it is unique; it exists where some
-- window works.
use mathlib.Core.Path.{◌≡◌}
use mathlib.Core.Logic.{◌↔◌, ◌⊎◌, inl, inr, ⊎_elim}
use Prim.Native.Nat.{ℕ, zero, suc, ◌≤◌, ◌<◌}
use native.Mathlib.Omega.{arith}
use native.Mathlib.Decide.{dec_le, ℕ_discrete}
use Rattle.mealy.specs.Setting.{Setting, Closed, Bounded}
use Rattle.mealy.specs.Window.{Works}
use Rattle.mealy.specs.Order.{Relation, IsOrder, Least}
use Rattle.mealy.specs.Product.{Direction, back, forward, Settled, pairs}
use Rattle.mealy.proofs.Windows.{works_settled, works_settled_back}
use Rattle.mealy.proofs.Settling.{settled_by}
use Rattle.mealy.proofs.Decisions.{dec_works}
use Rattle.mealy.proofs.LeastLists.{least_number}

module _ {R : Relation} (order : IsOrder R) (S : Setting) where
  pub least_unique : (b a b' a' : ℕ) → Least R S b a → Least R S b' a' → (b ≡ b') × (a ≡ a')
  least_unique b a b' a' p q = order.antisymmetric b a b' a' (p.least b' a' q.works) (q.least b a p.works)

  module _ (closed : Closed S) (L : ℕ) (settled : Settled S forward L) where
    -- least among the candidates of lookahead at most L: least among all windows
    pub least_among : (b a : ℕ) → Works S b a → ((b' a' : ℕ) → a' ≤ L → Works S b' a' → R b a b' a') → Least R S b a
    least_among b a f g = record {
      works = f;
      least = λ b' a' h. elim (dec_le a' L) [
        | yes l ↦ g b' a' l h
        | no l ↦ order.transitive b a b' L b' a' (g b' L (omega arith) (works_settled S closed L settled b' a' h))
            (order.larger b' L b' a' (omega arith) (omega arith))
      ];
    }

    -- least among the windows whose sides are at most K and L: least among all
    pub least_within :
        (K : ℕ) → Settled S back K → (b a : ℕ) → Works S b a → ((b' a' : ℕ) → b' ≤ K → a' ≤ L → Works S b' a' → R b a b' a') →
        Least R S b a
    least_within K settled_k b a f g = least_among b a f (λ b' a' l h. elim (dec_le b' K) [
      | yes m ↦ g b' a' m l h
      | no m ↦ order.transitive b a K a' b' a' (g K a' (omega arith) l (works_settled_back S closed K settled_k b' a' h))
          (order.larger K a' b' a' (omega arith) (omega arith))
    ])

    -- The candidates of lookahead a are those with at least `need a` letters before, where that is below `top`; elsewhere there
    -- is none.
    module _ (top : ℕ) (need : ℕ → ℕ) (is : (b a : ℕ) → a ≤ L → Works S b a ↔ ((need a < top) × (need a ≤ b))) where
      pub least_need : (a : ℕ) → a ≤ L → need a < top → ((a' : ℕ) → a' ≤ L → need a' < top → R (need a) a (need a') a') → Least R S (need a) a
      least_need a l finite best =
          least_among (need a) a ((is (need a) a l).1 (finite, omega arith))
          (λ b' a' l' h. let z = (is b' a' l').0 h in
          order.transitive (need a) a (need a') a' b' a' (best a' l' z.0) (order.larger (need a') a' b' a' z.1 (omega arith)))

  -- no side of the least window is past the level where the levels of that side have settled
  pub least_sides :
      Closed S → (K L : ℕ) → Settled S back K → Settled S forward L → (b a : ℕ) → Least R S b a → (b ≤ K) × (a ≤ L)
  least_sides closed K L settled_k settled_l b a l = (
    elim (dec_le b K) [
      | yes m ↦ m
      | no m ↦ (let p = l.least K a (works_settled_back S closed K settled_k b a l.works) in
          let e = order.antisymmetric b a K a p (order.larger K a b a (omega arith) (omega arith)) in
          omega (arith, e.0))
    ],
    elim (dec_le a L) [
      | yes m ↦ m
      | no m ↦ (let p = l.least b L (works_settled S closed L settled_l b a l.works) in
          let e = order.antisymmetric b a b L p (order.larger b L b a (omega arith) (omega arith)) in
          omega (arith, e.1))
    ],
  )

  module _ (closed : Closed S) (decide_start : (s : ℕ) → Dec (S.Start s)) (bounded : Bounded S)
      (decide_conflict : (i j : ℕ) → Dec (S.Conflict i j)) where
    -- the level from which on the levels of both directions have settled
    abbrev K : ℕ
    K = pairs S.M.states

    settled : (d : Direction) → Settled S d K
    settled d = settled_by S decide_start bounded d K (omega arith)

    -- it works, and is least of the windows of lookahead below n
    record LeastBelow (n b a : ℕ) : Type 0 where
      pub works : Works S b a
      pub least : (b' a' : ℕ) → a' < n → Works S b' a' → R b a b' a'

    abbrev SomeBelow : ℕ → Type 0
    SomeBelow n = (b : ℕ) × (a : ℕ) × LeastBelow n b a

    abbrev NoneBelow : ℕ → Type 0
    NoneBelow n = (b a : ℕ) → a < n → Works S b a → ⊥

    -- of two windows that work, with the first least below n and the second with fewest letters before of lookahead n, the first in R
    -- is least below n + 1
    below_more :
        (n b a x : ℕ) → LeastBelow n b a → Works S x n → ((b' : ℕ) → Works S b' n → x ≤ b') → SomeBelow (suc n)
    below_more n b a x l w fewest = elim (order.total b a x n) [
      | inl r ↦ (
        b,
        a,
        record {
          works = l.works;
          least = λ b' a' m f. elim (ℕ_discrete a' n) [
            | yes e ↦ rw e (order.transitive b a x n b' n r (order.larger x n b' n (fewest b' (rw e at f)) (omega arith)))
            | no e ↦ l.least b' a' (omega arith) f
          ];
        },
      )
      | inr r ↦ (
        x,
        n,
        record {
          works = w;
          least = λ b' a' m f. elim (ℕ_discrete a' n) [
            | yes e ↦ rw e (order.larger x n b' n (fewest b' (rw e at f)) (omega arith))
            | no e ↦ order.transitive x n b a b' a' r (l.least b' a' (omega arith) f)
          ];
        },
      )
    ]

    below : (n : ℕ) → SomeBelow n ⊎ NoneBelow n
    below zero = inr (λ b a l f. omega arith)
    below (suc n) = elim (dec_works S decide_start bounded closed decide_conflict K n) [
      | no no_window ↦
          let none : (b' : ℕ) → Works S b' n → ⊥ = λ b' f. no_window (works_settled_back S closed K (settled back) b' n f) in
          ⊎_elim
          (λ s. inl (
            s.0,
            s.1,
            record {
              works = s.2.works;
              least = λ b' a' m f. elim (ℕ_discrete a' n) [
                | yes e ↦ absurd (none b' (rw e at f))
                | no e ↦ s.2.least b' a' (omega arith) f
              ];
            },
          ))
          (λ z. inr (λ b' a' m f. elim (ℕ_discrete a' n) [ yes e ↦ none b' (rw e at f) | no e ↦ z b' a' (omega arith) f ]))
          (below n)
      | yes w ↦
          let x = least_number (λ b. Works S b n) (λ b. dec_works S decide_start bounded closed decide_conflict b n) K K (omega arith) w in
          ⊎_elim
          (λ s. inl (below_more n s.0 s.1 x.0 s.2 x.1 x.2))
          (λ z. inl (
            x.0,
            n,
            record {
              works = x.1;
              least = λ b' a' m f. elim (ℕ_discrete a' n) [
                | yes e ↦ rw e (order.larger x.0 n b' n (x.2 b' (rw e at f)) (omega arith))
                | no e ↦ absurd (z b' a' (omega arith) f)
              ];
            },
          ))
          (below n)
    ]

    -- where some window works there is a least one
    pub least_exists : (b a : ℕ) → Works S b a → (b : ℕ) × (a : ℕ) × Least R S b a
    least_exists b a f =
        ⊎_elim
        (λ s.
        let l = s.2 in
        (s.0, s.1, least_among closed K (settled forward) s.0 s.1 l.works (λ b' a' m h. l.least b' a' (omega arith) h)))
        (λ z. absurd (z b K (omega arith) (works_settled S closed K (settled forward) b a f)))
        (below (suc K))
