-- Closed walks with the two runs exchanged, their costs, and the table of the costs as it is made.
use mathlib.Core.Path.{◌≡◌, refl, sym, ◌∙◌}
use mathlib.Core.Logic.{◌≢◌}
use mathlib.Core.List.{List}
use Prim.Native.Nat.{ℕ, zero, suc, ◌+◌, ◌*◌, ◌≤◌, ◌<◌}
use native.Mathlib.Decide.{ℕ_discrete, dec_le}
use native.Mathlib.Omega.{arith}
use lib.ListN.{length, get_or, set, length-set}
use lib.Seq.{get_or-set_same, get_or-set_other}
use Rattle.mealy.specs.Machine.{Machine}
use Rattle.mealy.specs.Product.{forward}
use Rattle.mealy.proofs.Edges.{neighbour_swap}
use Rattle.first_pair.specs.Reach.{Pairs, Reach, Cycle}
use Rattle.first_pair.proofs.Capping.{capped_map}
use Rattle.first_pair.specs.Cost.{Capped, Looped, letter_cost, no_cost, entry}
use Rattle.cycles.specs.Successors.{SuccessorsOf, LoopsFound, too_long}

-- ---- the runs exchanged

pub reach_swap : (M : Machine) {P Q : Pairs} → ((u v : ℕ) → P u v → Q v u) → (n u v : ℕ) → Reach M P n u v → Reach M Q n v u
reach_swap M f zero u v h = f u v h
reach_swap M f (suc n) u v h = neighbour_swap forward (reach_swap M f n) h

pub looped_swap : {M : Machine} {m u v : ℕ} → Looped M m u v → Looped M m v u
looped_swap {M} {m} {u} {v} a =
    record {
      k = a.k;
      all = a.all;
      cycle = record { letter = a.cycle.letter; closed = reach_swap M (λ x y e. (e.1, e.0)) a.k u v a.cycle.closed };
    }

-- ---- costs

pub looped_cost : {M : Machine} {u v r : ℕ} → Capped (λ n. Cycle M n u v) too_long r → Capped (λ m. Looped M m u v) no_cost (letter_cost * r)
looped_cost {M} {u} {v} {r} a =
    record {
      high = omega (arith, a.high);
      holds = λ l. record { k = r; all = refl; cycle = a.holds (omega arith) };
      least = λ m b. omega (arith, a.least b.k b.cycle, b.all);
    }

-- the same number, written at two places
written : (t : List ℕ) (p q c x : ℕ) → x < length t → (x ≢ q → x ≡ p) → get_or (set (set t p c) q c) x 0 ≡ c
written t p q c x l f =
    elim (ℕ_discrete x q) [
      | yes e ↦ rw e (get_or-set_same (set t p c) q c 0 (omega (arith, length-set t p c)))
      | no n ↦ let e = f n in get_or-set_other (set t p c) q x c 0 n ∙ rw e (get_or-set_same t p c 0 (omega arith))
    ]

unwritten : (t : List ℕ) (p q c x : ℕ) → x ≢ p → x ≢ q → get_or (set (set t p c) q c) x 0 ≡ get_or t x 0
unwritten t p q c x m n = get_or-set_other (set t p c) q x c 0 n ∙ get_or-set_other t p x c 0 m

-- c is the cost of a closed walk at (u, v), whatever machine has these successors
abbrev pub CostFound : List ℕ → ℕ → ℕ → ℕ → ℕ → Type 0
CostFound words states u v c =
    (M : Machine) → SuccessorsOf M words → M.states ≡ states → Capped (λ m. Looped M m u v) no_cost c

-- the table has the costs of the pairs (u, v), v ≤ u, below place a, and the same at (v, u)
pub record LoopsBelow (words : List ℕ) (states : ℕ) (t : List ℕ) (a : ℕ) : Type 0 where
  pub size : length t ≡ 256
  pub at : (u v : ℕ) → u < 16 → v ≤ u → 16 * u + v < a → CostFound words states u v (entry t u v)
  pub same : (u v : ℕ) → u < 16 → v ≤ u → 16 * u + v < a → entry t v u ≡ entry t u v

module _ {words : List ℕ} {states : ℕ} where
  pub costs_none : {t : List ℕ} → length t ≡ 256 → LoopsBelow words states t 0
  costs_none e = record { size = e; at = λ u v k l m. absurd (omega arith); same = λ u v k l m. absurd (omega arith) }

  -- the rest of a row has pairs that are met the other way round
  pub costs_row : {t : List ℕ} (u : ℕ) → LoopsBelow words states t (16 * u + (u + 1)) → LoopsBelow words states t (16 * (u + 1))
  costs_row u w =
      record {
        size = w.size;
        at = λ u' v' k' l' m. w.at u' v' k' l' (omega arith);
        same = λ u' v' k' l' m. w.same u' v' k' l' (omega arith);
      }

  pub costs_more :
      {t : List ℕ} {c : ℕ} (u v : ℕ) → LoopsBelow words states t (16 * u + v) → u < 16 → v ≤ u → CostFound words states u v c →
      LoopsBelow words states (set (set t (16 * u + v) c) (16 * v + u) c) (16 * u + (v + 1))
  costs_more {t} {c} u v w k l f =
      let p = 16 * u + v in
      let q = 16 * v + u in
      record {
        size = length-set (set t p c) q c ∙ length-set t p c ∙ w.size;
        at = λ u' v' k' l' m. elim (ℕ_discrete (16 * u' + v') (16 * u + v)) [
          | yes d ↦
              let du : u' ≡ u = omega arith in
              let dv : v' ≡ v = omega arith in
              rw (written t p q c (16 * u' + v') (omega (arith, w.size)) (λ _. omega arith), du, dv) f
          | no d ↦
              rw (unwritten t p q c (16 * u' + v') (omega arith) (omega arith)) (w.at u' v' k' l' (omega arith))
        ];
        same = λ u' v' k' l' m. elim (ℕ_discrete (16 * u' + v') (16 * u + v)) [
          | yes d ↦
              let du : u' ≡ u = omega arith in
              let dv : v' ≡ v = omega arith in
              written t p q c (16 * v' + u') (omega (arith, w.size)) (λ n. absurd (n (omega arith))) ∙
              sym (written t p q c (16 * u' + v') (omega (arith, w.size)) (λ _. omega arith))
          | no d ↦
              unwritten t p q c (16 * v' + u') (omega arith) (omega arith) ∙
              w.same u' v' k' l' (omega arith) ∙
              sym (unwritten t p q c (16 * u' + v') (omega arith) (omega arith))
        ];
      }

  pub costs_all : {t : List ℕ} {a : ℕ} → LoopsBelow words states t a → a ≡ 16 * states → states ≤ 16 → LoopsFound words states t
  costs_all {t} {a} w e l M S s =
      record {
        size = w.size;
        at = λ u v h k. elim (dec_le v u) [
          | yes m ↦ w.at u v (omega arith) m (omega arith) M S s
          | no m ↦
              rw (w.same v u (omega arith) (omega arith) (omega arith))
              (capped_map (λ n. looped_swap) (λ n. looped_swap) (w.at v u (omega arith) (omega arith) (omega arith) M S s))
        ];
      }
