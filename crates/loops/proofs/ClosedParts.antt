-- A loop's letters: the table from which the costs to one pair are found, what writing along them asks, and that it gives the lowest.
use mathlib.Core.Path.{◌≡◌, refl, ◌∙◌}
use mathlib.Core.List.{List}
use Prim.Native.Nat.{ℕ, ◌+◌, ◌*◌, ◌/◌, ◌%◌, ◌<◌, ◌≤◌}
use native.Mathlib.Omega.{arith}
use native.Mathlib.Decide.{ℕ_discrete}
use lib.ListN.{set, replicate, length-set, get_or-replicate}
use lib.Seq.{get_or-set_same, get_or-set_other}
use Rattle.mealy.specs.Machine.{Machine, Total}
use Rattle.coder.specs.Table.{machine_of_coder, Sound}
use Rattle.coder.specs.declared.inner.tables.Coder.{Coder}
use Rattle.first_pair.specs.Reach.{Pairs, At, Into}
use Rattle.first_pair.specs.Cost.{Cost, Only, LeastCosts, entry, no_cost}
use Rattle.first_pair.proofs.Costs.{table_endless, table_set, least_seeds, cost_on}
use Rattle.first_pair.proofs.Found.{closed_along, closed_lowest, closed_first}
use Rattle.costs.specs.Lowering.{LoweringAsked, LoweringDone}
use Rattle.letters.specs.Walk.{CoderArrays, StatePair, SomeInto, WriteFrom, WriteAsked, WriteDone}
use Rattle.loops.specs.Parts.{ClosedAsked, ClosedWritten}

-- ---- the cost 0 at one pair

-- no letters to the pair a, and no others: a table to begin from
abbrev pub OnlyAt : ℕ → List ℕ → Type 0
OnlyAt a r = (n : ℕ) → n ≤ 16 → LeastCosts n (Only (At (a / 16) (a % 16))) r

-- the table with which lowering begins
abbrev pub only_table : ℕ → List ℕ
only_table a = set (replicate 256 no_cost) a 0

pub only_at : {a : ℕ} → a < 256 → OnlyAt a (only_table a)
only_at {a} l n few = record {
  size = length-set (replicate 256 no_cost) a 0;
  at = λ u v l₁ l₂. elim (ℕ_discrete (16 * u + v) a) [
    | yes q ↦
        let z : entry (only_table a) u v ≡ 0 = rw q (get_or-set_same (replicate 256 no_cost) a 0 0 l) in
        record { high = omega arith; holds = λ s. (z, (omega arith, omega arith)); least = λ m s. omega arith }
    | no q ↦
        let z : entry (only_table a) u v ≡ no_cost =
        get_or-set_other (replicate 256 no_cost) a (16 * u + v) 0 0 q ∙ get_or-replicate 256 (16 * u + v) no_cost 0 (omega arith) in
        record { high = omega arith; holds = λ s. absurd (omega arith); least = λ m s. absurd (q (omega arith)) }
  ];
}

-- ---- the machine and the arrays of a sound coder

pub sound_total : {c : Coder} → Sound c → Total (machine_of_coder c)
sound_total s u i l m = s.next_state u i

pub own_arrays : {c : Coder} → Sound c → CoderArrays c c.next c.output c.inputs
own_arrays s = record { sound = s; next_is = refl; output_is = refl; inputs_is = refl }

pub some_into : {c : Coder} {P : Pairs} {u v : ℕ} → ((i : ℕ) × (j : ℕ) × Into (machine_of_coder c) P u v i j) → SomeInto c P u v
some_into h = record { i = h.0; j = h.1; into = h.2 }

-- ---- the letters

-- the number of a pair of states
pub pair_low : {c : Coder} {a : ℕ} → Sound c → StatePair c a → a < 256
pair_low s p = omega (arith, p.0, s.states_high)

-- what lowering asks
pub only_asked :
    {c : Coder} {words : List ℕ} {a n place : ℕ} {before : List ℕ} → ClosedAsked c words a n place before →
    LoweringAsked words c.states 1 (only_table a)
only_asked w =
    record {
      shape = w.successors.shape;
      few = w.sound.states_high;
      step_high = omega arith;
      table = table_set table_endless (pair_low w.sound w.pair) (omega arith);
    }

module _ {c : Coder} {words : List ℕ} {a n place : ℕ} {before : List ℕ} (w : ClosedAsked c words a n place before) {t d : List ℕ}
    (only : OnlyAt a t) (settled : LoweringDone words c.states 1 t d) where
  abbrev M : Machine
  M = machine_of_coder c

  total : Total M
  total = sound_total w.sound

  abbrev u : ℕ
  u = a / 16

  abbrev v : ℕ
  v = a % 16

  closed_least : LeastCosts c.states (Cost M 1 (Only (At u v))) d
  closed_least =
      least_seeds M total 1 (Only (At u v)) t d (only c.states w.sound.states_high) (settled M w.successors refl)

  closed_walk : WriteFrom c d 1 0 a n
  closed_walk =
      record {
        pair = w.pair;
        none = λ e. absurd (omega (arith, w.closed.letter));
        first = λ k e.
            some_into (closed_first M total u v n w.letters_high d closed_least w.pair.0 w.pair.1 w.shortest k e w.closed);
        on = λ k x y l₁ l₂ s z.
            some_into (cost_on M total (closed_along M total u v n w.letters_high d closed_least) k x y (omega arith) l₁ l₂ z);
      }

  pub closed_asks : WriteAsked c.next c.output c.inputs d 1 0 a n place before
  closed_asks = record {
    c = c;
    arrays = own_arrays w.sound;
    walk = closed_walk;
    step_high = omega arith;
    base_high = omega arith;
    letters_high = omega (arith, w.letters_high);
    place_high = w.place_high;
    room = w.room;
  }

  pub closed_writes :
      {after : List ℕ} {r : ℕ} → WriteDone c.next c.output c.inputs d 1 0 a n place before after r →
      ClosedWritten c a n place before after
  closed_writes h =
      let g = h c (own_arrays w.sound) closed_walk in
      record {
        lowest =
            closed_lowest M total u v n w.letters_high d closed_least w.pair.0 w.pair.1 w.shortest g.lowest;
        kept = g.kept;
      }
