-- `lengths` meets its contract: the lengths are read off the two costs of the first pair of start states.
use native.Mathlib.Omega.{arith}
use mathlib.Core.List.{List}
use Prim.Native.Nat.{ℕ, ◌<◌}
use lib.ListN.{get_or}
use Rattle.first_pair.specs.Cost.{too_long}
use Rattle.costs.specs.Starts.{total_of, StartPair, FirstStart}
use Rattle.loops.specs.Parts.{LengthsAsked}
use Rattle.loops.proofs.CostLengths.{CostsOf, pair_below, costs_of, read_all, read_in, read_out, lengths_found}
use Rattle.loops.proofs.inner.tables.lengths.Goals as goal

-- the number of the pair is that of two states, and its costs are those of some lengths
module _ {states starts : ℕ} {loops heads : List ℕ} {a : ℕ} (p : LengthsAsked states starts loops heads)
    (r : (b : ℕ) → StartPair states starts b → total_of loops heads b < too_long → FirstStart states starts loops heads a) where
  below : a < 256
  below = pair_below p.from (rw p.states_are at r)

  costs : CostsOf (get_or loops a 0) (get_or heads a 0)
  costs = costs_of p.from (rw p.states_are at r)

pub offset_bounds-costs-a : goal.offset_bounds-costs-a
offset_bounds-costs-a c = omega (arith, below c.requires c.first_start-a.ensures)

pub bounds-costs-a : goal.bounds-costs-a
bounds-costs-a c = below c.requires c.first_start-a.ensures

pub offset_bounds-costs-a-2 : goal.offset_bounds-costs-a-2
offset_bounds-costs-a-2 c = omega (arith, below c.requires c.first_start-a.ensures)

pub bounds-costs-a-2 : goal.bounds-costs-a-2
bounds-costs-a-2 c = below c.requires c.first_start-a.ensures

pub overflow_sub-result : goal.overflow_sub-result
overflow_sub-result c = let w = costs c.requires c.first_start-a.ensures in omega (arith, read_all w)

pub overflow_sub-result-2 : goal.overflow_sub-result-2
overflow_sub-result-2 c = let w = costs c.requires c.first_start-a.ensures in omega (arith, read_all w, read_in w)

pub overflow_sub-result-3 : goal.overflow_sub-result-3
overflow_sub-result-3 c = let w = costs c.requires c.first_start-a.ensures in omega (arith, read_all w, read_in w, read_out w)

pub returns : goal.returns
returns c = λ k conflicts e f. lengths_found f (rw e at c.first_start-a.ensures)
