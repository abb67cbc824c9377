-- `loops` meets its contract: the table has the costs of the pairs with a first state below u, and of those of u with a second below v.
use Prim.Native.Nat.{◌+◌, ◌*◌}
use Rattle.first_pair.specs.Cost.{CostTable}
use Rattle.cycles.proofs.Symmetry.{LoopsBelow}
use Rattle.cycles.proofs.inner.closed.loops.Given as goal

abbrev pub invariant-loop-u : goal.invariant-loop-u
invariant-loop-u l = LoopsBelow l.words l.states l.table (16 * l.u) × CostTable l.table

abbrev pub invariant-loop-v : goal.invariant-loop-v
invariant-loop-v l = LoopsBelow l.words l.states l.table (16 * l.u + l.v) × CostTable l.table
