-- `follow` meets its contract. After k letters the runs have come to u and v, with equal outputs so far.
use Prim.Native.Nat.{◌<◌}
use Rattle.mealy.specs.LoopedPair.{LoopedPair}
use Rattle.coder.specs.Limits.{max_states}
use Rattle.coder.specs.Table.{machine_of_coder}
use Rattle.coder.specs.declared.inner.tables.Coder.{Coder}
use Rattle.valid_pair.specs.Follow.{PairTables}
use Rattle.valid_pair.proofs.Following.{Passed}
use Rattle.valid_pair.proofs.inner.follow.follow.Given as goal

abbrev pub invariant-loop-k : goal.invariant-loop-k
invariant-loop-k l =
    (l.u < max_states) × (l.v < max_states) ×
    ((d : Coder) (p : LoopedPair) → PairTables d p l.c.next l.c.output l.letters →
    Passed (machine_of_coder d) p l.s l.t l.place l.n l.u l.v l.k)
