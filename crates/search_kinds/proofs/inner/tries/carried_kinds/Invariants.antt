-- `carried_kinds` meets its contract. The word holds the carried kinds below k.
use Prim.Native.Nat.{ℕ}
use Rattle.mealy.specs.Word.{Holds}
use Rattle.least.specs.Report.{DepthsOf}
use Rattle.kind_list.specs.KindList.{kind_of}
use Rattle.search_kinds.specs.Tries.{started, CarriedBelow}
use Rattle.search_kinds.proofs.inner.tries.carried_kinds.Given as goal

abbrev pub invariant-loop-k : goal.invariant-loop-k
invariant-loop-k l =
    (starts : ℕ) → DepthsOf l.depths.coder.now starts l.depths.back l.depths.forward →
    Holds (CarriedBelow (started l.depths.coder.now starts) (kind_of l.kinds) l.k) l.carried
