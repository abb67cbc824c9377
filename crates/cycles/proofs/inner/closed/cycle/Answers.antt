use Rattle.coder.proofs.Fill.{get_or_zeros}
use Rattle.cycles.proofs.PairSets.{rows_none}
use Rattle.cycles.proofs.Breadth.{ahead_first, ahead_more, searched_found, searched_ended}
use native.Mathlib.Omega.{arith}
use Rattle.cycles.proofs.inner.closed.cycle.Goals as goal

pub loop-k-init : goal.loop-k-init
loop-k-init c =
    let p = c.requires in
    ahead_first p.2 p.3 rows_none (get_or_zeros 16) (get_or_zeros 16) c.add_pair.ensures

pub returns-then-has : goal.returns-then-has
returns-then-has c =
    let p = c.requires in
    searched_found p.2 p.3 (c.loop-k.invariant.parts (omega arith) c.part.ensures) (c.has.ensures.yes' c.if-has.true)

pub loop-k-preserved : goal.loop-k-preserved
loop-k-preserved c =
    let p = c.requires in
    ahead_more p.2 p.3 (c.loop-k.invariant.parts (omega arith) c.part.ensures) (c.has.ensures.no' c.if-has.false) c.image-set.ensures

pub returns-after-loop-k : goal.returns-after-loop-k
returns-after-loop-k c = c.loop-k.invariant.limit (omega arith)

pub returns-then-not-part : goal.returns-then-not-part
returns-then-not-part c =
    let p = c.requires in
    searched_ended p.2 p.3 (c.loop-k.invariant.parts (omega arith) c.part.ensures) c.if-not-part.true
