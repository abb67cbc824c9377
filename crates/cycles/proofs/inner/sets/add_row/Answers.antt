use Rattle.setting.proofs.Passing.{member_below}
use Rattle.cycles.proofs.PairSets.{row_none, row_more, row_all}
use native.Mathlib.Omega.{arith}
use Rattle.cycles.proofs.inner.sets.add_row.Goals as goal

pub loop-v-init : goal.loop-v-init
loop-v-init c = rw (c.into_iter-v-iterator.ensures.into_iter_gives, c.of-v-items.ensures) (row_none (omega arith) c.requires.2)

pub add_pair-requires : goal.add_pair-requires
add_pair-requires c =
    let i = c.loop-v.invariant in
    (c.requires.0, omega (arith, member_below c.in-Some.ensures.steps i.left), i.passed.rows)

pub loop-v-preserved : goal.loop-v-preserved
loop-v-preserved c = row_more c.in-Some.ensures.steps c.loop-v.invariant c.add_pair.ensures

pub returns : goal.returns
returns c = row_all c.loop-v.invariant c.in-None.ensures.steps
