use mathlib.Core.Path.{refl}
use native.Mathlib.Omega.{arith}
use Rattle.first_pair.proofs.Costs.{table_endless, table_set}
use Rattle.costs.proofs.ConflictCosts.{costs_none, costs_more, edges_asked, marked_done}
use Rattle.costs.proofs.inner.marked.marked.Goals as goal

pub loop-a-init : goal.loop-a-init
loop-a-init c = (costs_none refl, table_endless)

pub least_conflict-requires : goal.least_conflict-requires
least_conflict-requires c =
    let p = c.requires in
    let h = p.sound.states_high in
    (edges_asked p, omega arith, omega arith)

pub loop-a-preserved : goal.loop-a-preserved
loop-a-preserved c =
    let h = c.requires.sound.states_high in (
      costs_more c.loop-a.invariant.0 (omega arith)
          (record { r = c.least_conflict.result; capped = c.least_conflict.ensures; is = refl }),
      table_set c.loop-a.invariant.1 (omega arith) (let m = c.least_conflict.ensures.high in omega arith),
    )

pub returns : goal.returns
returns c = (c.loop-a.invariant.1, marked_done c.requires c.loop-a.invariant.0 c.loop-a-test.false)
