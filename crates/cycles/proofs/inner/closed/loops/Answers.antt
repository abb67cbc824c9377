use Prim.Native.Nat.{◌+◌}
use mathlib.Core.Path.{◌≡◌, refl}
use Rattle.first_pair.proofs.Costs.{table_endless, table_set}
use Rattle.cycles.proofs.Symmetry.{looped_cost, costs_none, costs_row, costs_more, costs_all}
use native.Mathlib.Omega.{arith}
use Rattle.cycles.proofs.inner.closed.loops.Goals as goal

pub loop-u-init : goal.loop-u-init
loop-u-init c = (costs_none refl, table_endless)

pub loop-v-preserved : goal.loop-v-preserved
loop-v-preserved c =
    let i = c.loop-v in
    let b = c.requires.1 in (
      costs_more c.loop-u.u i.v i.invariant.0 (omega arith) (omega arith) (λ M S e. looped_cost (c.cycle-cost.ensures.1 M S e)),
      table_set (table_set i.invariant.1 (omega arith) (omega (arith, c.cycle-cost.ensures.0))) (omega arith) (omega (arith, c.cycle-cost.ensures.0)),
    )

pub loop-u-preserved : goal.loop-u-preserved
loop-u-preserved c = let i = c.loop-v.invariant in let e : c.loop-v.v ≡ c.loop-u.u + 1 = omega arith in (costs_row c.loop-u.u (rw e at i.0), i.1)

pub returns : goal.returns
returns c = (c.loop-u.invariant.1, costs_all c.loop-u.invariant.0 (omega arith) c.requires.1)
