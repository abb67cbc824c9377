use mathlib.Core.Path.{◌≡◌}
use native.Mathlib.Omega.{arith}
use Rattle.first_pair.proofs.Capping.{below_none, below_one}
use Rattle.costs.proofs.ConflictCosts.{on_first, on_conflict}
use Rattle.costs.proofs.inner.marked.least_conflict.Goals as goal

pub loop-i-init : goal.loop-i-init
loop-i-init c = below_none

pub loop-i-preserved : goal.loop-i-preserved
loop-i-preserved c =
    let p = c.args in
    below_one c.loop-i.invariant
    (on_first p.c.now.next p.c.now.output p.letters.now p.conflicts.now p.t.now p.u p.v c.loop-i.i c.from-in-loop-i.ensures c.from.ensures
    c.least_on-least.ensures)

pub returns : goal.returns
returns c =
    let e : c.loop-i.i ≡ c.args.c.now.inputs = omega arith in
    on_conflict (rw e at c.loop-i.invariant)
