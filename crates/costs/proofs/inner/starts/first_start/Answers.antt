use native.Mathlib.Omega.{arith}
use mathlib.Core.Path.{refl}
use Rattle.costs.proofs.FirstStarts.{start_none, start_kept, start_lower, start_found}
use Rattle.costs.proofs.inner.starts.first_start.Goals as goal
use Rattle.costs.proofs.inner.starts.first_start.Goals.{then-both_start+then-total-fewest, then-both_start+else-total-fewest, else-both_start}

pub loop-a-init : goal.loop-a-init
loop-a-init c = start_none

pub overflow_add-total : goal.overflow_add-total
overflow_add-total c =
    omega (arith, c.requires.1 c.loop-a.a, c.requires.2 c.loop-a.a)

pub loop-a-preserved : goal.loop-a-preserved
loop-a-preserved c =
    let f = c.loop-a.invariant in
    elim c.if-both_start.branch [
      | then-both_start+then-total-fewest w ↦
          rw (w.fewest-is, w.first-is) (start_lower f (c.both_start.ensures.yes' w.if-both_start.true) refl w.if-total-fewest.true)
      | then-both_start+else-total-fewest w ↦ rw (w.fewest-is, w.first-is) (start_kept f (λ p. w.if-total-fewest.false))
      | else-both_start w ↦ rw (w.fewest-is, w.first-is) (start_kept f (λ p. absurd (c.both_start.ensures.no' w.if-both_start.false p)))
    ]

pub returns : goal.returns
returns c = start_found c.loop-a.invariant c.loop-a-test.false
