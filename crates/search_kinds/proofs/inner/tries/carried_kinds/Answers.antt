use mathlib.Core.Path.{◌≡◌}
use native.Mathlib.Omega.{arith}
use Rattle.search_kinds.proofs.Apart.{held_more, held_less}
use Rattle.search_kinds.proofs.inner.tries.carried_kinds.Goals as goal
use Rattle.search_kinds.proofs.inner.tries.carried_kinds.Goals.{then-carries, else-carries}

pub loop-k-preserved : goal.loop-k-preserved
loop-k-preserved c = λ starts d.
    let l = c.args.depths.now.sound.inputs_high in
    elim c.if-carries.branch [
      | then-carries w ↦ rw w.carried-is (held_more c.loop-k.k (c.loop-k.invariant starts d) (omega arith) ((c.carries.ensures starts d).yes' w.if-carries.true))
      | else-carries w ↦ rw w.carried-is (held_less c.loop-k.k (c.loop-k.invariant starts d) ((c.carries.ensures starts d).no' w.if-carries.false))
    ]

pub returns : goal.returns
returns c =
    let e : c.loop-k.k ≡ c.args.depths.now.coder.now.inputs = omega arith in
    λ starts d. rw e at (c.loop-k.invariant starts d)
