use native.Mathlib.Omega.{arith}
use Rattle.chains.proofs.Building.{below_none, below_skip, below_more, below_all}
use Rattle.chains.proofs.Entries.{is_entry_lem, past_inputs}
use Rattle.chains.proofs.inner.by_key.Goals as goal
use Rattle.chains.proofs.inner.by_key.Goals.{then-p-inputs, else-p-inputs}

pub loop-p-init : goal.loop-p-init
loop-p-init c = below_none _ _ _

pub loop-p-preserved : goal.loop-p-preserved
loop-p-preserved c = elim c.if-p-inputs.branch [
  | then-p-inputs w ↦
      rw (w.last-is, w.previous-is)
      (below_more _ _ _ c.loop-p.invariant _ (is_entry_lem _ _ _ (omega arith) (omega arith)) w.from-key.ensures (rw w.from-key.ensures (c.requires.below _)) (omega arith))
  | else-p-inputs w ↦ rw (w.last-is, w.previous-is) (below_skip _ _ _ c.loop-p.invariant (past_inputs _ _ _ (omega arith)))
]

pub returns : goal.returns
returns c = below_all _ _ _ c.loop-p.p _ (omega arith) (omega arith) c.loop-p.invariant
