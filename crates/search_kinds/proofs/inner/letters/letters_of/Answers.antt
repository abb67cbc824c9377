use mathlib.Core.Path.{sym, ◌∙◌}
use native.Mathlib.Omega.{arith}
use Rattle.search_kinds.proofs.Apart.{held_more, held_less}
use Rattle.search_kinds.proofs.inner.letters.letters_of.Goals as goal
use Rattle.search_kinds.proofs.inner.letters.letters_of.Goals.{then-kind_of-k, else-kind_of-k}

pub loop-j-preserved : goal.loop-j-preserved
loop-j-preserved c = elim c.if-kind_of-k.branch [
  | then-kind_of-k w ↦ rw w.set-is (held_more c.loop-j.j c.loop-j.invariant (omega arith) (sym c.kind_of.ensures ∙ w.if-kind_of-k.true))
  | else-kind_of-k w ↦ rw w.set-is (held_less c.loop-j.j c.loop-j.invariant (λ e. w.if-kind_of-k.false (c.kind_of.ensures ∙ e)))
]
