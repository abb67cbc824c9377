use mathlib.Core.Path.{refl}
use Rattle.coder.proofs.Fill.{get_or_zeros}
use Rattle.mealy.proofs.StepWords.{steps_none, steps_more}
use Rattle.fitting.proofs.Making.{word_below}
use Rattle.fitting.proofs.inner.tables.by_output.Goals as goal

pub loop-p-init : goal.loop-p-init
loop-p-init c = steps_none refl (get_or_zeros 1024)

pub loop-p-preserved : goal.loop-p-preserved
loop-p-preserved c =
    rw (c.from.ensures, c.from-in-loop-p.ensures) (steps_more c.loop-p.invariant (word_below _ _ _ c.requires) c.given.ensures)
