use mathlib.Core.Path.{refl, ◌∙◌}
use native.Mathlib.Omega.{arith}
use Rattle.filling.proofs.Filling.{part_rows, part_next, last_long, last_asked, part_last, less_one, filling_start, filling_asked, filling_more}
use Rattle.filling.proofs.inner.table.+fill_part.Goals as goal

pub fill_last-requires : goal.fill_last-requires
fill_last-requires t c = last_asked c.requires c.if-left-eq1.true

pub returns-then-left-eq1 : goal.returns-then-left-eq1
returns-then-left-eq1 t c = λ d a e.
    part_last c.if-left-eq1.true c.requires.inside (c.fill_last.auto.table ∙ c.requires.size) (rw (last_long c.requires c.if-left-eq1.true) at (c.fill_last.ensures d a))

pub loop-o-init : goal.loop-o-init
loop-o-init t c = filling_start c.requires c.if-left-eq1.false (c.saturating_sub-after.ensures ∙ less_one _)

pub advance-requires : goal.advance-requires
advance-requires t c = (part_rows c.requires, part_next c.requires, omega (arith, c.requires.outputs_high), refl)

pub fill_part-requires : goal.fill_part-requires
fill_part-requires t c = (
  omega (arith, c.loop-o.invariant.more, c.decreases),
  filling_asked c.loop-o.invariant _ _ c.requires c.loop-o-test.true c.advance.ensures,
)

pub loop-o-preserved : goal.loop-o-preserved
loop-o-preserved t c =
    filling_more c.loop-o.invariant _ _ c.requires.words c.loop-o-test.true c.advance.ensures c.fill_part.ensures c.fill_part.auto.table
