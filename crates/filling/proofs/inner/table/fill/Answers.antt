-- `fill` meets its contract.
use native.Mathlib.Omega.{arith}
use Rattle.filling.proofs.Filling.{fill_asked, table_filled}
use Rattle.filling.proofs.inner.table.fill.Goals as goal

pub fill_part-requires : goal.fill_part-requires
fill_part-requires c = let p = c.requires in fill_asked _ p c.start_sets-v.ensures (omega (arith, p.inside))

pub returns : goal.returns
returns c = λ d a e h.
    table_filled a.sound c.start_sets-v.ensures h c.requires.inside
    (c.fill_part.ensures d a e)
