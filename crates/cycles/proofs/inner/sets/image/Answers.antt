use mathlib.Core.Path.{◌≡◌}
use Rattle.coder.proofs.Fill.{get_or_zeros}
use Rattle.cycles.proofs.PairSets.{rows_none, image_none, image_more, image_all}
use native.Mathlib.Omega.{arith}
use Rattle.cycles.proofs.inner.sets.image.Goals as goal

pub loop-u-init : goal.loop-u-init
loop-u-init c = image_none rows_none (get_or_zeros 16)

pub add_row-requires : goal.add_row-requires
add_row-requires c = (c.requires.0, omega arith, c.loop-u.invariant.rows)

pub loop-u-preserved : goal.loop-u-preserved
loop-u-preserved c = image_more c.loop-u.invariant c.add_row.ensures

pub returns : goal.returns
returns c = let e : c.loop-u.u ≡ c.args.states = omega arith in image_all (rw e at c.loop-u.invariant)
