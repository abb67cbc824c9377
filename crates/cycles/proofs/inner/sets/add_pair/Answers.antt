use mathlib.Core.Path.{refl}
use Prim.Native.Nat.{◌<◌}
use Rattle.coder.proofs.Fill.{filled_none, filled_more}
use Rattle.cycles.proofs.PairSets.{besides_all}
use native.Mathlib.Omega.{arith}
use Rattle.cycles.proofs.inner.sets.add_pair.Goals as goal

pub loop-x-init : goal.loop-x-init
loop-x-init c = filled_none c.requires.2.size

pub loop-x-preserved : goal.loop-x-preserved
loop-x-preserved c = let i = c.loop-x in let l : i.x < 16 = omega arith in filled_more i.invariant l (rw (i.invariant.left i.x (omega arith)) refl)

pub returns : goal.returns
returns c = let i = c.loop-x in besides_all i.invariant (omega arith) c.requires.2 (λ x. c.requires.0.bound _)
