use mathlib.Core.Path.{◌≡◌}
use native.Mathlib.Omega.{arith}
use Rattle.starts.proofs.After.{settle_first, settle_more, settle_same}
use Rattle.starts.proofs.inner.after.Goals as goal

pub loop-init : goal.loop-init
loop-init c = settle_first

pub returns-then-next-to : goal.returns-then-next-to
returns-then-next-to c = let i = c.loop in settle_same i.counter i.invariant c.image-next.ensures c.if-next-to.true _ (omega arith)

pub loop-preserved : goal.loop-preserved
loop-preserved c = let i = c.loop in settle_more i.counter i.invariant c.image-next.ensures

pub returns : goal.returns
returns c = let i = c.loop in let e : i.counter ≡ c.args.settle = omega arith in rw e at i.invariant
