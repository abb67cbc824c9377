-- `run` meets its promise: the library's own run, laid out. A call that is not refused has room for its result.
use mathlib.Core.Path.{refl}
use native.Mathlib.Omega.{arith}
use borrow.Author.Tests.{leb-true}
use Rattle.coder.proofs.Refusals.{via}
use Rattle.running_host.proofs.Hosting.{run_others}
use Rattle.running_host.proofs.run.Goals as goal

pub put_fields-requires : goal.put_fields-requires
put_fields-requires c = omega (arith, leb-true _ _ (via c.roomy.ensures (run_others _ _ _ _ _ _ _ c.in-Ok.ensures refl)))
