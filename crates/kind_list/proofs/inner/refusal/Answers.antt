-- `refusal` meets its contract: the file's refusals, then 16.
use Rattle.std.proofs.Common.{sym, arith}
use Rattle.coder.proofs.Accepted.{accepted}
use Rattle.kind_list.proofs.inner.refusal.Goals as goal

pub bounds-file-4 : goal.bounds-file-4
bounds-file-4 c = omega (arith, accepted _ (sym c.in_ok-refusal.ensures))
