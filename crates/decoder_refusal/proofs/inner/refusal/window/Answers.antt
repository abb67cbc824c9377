-- `refusal::window` meets its contract: the refusals of the file and of the window's numbers, then those of the received letters.
use Rattle.std.proofs.Common.{sym, arith}
use Rattle.coder.proofs.Accepted.{accepted}
use Rattle.decoder_refusal.proofs.Accepting.{limits_accepted}
use Rattle.decoder_refusal.proofs.inner.refusal.window.Goals as goal

pub letters-requires : goal.letters-requires
letters-requires c = (limits_accepted _ _ (sym c.in_ok-limits.ensures)).small

pub bounds-file-5 : goal.bounds-file-5
bounds-file-5 c = omega (arith, accepted _ (limits_accepted _ _ (sym c.in_ok-limits.ensures)).file)
