-- `refusal::string` meets its contract: the refusals of the file and of the window's numbers, then 11 and 13 in order.
use Rattle.std.proofs.Common.{sym, arith}
use Rattle.coder.proofs.Accepted.{accepted}
use Rattle.decoder_refusal.proofs.Accepting.{limits_accepted}
use Rattle.decoder_refusal.proofs.inner.refusal.string.Goals as goal

pub places-requires : goal.places-requires
places-requires c = (limits_accepted _ _ (sym c.in_ok-limits.ensures)).small

pub bounds-file-5 : goal.bounds-file-5
bounds-file-5 c = omega (arith, accepted _ (limits_accepted _ _ (sym c.in_ok-limits.ensures)).file)
