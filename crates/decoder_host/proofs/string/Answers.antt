-- `string` meets its promise: the library's own call, laid out. A call that is not refused has room for its result.
use borrow.Author.Tests.{leb-true}
use Rattle.coder.proofs.Refusals.{via}
use Rattle.decoder_host.proofs.Hosting.{string_enough}
use Rattle.decoder_host.proofs.string.Goals as goal

pub put_count-requires : goal.put_count-requires
put_count-requires c =
    λ z. leb-true _ _ (via c.roomy.ensures (string_enough _ _ _ _ _ _ _ c.string-own.ensures z))
