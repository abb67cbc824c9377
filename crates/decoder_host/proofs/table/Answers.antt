-- `table` meets its promise: the library's own call, laid out. A call that is not refused has room for its result.
use borrow.Author.Tests.{leb-true}
use Rattle.coder.proofs.Refusals.{via}
use Rattle.decoder_host.proofs.Hosting.{table_enough}
use Rattle.decoder_host.proofs.table.Goals as goal

pub put_count-requires : goal.put_count-requires
put_count-requires c =
    λ z. leb-true _ _ (via c.roomy.ensures (table_enough _ _ _ _ _ _ c.table-own.ensures z))
