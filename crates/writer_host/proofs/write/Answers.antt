-- `write` meets its promise: the library's own writer, laid out. A call that is not refused has room for its result.
use borrow.Author.Tests.{leb-true}
use Rattle.coder.proofs.Refusals.{via}
use Rattle.writer_host.proofs.Hosting.{write_others}
use Rattle.writer_host.proofs.write.Goals as goal

pub put_count-requires : goal.put_count-requires
put_count-requires c =
    λ z. leb-true _ _ (via c.roomy.ensures (write_others _ _ _ _ _ _ _ _ c.write-own.ensures z))
