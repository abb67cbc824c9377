-- `join` meets its promise: the library's own call, laid out. A call that is not refused has room for its result.
use borrow.Author.Tests.{leb-true}
use Rattle.coder.proofs.Refusals.{via}
use Rattle.joining_host.proofs.Hosting.{join_others}
use Rattle.joining_host.proofs.join.Goals as goal

pub put_count-requires : goal.put_count-requires
put_count-requires c =
    λ z. leb-true _ _ (via c.roomy.ensures (join_others _ _ _ _ _ _ c.join-own.ensures z))
