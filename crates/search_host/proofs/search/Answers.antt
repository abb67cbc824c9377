-- `search` meets its promise: the library's own search, laid out.
use mathlib.Core.Path.{refl}
use borrow.Author.Tests.{leb-true}
use Rattle.coder.proofs.Refusals.{via}
use Rattle.layout.proofs.Hosting.{refusal_handed}
use Rattle.search_host.proofs.Hosting.{search_others}
use Rattle.search_host.proofs.search.Goals as goal

pub put_verdict-requires : goal.put_verdict-requires
put_verdict-requires c = leb-true _ _ (via c.roomy.ensures (search_others _ _ _ _ _ _ _ c.in-Ok.ensures refl))

pub returns-in-Err : goal.returns-in-Err
returns-in-Err c = refusal_handed _ _ c.number.ensures (rw c.roomy.ensures at c.in-Err.ensures)
