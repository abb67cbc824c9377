-- `search_kinds` meets its promise: the library's own call, laid out.
use mathlib.Core.Path.{refl}
use borrow.Author.Tests.{leb-true}
use Rattle.coder.proofs.Refusals.{via}
use Rattle.layout.proofs.Hosting.{refusal_handed}
use Rattle.kinds_host.proofs.Hosting.{search_kinds_others}
use Rattle.kinds_host.proofs.search_kinds.Goals as goal

pub put_report-requires : goal.put_report-requires
put_report-requires c = leb-true _ _ (via c.roomy.ensures (search_kinds_others _ _ _ _ c.in-Ok.ensures refl))

pub returns-in-Err : goal.returns-in-Err
returns-in-Err c = refusal_handed _ _ c.number.ensures (rw c.roomy.ensures at c.in-Err.ensures)
