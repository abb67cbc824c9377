-- `search_kinds` meets its contract: the refusal, or the report.
use mathlib.Core.Path.{refl, sym, ◌∙◌}
use Rattle.coder.proofs.Refusals.{upon_done}
use Rattle.coder.proofs.Refused.{handed_on, refused_is, refused_upon}
use Rattle.search_kinds.proofs.Reports.{search_kinds_asked}
use Rattle.search_kinds.proofs.inner.search_kinds.Goals as goal

pub returns-in_err-refusal : goal.returns-in_err-refusal
returns-in_err-refusal c =
    let n = c.in_err-refusal.ensures in
    refused_upon _ _ n _ _ (handed_on _ c.from_residual.ensures.1 ∙ refused_is _ _ n)

pub checked-requires : goal.checked-requires
checked-requires c = search_kinds_asked _ _ _ (sym c.in_ok-refusal.ensures)

pub returns : goal.returns
returns c =
    upon_done _ _ _ (sym c.in_ok-refusal.ensures) (record { verdict = c.checked.result; is = refl; says = c.checked.ensures })
