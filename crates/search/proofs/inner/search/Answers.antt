-- `inner::search` meets its promise: refused with nothing written, or the verdict on the file.
use mathlib.Core.Path.{refl, sym, ◌∙◌}
use lib.ListN.{length}
use Rattle.coder.proofs.Refusals.{upon_done}
use Rattle.coder.proofs.Refused.{handed_on, refused_is, refused_upon}
use Rattle.search.proofs.Files.{search_asked}
use Rattle.search.proofs.inner.search.Goals as goal

pub returns-in_err-refusal : goal.returns-in_err-refusal
returns-in_err-refusal c =
    let n = rw c.enough.ensures at c.in_err-refusal.ensures in
    refused_upon _ _ n _ _ (record { is = handed_on _ c.from_residual.ensures.1 ∙ refused_is _ _ n; stays = refl })

pub checked-requires : goal.checked-requires
checked-requires c =
    let a = c.args in
    search_asked _ _ (length a.letters.now) a.others (sym (rw c.enough.ensures at c.in_ok-refusal.ensures))

pub returns : goal.returns
returns c =
    upon_done _ _ _ (sym (rw c.enough.ensures at c.in_ok-refusal.ensures))
    (record { verdict = c.checked.result; is = refl; says = c.checked.ensures })
