-- `inner::run` meets its promise: a run that is not refused has room for its output letters.
use Rattle.std.proofs.Common.{◌≡◌, length, sym}
use lib.Dec.{leb}
use borrow.Author.Tests.{leb-true}
use Rattle.coder.proofs.Refusals.{both_true}
use Rattle.running.specs.Run.{run_refusal_in}
use Rattle.running.proofs.Running.{run_accepted, asked}
use Rattle.running.proofs.inner.run.Goals as goal

pub checked-end-requires : goal.checked-end-requires
checked-end-requires c =
    let a = c.args in
    let z : run_refusal_in a.file.now a.start a.input.now (length a.output.now) a.others ≡ 0 = sym (rw c.enough.ensures at c.in_ok-refusal.ensures) in
    let h = both_true (leb (length a.input.now) (length a.output.now)) a.others (run_accepted _ _ _ _ z).fits in
    asked _ _ _ _ _ z (leb-true _ _ h.0)
