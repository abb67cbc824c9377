-- `checked` meets its contract: what is judged in the setting of the words is judged in that of the file.
use Rattle.coder.proofs.Accepted.{accepted}
use Rattle.setting.proofs.Same.{coder_sound}
use Rattle.checker.proofs.Checking.{check_accepted, check_of, file_judged}
use Rattle.checker.proofs.inner.checked.Goals as goal

pub from_checked-c-requires : goal.from_checked-c-requires
from_checked-c-requires c = (check_accepted _ _ _ c.requires).file

pub start_states-starts-requires : goal.start_states-starts-requires
start_states-starts-requires c = coder_sound c.from_checked-c.ensures (accepted _ (check_accepted _ _ _ c.requires).file)

pub valid-requires : goal.valid-requires
valid-requires c =
    record { c = c.from_checked-c.result; of = check_of c.from_checked-c.ensures (check_accepted _ _ _ c.requires) }

pub returns : goal.returns
returns c =
    let e = c.from_checked-c.ensures in
    let r = check_accepted _ _ _ c.requires in
    file_judged e r (record { starts_are = c.start_states-starts.ensures; conflicts_are = c.different_letters-conflicts.ensures })
    (c.valid.ensures c.from_checked-c.result (check_of e r))
