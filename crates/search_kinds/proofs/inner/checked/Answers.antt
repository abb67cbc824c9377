-- `checked` meets its contract: the report on the coder of the file, with the word of its reachable states.
use Rattle.coder.proofs.Accepted.{accepted}
use Rattle.setting.proofs.Same.{coder_sound}
use Rattle.search_kinds.proofs.Reports.{search_kinds_accepted, says_same, started_closed}
use Rattle.search_kinds.proofs.inner.checked.Goals as goal

pub from_checked-c-requires : goal.from_checked-c-requires
from_checked-c-requires c = (search_kinds_accepted _ _ _ c.requires).list.file

pub start_states-starts-requires : goal.start_states-starts-requires
start_states-starts-requires c =
    coder_sound c.from_checked-c.ensures (accepted _ (search_kinds_accepted _ _ _ c.requires).list.file)

pub find-requires : goal.find-requires
find-requires c =
    let e = c.from_checked-c.ensures in
    let r = search_kinds_accepted _ _ _ c.requires in
    let a = accepted _ r.list.file in
    record { sound = coder_sound e a; closed = started_closed e a c.start_states-starts.ensures; low = r.list.low }

pub returns : goal.returns
returns c =
    let a = accepted _ (search_kinds_accepted _ _ _ c.requires).list.file in
    says_same c.from_checked-c.ensures a c.start_states-starts.ensures c.args.kinds.now c.find.result c.find.ensures
