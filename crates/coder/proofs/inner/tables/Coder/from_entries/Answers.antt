-- `Coder::from_entries` meets its contract.
use Rattle.std.proofs.Common.{arith}
use Rattle.coder.proofs.Accepted.{entries_accepted}
use Rattle.coder.proofs.inner.tables.Coder.from_entries.Goals as goal

pub entry_table-requires : goal.entry_table-requires
entry_table-requires c =
    let a = entries_accepted _ _ _ _ c.requires in
    record { states_high = a.limits.states_high; size = a.size; offset_low = omega arith }

pub entry_table-requires-2 : goal.entry_table-requires-2
entry_table-requires-2 c =
    let a = entries_accepted _ _ _ _ c.requires in
    record { states_high = a.limits.states_high; size = a.size; offset_low = omega arith }
