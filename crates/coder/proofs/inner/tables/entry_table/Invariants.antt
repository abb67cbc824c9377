-- `entry_table` meets its contract. The table is filled below k; from 16 N on it holds 0, as there are no entries.
use Rattle.std.proofs.Common.{◌/◌, ◌%◌}
use Rattle.coder.specs.File.{entry_of}
use Rattle.coder.proofs.Fill.{Filled}
use Rattle.coder.proofs.inner.tables.entry_table.Given as goal

abbrev pub invariant-loop-k : goal.invariant-loop-k
invariant-loop-k l = Filled 256 (λ j. entry_of l.states l.inputs l.entries l.offset (j / 16) (j % 16)) l.initial.table l.k l.table
