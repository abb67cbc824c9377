-- `fill_last` meets its contract. The bytes of the first o letters are written.
use lib.ListN.{length}
use Rattle.filling.proofs.Filling.{LastFilling}
use Rattle.filling.proofs.inner.table.fill_last.Given as goal

abbrev pub invariant-loop-o : goal.invariant-loop-o
invariant-loop-o l = LastFilling l.rows.start l.rows.entries l.v l.here (length l.initial.table) l.table l.o
