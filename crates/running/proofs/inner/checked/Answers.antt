-- `checked` meets its contract: the loop over the letters on the file's tables is a run of the file's machine.
use mathlib.Core.Bool.{true}
use Rattle.running.proofs.Running.{run_accepted, runnable, ran_file}
use Rattle.running.proofs.inner.checked.Goals as goal

pub from_checked-requires : goal.from_checked-requires
from_checked-requires c = (run_accepted _ _ _ true c.requires.none).file

pub letters-requires : goal.letters-requires
letters-requires c = runnable c.from_checked.ensures c.requires

pub returns : goal.returns
returns c = ran_file c.from_checked.ensures c.requires c.letters.ensures
