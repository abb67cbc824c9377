-- `successors` meets its contract: the words that are filled from the entries by state and output letter.
use mathlib.Core.Bool.{false}
use Rattle.fitting.proofs.Meaning.{entries_asked, parts_high, next_low}
use Rattle.cycles.proofs.Meaning.{fill_asked, filled_successors}
use Rattle.cycles.proofs.inner.successors.successors.Goals as goal

pub by_output-to-requires : goal.by_output-to-requires
by_output-to-requires c = let s = c.requires in rw c.place_states-own.ensures (entries_asked s _ _ (parts_high false) (next_low s))

pub fill-requires : goal.fill-requires
fill-requires c = fill_asked c.requires (rw c.place_states-own.ensures at c.by_output-to.ensures)

pub returns : goal.returns
returns c = filled_successors c.requires (rw c.place_states-own.ensures at c.by_output-to.ensures) c.fill.ensures
