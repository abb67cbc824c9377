-- `of_coder` meets its contract: the entries of the coder by state, by next state, and by state with their letters.
use mathlib.Core.Bool.{true, false}
use Rattle.fitting.proofs.Meaning.{entries_asked, parts_high, next_low}
use Rattle.fitting.proofs.inner.tables.Sets.of_coder.Goals as goal

pub by_output-requires : goal.by_output-requires
by_output-requires c =
    let s = c.requires in
    rw c.place_states-own.ensures (entries_asked s _ _ (parts_high false) (next_low s))

pub by_output-requires-2 : goal.by_output-requires-2
by_output-requires-2 c =
    let s = c.requires in
    rw c.place_states-own.ensures (entries_asked s _ _ (next_low s) (parts_high false))

pub by_output-requires-3 : goal.by_output-requires-3
by_output-requires-3 c =
    let s = c.requires in
    rw (c.place_states-own.ensures, c.place_letters-letters.ensures) (entries_asked s _ _ (parts_high false) (parts_high true))
