-- `tables` meets its contract: closed walks, then what follows the differing letter, then all that follows the back loop.
use mathlib.Core.Bool.{true, false}
use Rattle.fitting.proofs.Meaning.{entries_asked, parts_high}
use Rattle.loops.proofs.MakingTables.{tables_made}
use Rattle.loops.proofs.inner.tables.tables.Goals as goal

pub by_output-rows-requires : goal.by_output-rows-requires
by_output-rows-requires c =
    rw (c.place_states-own.ensures, c.place_letters-letters.ensures) (entries_asked c.requires.0 _ _ (parts_high false) (parts_high true))

pub marked-heads-requires : goal.marked-heads-requires
marked-heads-requires c =
    record {
      sound = c.requires.0;
      letters_are = rw (c.place_states-own.ensures, c.place_letters-letters.ensures) at c.by_output-rows.ensures;
    }

pub returns : goal.returns
returns c =
    tables_made _ _ _ _ _ _ _ c.requires.1 c.loops-loops.ensures c.lower_costs.ensures.1 c.marked-heads.ensures.1 c.lower_costs-2.ensures
