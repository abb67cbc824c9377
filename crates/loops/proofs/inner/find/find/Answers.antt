-- `find` meets its contract: the tables of costs, the starts and lengths by them, and the letters.
use mathlib.Core.Path.{refl}
use Rattle.loops.proofs.Finding.{lengths_from, between_from, found_pair}
use Rattle.loops.proofs.inner.find.find.Goals as goal

pub lengths-p-requires : goal.lengths-p-requires
lengths-p-requires c =
    record { c = c.args.c.now; conflicts = c.args.conflicts.now; from = lengths_from c.requires c.tables-costs.ensures; states_are = refl }

pub write_letters-requires : goal.write_letters-requires
write_letters-requires c =
    record {
      successors = c.successors-words.ensures;
      between = record {
        starts = c.args.starts;
        loops = c.tables-costs.result.loops;
        from = between_from c.requires c.tables-costs.ensures c.lengths-p.ensures;
        room = c.requires.room;
      };
    }

pub returns : goal.returns
returns c =
    let f = between_from c.requires c.tables-costs.ensures c.lengths-p.ensures in
    found_pair c.requires.room f (c.write_letters.ensures _ _ f)
