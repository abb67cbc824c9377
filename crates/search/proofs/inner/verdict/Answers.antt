-- `verdict` meets its contract: the least window or, where there is none, the first looped pair.
use Rattle.search.proofs.Verdicts.{window_says, some_valid, pair_says}
use Rattle.values.specs.Order.{relation_of}
use Rattle.search.proofs.inner.verdict.Goals as goal

pub find-requires : goal.find-requires
find-requires c =
    let a = c.args in
    record {
      sound = c.requires.0;
      some =
          some_valid a.c.now a.starts a.conflicts.now (relation_of a.order) a.settle c.requires.0 c.requires.1
          ((rw c.new-depths.ensures.coder at (c.in-None.ensures a.starts)) c.new-depths.ensures.depths);
      room = c.requires.2;
    }

pub returns-in-None : goal.returns-in-None
returns-in-None c = pair_says _ _ _ (relation_of c.args.order) c.args.settle c.requires.1 _ _ _ c.find.ensures

pub returns-in-Some : goal.returns-in-Some
returns-in-Some c =
    let a = c.args in
    window_says a.c.now a.starts a.conflicts.now (relation_of a.order) a.settle _
    ((rw c.new-depths.ensures.coder at (c.in-Some.ensures a.starts)) c.new-depths.ensures.depths)
