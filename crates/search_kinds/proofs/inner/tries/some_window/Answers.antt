-- `some_window` meets its contract: whether the least window for the word of the kind alone is one.
use Rattle.kind_list.specs.KindList.{kind_of}
use Rattle.search_kinds.proofs.Apart.{apart_within}
use Rattle.search_kinds.proofs.Tries.{told}
use Rattle.search_kinds.proofs.inner.tries.some_window.Goals as goal

pub returns : goal.returns
returns c =
    rw c.is_some.ensures
    (told _ c.args.depths.now.sound (apart_within (kind_of c.args.kinds.now) c.args.k c.requires.1) c.least_window.result c.least_window.ensures)
