-- `other_kinds` meets its contract: all letters but those of the kind of i.
use Rattle.kind_list.specs.KindList.{kind_of}
use Rattle.search_kinds.proofs.Apart.{other_held}
use Rattle.search_kinds.proofs.inner.letters.other_kinds.Goals as goal

pub returns : goal.returns
returns c =
    other_held (kind_of c.args.kinds.now) c.kind_of.ensures c.letters_of.ensures
