-- `same_kind` meets its contract: the letters of the kind without i, or none.
use Rattle.mealy.specs.Word.{Has}
use Rattle.kind_list.specs.KindList.{kind_of}
use Rattle.search_kinds.proofs.Apart.{same_held}
use Rattle.search_kinds.proofs.inner.letters.same_kind.Goals as goal

pub returns-then-has : goal.returns-then-has
returns-then-has c =
    same_held (kind_of c.args.kinds.now) (Has c.args.carried) c.kind_of-k.ensures c.letters_of.ensures c.requires.1
    (c.has.ensures.yes' c.if-has.true)
