-- `apart` meets its contract: the letters of the same kind, and those of other kinds besides.
use Rattle.mealy.specs.Word.{Has}
use Rattle.kind_list.specs.KindList.{kind_of}
use Rattle.search_kinds.proofs.Apart.{across_held}
use Rattle.search_kinds.proofs.inner.letters.apart.Goals as goal

pub returns-then-across : goal.returns-then-across
returns-then-across c =
    rw c.if-across.true
    (across_held (kind_of c.args.kinds.now) (Has c.args.carried) c.same_kind-same.ensures c.other_kinds.ensures)
