-- `carries` meets its contract: a kind with no two letters is carried, any other where there is a window for it.
use mathlib.Core.Path.{sym, ◌∙◌}
use Rattle.kind_list.specs.KindList.{kind_of}
use Rattle.search_kinds.proofs.Tries.{no_letters, one_letter, single_told}
use Rattle.search_kinds.proofs.inner.tries.carries.Goals as goal

pub returns-in-None : goal.returns-in-None
returns-in-None c =
    single_told _ c.args.depths.now.sound (kind_of c.args.kinds.now) c.args.k
    (no_letters c.letters_of.ensures _ (sym c.answer_of.ensures ∙ c.in-None.is))

pub returns-in-Letter : goal.returns-in-Letter
returns-in-Letter c =
    single_told _ c.args.depths.now.sound (kind_of c.args.kinds.now) c.args.k
    (one_letter c.letters_of.ensures _ (sym c.answer_of.ensures ∙ c.in-Letter.is))
