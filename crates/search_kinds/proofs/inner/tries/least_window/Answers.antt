-- `least_window` meets its contract: the words say which letters are told apart.
use Rattle.search_kinds.proofs.Tries.{tried_telling}
use Rattle.search_kinds.proofs.inner.tries.least_window.Goals as goal

pub returns : goal.returns
returns c =
    tried_telling _ c.args.depths.now.sound c.apart_words.ensures c.least_for.result c.least_for.ensures
