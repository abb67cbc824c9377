-- `checked` meets its contract: the letters that fit, and the answer of their word.
use Rattle.kind_list.specs.KindList.{kind_of}
use Rattle.window_kinds.proofs.Accepting.{window_kinds_accepted, as_letters}
use Rattle.window_kinds.proofs.SetAnswers.{holds_kinds_right}
use Rattle.window_kinds.proofs.inner.checked.Goals as goal

pub letters-requires : goal.letters-requires
letters-requires c = as_letters _ _ _ _ _ _ c.requires

pub kinds_answer-requires : goal.kinds_answer-requires
kinds_answer-requires c = (window_kinds_accepted _ _ _ _ _ _ c.requires).list.low

pub returns : goal.returns
returns c =
    rw c.kinds_answer.ensures
    (holds_kinds_right (kind_of c.args.kinds.now) c.letters.ensures)
