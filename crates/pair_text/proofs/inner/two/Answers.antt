-- `two` meets its contract.
use Rattle.pair_text.proofs.Spaced.{spaced_both}
use Rattle.pair_text.proofs.inner.two.Goals as goal

pub returns : goal.returns
returns c =
    spaced_both c.args.x c.args.y c.word_number-a.ensures c.word_number.ensures
