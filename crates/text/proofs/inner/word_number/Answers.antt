-- `word_number` meets its contract.
use Rattle.placing.proofs.Placing.{written_then}
use Rattle.text.proofs.inner.word_number.Goals as goal

pub returns : goal.returns
returns c =
    written_then c.put-next.ensures c.number.ensures
