-- `refused` meets its contract.
use Rattle.placing.proofs.Placing.{written_then}
use Rattle.report_text.proofs.inner.refused.Goals as goal

pub returns : goal.returns
returns c =
    written_then c.word_number-a.ensures c.put.ensures
