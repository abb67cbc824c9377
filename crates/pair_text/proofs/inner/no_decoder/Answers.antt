-- `no_decoder` meets its contract.
use Rattle.placing.proofs.Placing.{written_then}
use Rattle.pair_text.proofs.inner.no_decoder.Goals as goal

pub returns : goal.returns
returns c =
    written_then (written_then c.put-a.ensures c.pair_line-b.ensures) c.letters_line.ensures
