-- `checked` meets its contract: the first six bytes and, behind them, the entries.
use Rattle.writer.proofs.Writing.{file_written}
use Rattle.writer.proofs.inner.checked.Goals as goal

pub returns : goal.returns
returns c = file_written c.requires c.first_six-first.ensures c.put-at.ensures c.put.ensures
