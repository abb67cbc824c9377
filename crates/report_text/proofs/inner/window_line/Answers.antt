-- `window_line` meets its contract.
use Rattle.placing.proofs.Placing.{written_then, written_both}
use Rattle.text.specs.Ascii.{space}
use Rattle.report_text.proofs.inner.window_line.Goals as goal

pub returns : goal.returns
returns c =
    written_then (written_both space _ c.word_number-a.ensures c.word_number-b.ensures) c.put.ensures
