-- `report` meets its contract: the report stands at the front of bytes that were 0.
use Rattle.report_text.proofs.Bytes.{text_promise, text_padded}
use Rattle.report_text.proofs.report.Goals as goal

pub returns : goal.returns
returns c =
    let z = c.zeros-bytes in
    record {
      report_promise = text_promise z.ensures.0 c.write-len.ensures;
      padded = text_padded z.ensures.0 z.ensures.1 c.write-len.ensures;
    }
