-- `coder_line` meets its contract.
use Rattle.placing.proofs.Placing.{written_then, written_both}
use Rattle.text.specs.Ascii.{space}
use Rattle.report_text.proofs.Lengths.{coder_length}
use native.Mathlib.Omega.{arith}
use Rattle.report_text.proofs.inner.coder_line.Goals as goal

pub returns : goal.returns
returns c =
    let second = written_both space _ c.word_number-a.ensures c.word_number-b.ensures in
    let third = written_both space _ second c.word_number-c.ensures in
    let line = written_then third c.put.ensures in
    let l = coder_length c.args.states c.args.inputs c.args.outputs c.requires.0 c.requires.1 c.requires.2 in
    record { placed = line; upper_bound = omega (arith, line.end, l) }
