-- `write` meets its contract: the reader's refusal, or its counts and the lines of the verdict.
use Rattle.report_text.proofs.Reporting.{refused_short, header_counts, counts_short, report_refused, report_accepted}
use native.Mathlib.Omega.{arith}
use Rattle.report_text.proofs.inner.write.Goals as goal

pub refused-requires : goal.refused-requires
refused-requires c =
    (omega (arith, c.number.ensures, refused_short _ c.counts.ensures c.in-Err.is), omega (arith, c.requires))

pub coder_line-at-requires : goal.coder_line-at-requires
coder_line-at-requires c =
    let l = counts_short _ c.counts.ensures c.in-Ok.is in
    (omega (arith, l), omega (arith, l), omega (arith, l), omega (arith, c.requires))

pub verdict_lines-requires : goal.verdict_lines-requires
verdict_lines-requires c = (
  (header_counts _ c.counts.ensures c.in-Ok.is).none,
  omega (arith, c.coder_line-at.auto.out, c.coder_line-at.ensures.upper_bound, c.requires),
)

pub returns-in-Err : goal.returns-in-Err
returns-in-Err c =
    report_refused _ c.counts.ensures c.in-Err.is (rw c.number.ensures at c.refused.ensures)

pub returns-in-Ok : goal.returns-in-Ok
returns-in-Ok c =
    report_accepted _ c.counts.ensures c.in-Ok.is c.coder_line-at.ensures.placed c.coder_line-at.ensures.upper_bound c.verdict_lines.ensures
