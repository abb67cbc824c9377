-- `verdict_lines` meets its contract: the search is not refused, as the buffer has the bytes that it wants.
use Rattle.report_text.proofs.Reporting.{never_refused, window_short, window_lines, pair_asked, pair_lines}
use native.Mathlib.Omega.{arith}
use Rattle.report_text.proofs.inner.verdict_lines.Goals as goal

pub window_line-requires : goal.window_line-requires
window_line-requires c =
    let b = c.buffer-letters in
    let h = window_short _ b.result c.search.new.letters c.requires.0 b.ensures c.search.ensures c.in-Ok-Least.is c.in-Ok-Least.field-0-is in
    (omega (arith, h), omega (arith, h), omega (arith, c.requires.1))

pub no_decoder-requires : goal.no_decoder-requires
no_decoder-requires c =
    let b = c.buffer-letters in
    pair_asked _ b.result c.search.new.letters c.requires.0 b.ensures c.search.ensures c.in-Ok-NoDecoder.is c.in-Ok-NoDecoder.field-0-is (omega (arith, c.requires.1))

pub returns-in-Ok-Least : goal.returns-in-Ok-Least
returns-in-Ok-Least c =
    let b = c.buffer-letters in
    window_lines _ b.result c.search.new.letters c.requires.0 b.ensures c.search.ensures c.in-Ok-Least.is c.in-Ok-Least.field-0-is c.window_line.ensures

pub returns-in-Ok-NoDecoder : goal.returns-in-Ok-NoDecoder
returns-in-Ok-NoDecoder c =
    let b = c.buffer-letters in
    pair_lines _ b.result c.search.new.letters c.requires.0 b.ensures c.search.ensures c.in-Ok-NoDecoder.is c.in-Ok-NoDecoder.field-0-is c.no_decoder.ensures

pub returns-in-Err : goal.returns-in-Err
returns-in-Err c =
    let b = c.buffer-letters in
    absurd (never_refused _ b.result c.search.new.letters c.requires.0 b.ensures c.search.ensures c.in-Err.is)
