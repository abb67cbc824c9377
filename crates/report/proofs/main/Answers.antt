-- `main` meets its contract: the text fits the bytes that it is written from.
use lib.Seq.{length-take-le}
use mathlib.Core.Path.{sym}
use native.Mathlib.Omega.{arith}
use Rattle.report.proofs.main.Goals as goal

pub slice_bounds-write_all-end : goal.slice_bounds-write_all-end
slice_bounds-write_all-end c =
    let h = c.report-text.ensures.padded in
    let r = c.report-text.result in
    sym (length-take-le r.len r.bytes (omega (arith, h.space, h.fits)))
