-- `checked` meets its contract: the writer makes the file of the joined coder's counts and entry bytes.
use mathlib.Core.Path.{sym}
use lib.Seq.{length-take-le}
use native.Mathlib.Omega.{arith}
use Rattle.joining.proofs.Coding.{entries_few, coders_match, write_asked, joined_written}
use Rattle.joining.proofs.inner.checked.Goals as goal

pub entries-bytes-requires : goal.entries-bytes-requires
entries-bytes-requires c = coders_match c.requires c.from_checked-c.ensures c.from_checked-d.ensures

pub slice_bounds-checked-end : goal.slice_bounds-checked-end
slice_bounds-checked-end c = sym (length-take-le _ _ (omega (arith, entries_few _ _ (coders_match c.requires c.from_checked-c.ensures c.from_checked-d.ensures))))

pub checked-requires : goal.checked-requires
checked-requires c = write_asked c.requires c.from_checked-c.ensures c.from_checked-d.ensures _ c.entries-bytes.ensures

pub returns : goal.returns
returns c = joined_written c.requires c.from_checked-c.ensures c.from_checked-d.ensures _ c.entries-bytes.ensures c.checked.ensures
