-- `write_mark` meets its contract.
use Rattle.loops.proofs.Marks.{mark_asks, mark_written}
use Rattle.loops.proofs.inner.parts.write_mark.Goals as goal

pub lowest-x-requires : goal.lowest-x-requires
lowest-x-requires c = mark_asks c.requires

pub returns : goal.returns
returns c =
    rw c.write_at.ensures (mark_written c.requires c.lowest-x.result c.lowest-x.ensures.0 c.lowest-x.ensures.1 c.after.ensures)
