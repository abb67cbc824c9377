-- `write_closed` meets its contract: it writes along the least numbers of letters to the pair.
use Rattle.loops.proofs.ClosedParts.{only_at, pair_low, only_asked, closed_asks, closed_writes}
use Rattle.loops.proofs.inner.parts.write_closed.Goals as goal

pub bounds-to-a : goal.bounds-to-a
bounds-to-a c = let p = c.requires in pair_low p.sound p.pair

pub lower_costs-requires : goal.lower_costs-requires
lower_costs-requires c = only_asked c.requires

pub write-requires : goal.write-requires
write-requires c = let p = c.requires in closed_asks p (only_at (pair_low p.sound p.pair)) c.lower_costs.ensures.1

pub returns : goal.returns
returns c = let p = c.requires in closed_writes p (only_at (pair_low p.sound p.pair)) c.lower_costs.ensures.1 c.write.ensures
