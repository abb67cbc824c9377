-- `how_far` meets its contract: as far as the letters that are left lead, and those before them.
use Rattle.fitting.specs.Tables.{Leads}
use Rattle.fitting.proofs.Steps.{StillLeads}
use Rattle.fitting.proofs.inner.sets.how_far.Given as goal

abbrev pub invariant-loop-k : goal.invariant-loop-k
invariant-loop-k l = StillLeads (Leads l.successors) l.w l.set l.k l.to
