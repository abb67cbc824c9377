-- `lead` meets its contract: the states before the letters that the iterator has passed.
use Rattle.fitting.proofs.Backward.{LeadsFrom}
use Rattle.fitting.specs.Tables.{Leads}
use Rattle.fitting.proofs.inner.sets.lead.Given as goal

abbrev pub invariant-loop-y : goal.invariant-loop-y
invariant-loop-y l = LeadsFrom (Leads l.predecessors) l.w l.y-iterator.iter.rest.now l.from
