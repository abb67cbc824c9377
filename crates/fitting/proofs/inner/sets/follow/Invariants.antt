-- `follow` meets its contract: what follows the letters that are left follows all letters.
use Rattle.fitting.specs.Tables.{Leads}
use Rattle.fitting.proofs.Steps.{Followed}
use Rattle.fitting.proofs.inner.sets.follow.Given as goal

abbrev pub invariant-loop-y : goal.invariant-loop-y
invariant-loop-y l = Followed (Leads l.successors) l.w l.set l.y-index l.to
