-- `image` meets its contract: the union over the members that are not in the rest.
use Rattle.mealy.proofs.Members.{Passed}
use Rattle.fitting.specs.Tables.{Leads}
use Rattle.fitting.proofs.inner.sets.image.Given as goal

abbrev pub invariant-loop-s : goal.invariant-loop-s
invariant-loop-s l = Passed l.set l.s-iterator.rest (Leads l.words l.o) l.to
