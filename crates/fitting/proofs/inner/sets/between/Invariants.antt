-- `between` meets its contract: the union over the states that are not in the rest.
use Rattle.mealy.proofs.Members.{Passed}
use Rattle.fitting.specs.Tables.{Between}
use Rattle.fitting.proofs.inner.sets.between.Given as goal

abbrev pub invariant-loop-s : goal.invariant-loop-s
invariant-loop-s l = Passed l.set l.s-iterator.rest (Between l.next l.letters l.o l.from) l.fit
