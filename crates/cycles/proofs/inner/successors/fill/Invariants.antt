-- `fill` meets its contract: the words hold what the entries at the places below p give with each state, and that at p with the states
-- below v.
use Prim.Native.Nat.{◌+◌, ◌*◌}
use Rattle.mealy.proofs.StepWords.{StepsTaken}
use Rattle.cycles.proofs.Filling.{place_of, GivesAt}
use Rattle.cycles.proofs.inner.successors.fill.Given as goal

abbrev pub invariant-loop-p : goal.invariant-loop-p
invariant-loop-p l = StepsTaken (place_of l.c.next) (GivesAt l.c.output l.to l.c.inputs) 4096 (16 * l.p) l.words

abbrev pub invariant-loop-v : goal.invariant-loop-v
invariant-loop-v l = StepsTaken (place_of l.c.next) (GivesAt l.c.output l.to l.c.inputs) 4096 (16 * l.p + l.v) l.words
