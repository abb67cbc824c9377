-- `image` meets its contract: the set has what follows the pairs with a first state below u.
use lib.ListN.{get_or}
use Rattle.cycles.proofs.PairSets.{SomeBelow}
use Rattle.cycles.specs.Successors.{FollowsRow, ExactlyPairs}
use Rattle.cycles.proofs.inner.sets.image.Given as goal

abbrev pub invariant-loop-u : goal.invariant-loop-u
invariant-loop-u l = ExactlyPairs (SomeBelow (λ v. FollowsRow l.words v (get_or l.set v 0)) l.u) l.to
