-- `least_conflict` meets its contract: the least over the first letters passed so far.
use Prim.Native.Nat.{◌-◌, ◌<◌}
use Rattle.mealy.specs.Image.{Image}
use Rattle.first_pair.specs.Cost.{Capped, no_cost, letter_cost}
use Rattle.costs.proofs.ConflictCosts.{OnFirst}
use Rattle.costs.proofs.inner.marked.least_conflict.Given as goal

abbrev pub invariant-loop-i : goal.invariant-loop-i
invariant-loop-i l = Capped (Image (OnFirst l.c.next l.c.output l.letters l.conflicts l.t l.u l.v) (λ k. k < l.i)) (no_cost - letter_cost) l.least
