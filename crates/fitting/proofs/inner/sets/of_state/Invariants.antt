-- `of_state` meets its contract: the union over the letters that are not in the rest.
use Prim.Native.Nat.{◌+◌, ◌*◌}
use mathlib.Core.Path.{◌≡◌}
use lib.ListN.{get_or}
use Rattle.mealy.specs.Word.{Has}
use Rattle.mealy.proofs.Members.{Passed}
use Rattle.fitting.proofs.inner.sets.of_state.Given as goal

abbrev pub invariant-loop-x : goal.invariant-loop-x
invariant-loop-x l = Passed l.letters l.x-iterator.rest (λ x y. (y ≡ x) × Has l.from (get_or l.next (16 * l.s + x) 0)) l.fit
