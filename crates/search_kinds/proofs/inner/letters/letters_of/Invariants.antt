-- `letters_of` meets its contract. The word holds the letters below j of the kind.
use mathlib.Core.Path.{◌≡◌}
use Prim.Native.Nat.{◌<◌}
use Rattle.mealy.specs.Word.{Holds}
use Rattle.kind_list.specs.KindList.{kind_of}
use Rattle.search_kinds.proofs.inner.letters.letters_of.Given as goal

abbrev pub invariant-loop-j : goal.invariant-loop-j
invariant-loop-j l = Holds (λ x. (x < l.j) × (kind_of l.kinds x ≡ l.k)) l.set
