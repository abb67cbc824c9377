-- `put_fields` meets its contract. The loop's invariant: the first k numbers stand in front, and the bytes past them are the old ones.
use mathlib.Core.Path.{◌≡◌}
use mathlib.Core.List.{◌++◌}
use Prim.Native.Nat.{◌*◌}
use lib.ListN.{take, drop}
use Rattle.layout.specs.Layout.{fields_of}
use Rattle.layout.proofs.inner.put_fields.Given as goal

abbrev pub invariant-loop-k : goal.invariant-loop-k
invariant-loop-k l = l.res ≡ fields_of (take l.k l.numbers) ++ drop (8 * l.k) l.initial.res
