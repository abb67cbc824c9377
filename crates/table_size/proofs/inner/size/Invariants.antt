-- `size` meets its contract: before each turn the size is that of as many letters as are counted.
use mathlib.Core.Path.{◌≡◌}
use Prim.Native.Nat.{◌^◌}
use Rattle.table_size.proofs.inner.size.Given as goal

abbrev pub invariant-loop : goal.invariant-loop
invariant-loop l = l.size ≡ l.outputs ^ l.counter
