-- `entries` meets its contract: the bytes of the first j entries are filled, and entry j stands at the place.
use Prim.Native.Nat.{◌*◌}
use Rattle.coder.proofs.Fill.{Filled}
use Rattle.joining.specs.EntryBytes.{entry_byte_of}
use Rattle.joining.specs.Tables.{joined_coders, StandsAt}
use Rattle.joining.proofs.inner.entries.Given as goal

abbrev pub invariant-loop-j : goal.invariant-loop-j
invariant-loop-j l = StandsAt l.d.states l.c.inputs l.j l.at × Filled 512 (entry_byte_of (joined_coders l.c l.d)) l.initial.bytes (2 * l.j) l.bytes
