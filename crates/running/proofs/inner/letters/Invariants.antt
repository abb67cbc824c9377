-- `letters` meets its contract. The run has come to place i and state s, and has written the letters before i.
use Prim.Native.Nat.{◌<◌}
use Rattle.running.specs.Run.{tables_machine}
use Rattle.running.proofs.Running.{Reached}
use Rattle.running.proofs.inner.letters.Given as goal

abbrev pub invariant-loop-i : goal.invariant-loop-i
invariant-loop-i l = (l.s < 16) × Reached (tables_machine l.c.next l.c.output) l.start l.input l.initial.written l.written l.s l.i
