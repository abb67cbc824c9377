-- `big_endian::put` meets its contract. With the digits of rest stored in the bytes left, all is as asked.
use Rattle.std.proofs.Common.{◌≡◌}
use Rattle.std.proofs.lemmas.List.Edits.{sets}
use Rattle.coder.specs.BigEndian.{big_endian}
use Rattle.coder.proofs.inner.big_endian.put.Given as goal

abbrev pub invariant-loop-k : goal.invariant-loop-k
invariant-loop-k l = sets l.bytes l.place (big_endian l.k l.rest) ≡ sets l.initial.bytes l.place (big_endian l.n l.x)
