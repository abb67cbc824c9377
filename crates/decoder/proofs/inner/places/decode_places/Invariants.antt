-- `places::decode_places` meets its contract: before each turn the first k places are decoded.
use lib.ListN.{length}
use mathlib.Core.Path.{◌≡◌}
use Rattle.decoder.specs.Places.{PlacesGiven}
use Rattle.decoder.proofs.inner.places.decode_places.Given as goal

abbrev pub invariant-loop-k : goal.invariant-loop-k
invariant-loop-k l =
    (length l.output ≡ length l.initial.output) ×
    PlacesGiven l.sets.next l.sets.successors l.sets.predecessors l.sets.letters l.sets.starts l.received l.b l.n l.k l.initial.output l.output
