-- `letters_below` meets its contract. The test of all letters is that of the letters from place k on.
use mathlib.Core.Path.{◌≡◌}
use lib.ListN.{drop}
use Rattle.coder.specs.Refusal.{letters_below}
use Rattle.coder.proofs.inner.bytes.letters_below.Given as goal

abbrev pub invariant-loop-x : goal.invariant-loop-x
invariant-loop-x l = letters_below l.n l.letters ≡ letters_below l.n (drop l.x-index l.letters)
