-- `named_letters` meets its contract. The word holds the letters of the entries below k.
use Rattle.mealy.specs.Word.{HoldsIn}
use Rattle.coder.specs.Limits.{max_outputs}
use Rattle.coder.specs.Alphabet.{NamedBy}
use Rattle.reader.proofs.inner.named_letters.Given as goal

abbrev pub invariant-loop-k : goal.invariant-loop-k
invariant-loop-k l = HoldsIn max_outputs (NamedBy l.k l.entries) l.letters
