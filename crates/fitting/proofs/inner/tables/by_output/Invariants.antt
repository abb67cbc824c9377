-- `by_output` meets its contract: the words hold what the entries below place p give.
use Rattle.mealy.proofs.StepWords.{StepsTaken}
use Rattle.fitting.specs.Tables.{Gives}
use Rattle.fitting.proofs.Making.{word_of}
use Rattle.fitting.proofs.inner.tables.by_output.Given as goal

abbrev pub invariant-loop-p : goal.invariant-loop-p
invariant-loop-p l = StepsTaken (word_of l.keys l.output) (Gives l.values l.inputs) 1024 l.p l.words
