-- `given` meets its contract: the value of an entry, or nothing.
use mathlib.Core.Path.{refl, sym}
use Rattle.mealy.proofs.Words.{holds_shifted}
use Rattle.fitting.proofs.inner.tables.given.Goals as goal

pub returns-then-p-inputs : goal.returns-then-p-inputs
returns-then-p-inputs c = holds_shifted _ (c.requires.1 c.args.p) (c.if-p-inputs.true, refl) (λ y g. sym g.1)
