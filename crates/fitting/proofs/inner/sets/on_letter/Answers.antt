-- `on_letter` meets its contract: x, or nothing.
use mathlib.Core.Path.{refl}
use Rattle.mealy.proofs.Words.{holds_shifted}
use Rattle.fitting.proofs.inner.sets.on_letter.Goals as goal

pub returns-then-has : goal.returns-then-has
returns-then-has c = holds_shifted _ c.requires.1 (refl, rw c.from.ensures at (c.has.ensures.yes' c.if-has.true)) (λ y g. g.0)
