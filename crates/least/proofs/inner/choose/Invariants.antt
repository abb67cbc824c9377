-- `choose` meets its contract. The window so far is the first of the candidates with this lookahead and above.
use mathlib.Core.Path.{◌≡◌}
use Rattle.values.specs.Order.{relation_of}
use Rattle.least.proofs.Choosing.{FirstFrom}
use Rattle.least.proofs.inner.choose.Given as goal

abbrev pub invariant-loop-after : goal.invariant-loop-after
invariant-loop-after l =
    (l.best.settle ≡ l.settle) × FirstFrom (relation_of l.order) l.need l.after l.best.before l.best.after
