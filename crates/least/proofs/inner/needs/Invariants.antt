-- `needs` meets its contract. From f on every place has the most that the table has past it.
use Rattle.least.proofs.Choosing.{NeedsFrom}
use Rattle.least.proofs.inner.needs.Given as goal

abbrev pub invariant-loop-f : goal.invariant-loop-f
invariant-loop-f l = NeedsFrom l.worst l.f l.need l.most
