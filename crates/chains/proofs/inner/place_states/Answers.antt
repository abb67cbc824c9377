-- `place_states` meets its contract: what the closure gives for p is at place p.
use borrow.Author.Rules.{rules}
use Rattle.chains.proofs.Places.{is_table}
use Rattle.chains.proofs.inner.place_states.Goals as goal

pub returns : goal.returns
returns c = let f = c.from_fn.ensures.items in is_table f.long (λ j l. let e = (f.at j 0 l).2 in search rules)
