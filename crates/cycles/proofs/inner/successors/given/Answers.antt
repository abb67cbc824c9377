-- `given` meets its contract: a word of the table, or nothing.
use Rattle.mealy.proofs.Words.{holds_map}
use Rattle.mealy.proofs.Members.{holds_itself}
use Rattle.cycles.proofs.inner.successors.given.Goals as goal

pub returns-then-p-c : goal.returns-then-p-c
returns-then-p-c c =
    rw c.from.ensures
    (holds_map (λ y h. (c.if-p-c.true, h)) (λ y g. g.1)
    (holds_itself (c.requires.3 _ _ (c.requires.2 c.args.p) c.requires.1)))
