-- `parts` meets its contract: the back loop, the letters between the loops and the forward loop are judged in order.
use native.Mathlib.Omega.{arith}
use Rattle.coder.proofs.Judging.{judges_not}
use Rattle.valid_pair.proofs.PartsJudged.{follow_asked, followed_low, parts_judged}
use Rattle.valid_pair.proofs.inner.follow.parts.Goals as goal

pub returns-then-not-closes : goal.returns-then-not-closes
returns-then-not-closes c = λ d w. judges_not (λ q. (c.closes.ensures d _ w.tables).no' c.if-not-closes.true q.back)

pub closes-requires-in-Some : goal.closes-requires-in-Some
closes-requires-in-Some c =
    let a = c.requires in
    let z = followed_low a _ _ (c.in-Some.ensures a.c _ a.of.tables) in
    follow_asked a _ _ (omega (arith, a.of.first)) (omega (arith, a.of.second)) (omega arith)

pub returns-in-Some : goal.returns-in-Some
returns-in-Some c =
    λ d w.
    parts_judged ((c.closes.ensures d _ w.tables).yes' c.if-not-closes.false) (c.in-Some.ensures d _ w.tables) (c.closes-in-Some.ensures d _ w.tables)
