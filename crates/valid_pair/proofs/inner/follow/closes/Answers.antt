-- `closes` meets its contract: at least one letter, equal outputs, and both runs back where they were.
use native.Mathlib.Omega.{arith}
use Rattle.coder.proofs.Judging.{equal_judges}
use Rattle.valid_pair.proofs.PartsJudged.{judges_both, loop_judged}
use Rattle.valid_pair.proofs.inner.follow.closes.Goals as goal

pub returns-then-u-s : goal.returns-then-u-s
returns-then-u-s c = λ d p w. loop_judged (omega arith) (c.in-Some.ensures d p w) (judges_both c.if-u-s.true (equal_judges _ _))
