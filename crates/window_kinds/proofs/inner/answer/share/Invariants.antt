-- `share` meets its contract. The letters below x have the kind if they are in the set.
use mathlib.Core.Path.{◌≡◌}
use mathlib.Core.Bool.{true}
use Rattle.coder.specs.Refusal.{all_below}
use Rattle.kind_list.specs.KindList.{kind_of}
use Rattle.window_kinds.specs.Answer.{of_kind}
use Rattle.window_kinds.proofs.inner.answer.share.Given as goal

abbrev pub invariant-loop-x : goal.invariant-loop-x
invariant-loop-x l = all_below l.x (of_kind (kind_of l.kinds) l.set l.k) ≡ true
