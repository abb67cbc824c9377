-- `refusal` meets its contract: the refusals of the kind list, of the sides, and of the received letters, in order.
use Rattle.std.proofs.Common.{sym, arith}
use Rattle.coder.proofs.Accepted.{accepted}
use Rattle.window_limits.proofs.Limits.{sides_accepted}
use Rattle.kind_list.proofs.KindLists.{list_accepted}
use Rattle.window_kinds.proofs.inner.refusal.Goals as goal

pub overflow_add-before : goal.overflow_add-before
overflow_add-before c = let s = sides_accepted _ _ (sym c.in_ok-sides.ensures) in omega (arith, s.before_small)

pub overflow_add-before-2 : goal.overflow_add-before-2
overflow_add-before-2 c =
    let s = sides_accepted _ _ (sym c.in_ok-sides.ensures) in omega (arith, s.before_small, s.after_small)

pub bounds-file-5 : goal.bounds-file-5
bounds-file-5 c = omega (arith, accepted _ (list_accepted _ _ (sym c.in_ok-refusal.ensures)).file)
