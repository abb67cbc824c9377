use Rattle.values.specs.Order.{relation_of}
use Rattle.values.proofs.Orders.{is_order}
use Rattle.least.proofs.Reports.{none_given, choose_asked, least_given}
use Rattle.least.proofs.inner.Depths.least_for.Goals as goal

pub returns-in_err-worst : goal.returns-in_err-worst
returns-in_err-worst c =
    rw c.from_residual.ensures
    (none_given _ _ c.args.self.now.sound c.in_err-worst.ensures (relation_of c.args.order) c.args.settle)

pub choose-requires : goal.choose-requires
choose-requires c =
    choose_asked _ _ c.args.self.now.sound c.in_ok-worst.ensures c.needs.result c.needs.ensures c.args.self.now.depths

pub returns : goal.returns
returns c =
    least_given _ _ c.args.self.now.sound c.in_ok-worst.ensures c.needs.result c.needs.ensures (is_order c.args.order) _ c.choose.ensures
