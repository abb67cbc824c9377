-- `find` meets its contract: the depths once, the word of the carried kinds, the least window for them.
use Rattle.std.specs.Prelude.{Some, None}
use Rattle.mealy.specs.Word.{Has}
use Rattle.kind_list.specs.KindList.{kind_of}
use Rattle.search_kinds.proofs.Apart.{apart_carried}
use Rattle.search_kinds.proofs.Tries.{reported}
use Rattle.search_kinds.proofs.inner.find.Goals as goal

pub returns-in_err-window : goal.returns-in_err-window
returns-in_err-window c =
    let kind = kind_of c.args.kinds.now in
    let e = c.new-depths.ensures.coder in
    rw c.from_residual.ensures
    (reported _ c.requires.sound c.args.starts c.new-depths.ensures.depths kind c.carried_kinds-carried.result
    (apart_carried kind (Has c.carried_kinds-carried.result)) (rw e at c.carried_kinds-carried.ensures) None
    (rw e at c.in_err-window.ensures))

pub returns : goal.returns
returns c =
    let kind = kind_of c.args.kinds.now in
    let e = c.new-depths.ensures.coder in
    reported _ c.requires.sound c.args.starts c.new-depths.ensures.depths kind c.carried_kinds-carried.result
    (apart_carried kind (Has c.carried_kinds-carried.result)) (rw e at c.carried_kinds-carried.ensures) (Some c.in_ok-window.window)
    (rw e at c.in_ok-window.ensures)
