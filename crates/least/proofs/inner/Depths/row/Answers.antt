use Rattle.least.specs.Need.{RowOf}
use Rattle.coder.proofs.Tables.{output_high}
use Rattle.product.proofs.Entries.{entry_below}
use Rattle.least.proofs.Counting.{row_start, row_less, row_apart, row_counted, row_found, row_asked}
use mathlib.Core.Path.{ap}
use Prim.Native.Nat.{◌-◌}
use native.Mathlib.Omega.{arith}
use Rattle.least.proofs.inner.Depths.row.Goals as goal
use Rattle.least.proofs.inner.Depths.row.Goals.{else-has-via-then-has+else-count, else-has-via-else-has}

pub bounds-self-p : goal.bounds-self-p
bounds-self-p c = entry_below _ c.args.self.now.sound _ c.requires

pub bounds-self-from : goal.bounds-self-from
bounds-self-from c = let s = c.args.self.now.sound in omega (arith, output_high _ s c.args.p)

pub loop-y-init : goal.loop-y-init
loop-y-init c =
    let d = c.args.self.now in
    rw c.from.ensures
    (row_start _ c.args.conflicts.now d.back d.forward _ (record { sound = d.sound; chained = d.chained; entry = c.requires }) (omega arith))

pub count-requires : goal.count-requires
count-requires c =
    let d = c.args.self.now in
    row_asked _ _ _ _ _ (record { sound = d.sound; chained = d.chained; entry = c.requires }) c.loop-y.invariant (omega arith) (ap (λ z. z - 1) c.from-q.ensures)

pub returns-then-count : goal.returns-then-count
returns-then-count c =
    let d = c.args.self.now in
    row_found _ _ _ _ _ (record { sound = d.sound; chained = d.chained; entry = c.requires }) c.loop-y.invariant (omega arith) (ap (λ z. z - 1) c.from-q.ensures)
    (c.has.ensures.yes' c.if-has.true) c.count.ensures c.if-count.true

pub loop-y-smaller : goal.loop-y-smaller
loop-y-smaller c =
    let d = c.args.self.now in
    row_less _ _ _ _ _ (record { sound = d.sound; chained = d.chained; entry = c.requires }) c.loop-y.invariant (omega arith) (ap (λ z. z - 1) c.from-q.ensures)

pub loop-y-preserved : goal.loop-y-preserved
loop-y-preserved c =
    let d = c.args.self.now in
    let r : RowOf d.coder.now d.chain c.args.p = record { sound = d.sound; chained = d.chained; entry = c.requires } in
    elim c.else-has.branch [
      | else-has-via-then-has+else-count w ↦
          rw w.worst-is
          (row_counted _ _ _ _ _ r c.loop-y.invariant (omega arith) (ap (λ z. z - 1) c.from-q.ensures) (c.has.ensures.yes' w.if-has.true)
          w.count.ensures w.if-count.false)
      | else-has-via-else-has w ↦
          rw w.worst-is
          (row_apart _ _ _ _ _ r c.loop-y.invariant (omega arith) (ap (λ z. z - 1) c.from-q.ensures) (c.has.ensures.no' w.if-has.false))
    ]
