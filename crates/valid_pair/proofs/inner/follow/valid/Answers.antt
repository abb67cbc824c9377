-- `valid` meets its contract: the start states, the conflict and the parts are judged in order.
use native.Mathlib.Omega.{arith}
use Rattle.values.specs.Pair.{pair_of}
use Rattle.mealy.specs.Word.{Has}
use Rattle.coder.specs.Refusal.{Judges}
use Rattle.coder.proofs.Judging.{judges_not}
use Rattle.valid_pair.proofs.PartsJudged.{mark_low, judges_both, judges_neither, Marked, valid_judged, not_valid}
use Rattle.valid_pair.proofs.inner.follow.valid.Goals as goal
use Rattle.valid_pair.proofs.inner.follow.valid.Goals.{then-has, else-has, then-has-2, else-has-2}

pub bounds-conflicts-i : goal.bounds-conflicts-i
bounds-conflicts-i c = rw c.from-i.ensures (mark_low c.requires _ (omega arith))

pub has-requires-then-has-2 : goal.has-requires-then-has-2
has-requires-then-has-2 c = rw c.from-j.ensures (mark_low c.requires _ (omega arith))

pub returns-then-has-3 : goal.returns-then-has-3
returns-then-has-3 c =
    let p = pair_of c.args.pair c.args.letters.now in
    let k : Judges (Has c.args.starts p.s × Has c.args.starts p.t) c.if-has.value =
    elim c.if-has.branch [
      | then-has w ↦ rw w.value-is (judges_both (c.has.ensures.yes' w.if-has.true) w.has-then-has.ensures)
      | else-has w ↦ rw w.value-is (judges_neither c.has.ensures w.if-has.false)
    ] in
    let m : Judges (Marked c.args.starts c.args.conflicts.now p c.from-i.result c.from-j.result) c.if-has-2.value =
    elim c.if-has-2.branch [
      | then-has-2 w ↦ rw w.value-is (judges_both (k.yes' w.if-has-2.true) w.has-then-has-2.ensures)
      | else-has-2 w ↦ rw w.value-is (judges_neither k w.if-has-2.false)
    ] in
    λ d w. valid_judged _ _ c.from-i.ensures c.from-j.ensures w.size w.first w.second (m.yes' c.if-has-3.true) (c.parts.ensures d w)

pub returns-else-has-3 : goal.returns-else-has-3
returns-else-has-3 c =
    let p = pair_of c.args.pair c.args.letters.now in
    let k : Judges (Has c.args.starts p.s × Has c.args.starts p.t) c.if-has.value =
    elim c.if-has.branch [
      | then-has w ↦ rw w.value-is (judges_both (c.has.ensures.yes' w.if-has.true) w.has-then-has.ensures)
      | else-has w ↦ rw w.value-is (judges_neither c.has.ensures w.if-has.false)
    ] in
    let m : Judges (Marked c.args.starts c.args.conflicts.now p c.from-i.result c.from-j.result) c.if-has-2.value =
    elim c.if-has-2.branch [
      | then-has-2 w ↦ rw w.value-is (judges_both (k.yes' w.if-has-2.true) w.has-then-has-2.ensures)
      | else-has-2 w ↦ rw w.value-is (judges_neither k w.if-has-2.false)
    ] in
    λ d w. rw c.if-has-3.false (judges_not (not_valid _ _ c.from-i.ensures c.from-j.ensures (m.no' c.if-has-3.false)))
