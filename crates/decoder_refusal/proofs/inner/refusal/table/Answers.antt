-- `refusal::table` meets its contract: the refusals of the file and of the window's numbers, then 10 and 11 in order.
use Rattle.std.proofs.Common.{◌≡◌, List, ℕ, ◌^◌, Bool, true, false, not, ◌&&◌, sym, ◌∙◌, arith}
use lib.Dec.{leb}
use borrow.Author.Tests.{leb-true}
use Rattle.coder.specs.Refusal.{refuse}
use Rattle.coder.specs.File.{outputs_of}
use Rattle.coder.proofs.Refusals.{tests, via}
use Rattle.coder.proofs.Accepted.{accepted}
use Rattle.values.specs.Window.{size}
use Rattle.values.specs.declared.Window.{Window}
use Rattle.table_size.specs.Cases.{table_allowed}
use Rattle.decoder_refusal.specs.Refusal.{limits_refusal, table_refusal_in}
use Rattle.decoder_refusal.proofs.Accepting.{limits_accepted, table_allowed_lem, table_by_cases}
use Rattle.decoder_refusal.proofs.inner.refusal.table.Goals as goal
use Rattle.decoder_refusal.proofs.inner.refusal.table.Goals.{then-room-size-via-then-room-size}
use Rattle.decoder_refusal.proofs.inner.refusal.table.Goals.{then-room-size-via-else-room-size+then-not-others}

pub bounds-file-5 : goal.bounds-file-5
bounds-file-5 c = omega (arith, accepted _ (limits_accepted _ _ (sym c.in_ok-limits.ensures)).file)

pub letters-n-requires : goal.letters-n-requires
letters-n-requires c = (limits_accepted _ _ (sym c.in_ok-limits.ensures)).small

pub returns-then-not-allowed : goal.returns-then-not-allowed
returns-then-not-allowed c =
    let t : table_allowed (outputs_of c.args.file.now) (size c.args.w) ≡ false = cc in
    sym (table_by_cases _ _ false _ (sym c.in_ok-limits.ensures) t)

pub size-requires : goal.size-requires
size-requires c =
    let z = sym c.in_ok-limits.ensures in
    let t : table_allowed (outputs_of c.args.file.now) (size c.args.w) ≡ true = cc in (
      omega (arith, accepted _ (limits_accepted _ _ z).file),
      rw (c.from-outputs.ensures, c.letters-n.ensures) (leb-true _ _ (sym (table_allowed_lem _ _ z) ∙ t)),
    )

-- 11, by the outputs, the letters and the size that the code has
by_room :
    (f : List ℕ) (w : Window) (room : ℕ) (others : Bool) {o n m : ℕ} → limits_refusal f w ≡ 0 → o ≡ outputs_of f → n ≡ size w →
    table_allowed o n ≡ true → m ≡ o ^ n → table_refusal_in f w room others ≡ refuse (not (leb m room && others)) 11 0
by_room f w room others z eo en t em = rw (em, eo, en) (table_by_cases f w true _ z (rw (← eo, ← en) t))

pub returns-then-room-size : goal.returns-then-room-size
returns-then-room-size c =
    let a = c.args in
    let e =
    by_room _ a.w a.room a.others (sym c.in_ok-limits.ensures) c.from-outputs.ensures c.letters-n.ensures
    (via c.allowed.ensures c.if-not-allowed.false) c.size.ensures in
    elim c.then-room-size.branch [
      | then-room-size-via-then-room-size w ↦ rw e (search tests)
      | then-room-size-via-else-room-size+then-not-others w ↦ rw (e, w.if-not-others.true) (search tests)
    ]

pub returns : goal.returns
returns c =
    let a = c.args in
    let e =
    by_room _ a.w a.room a.others (sym c.in_ok-limits.ensures) c.from-outputs.ensures c.letters-n.ensures
    (via c.allowed.ensures c.if-not-allowed.false) c.size.ensures in
    rw (e, c.if-not-others.false) (search tests)
