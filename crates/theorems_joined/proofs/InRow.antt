-- Coders in a row: all that is said of the file that the call wrote, own and from C.
use mathlib.Core.Path.{◌≡◌, refl, sym, ap}
use mathlib.Core.Bool.{true}
use mathlib.Core.List.{List, [], ◌∷◌}
use Prim.Native.Nat.{ℕ}
use native.Mathlib.Nat.{mul-le-mul}
use native.Mathlib.Omega.{arith}
use lib.ListN.{length, take, drop}
use lib.Seq.{take_at}
use Rattle.coder.proofs.Accepted.{accepted}
use Rattle.coder.proofs.Inverse.{written_read}
use Rattle.joining.specs.Join.{joined_file, join_refusal_in, Matching, JoinWith, JoinPromise}
use Rattle.joining.proofs.Files.{joined_entries_lem, joined_accepted, joined_size, file_windows}
use Rattle.joining.proofs.Joining.{join_asked}
use Rattle.joining_host.proofs.Hosting.{join_others}
use Rattle.layout.specs.Layout.{field_at}
use Rattle.layout.specs.Host.{laid_count}
use Rattle.layout.proofs.Hosting.{no_refusal, answered_host}
use Rattle.theorems.specs.RoundTrip.{FieldHolds}
use Rattle.theorems.proofs.HostReads.{first_read}
use Rattle.theorems_joined.specs.InRow.{RunDone, RunDoneFromC, InRow, CodersInRow}
use Rattle.theorems_joined.proofs.Ran.{run_done, run_done_from_C, run_from_own}
use Rattle.theorems_joined.proofs.Runs.{runs_in_row, same_number, takes_letters}
use Rattle.theorems_joined.proofs.Searched.{searched, searched_from_C}
use Rattle.std.specs.Prelude.{Result, Ok}
use Rattle.coder.specs.declared.refusal.Refusal.{Refusal}

-- ---- two files that match

in_row : (f g : List ℕ) → Matching f g → InRow f g (joined_file f g)
in_row f g h =
    let b = written_read _ _ _ _ (joined_entries_lem f g h) in
    record {
      accepted = joined_accepted f g h;
      counts = rw (b.none, b.states, b.inputs, b.outputs);
      runs = runs_in_row f g h RunDone run_done;
      runs_from_C = runs_in_row f g h RunDoneFromC run_done_from_C;
      same_number = same_number f g h;
      takes = takes_letters f g h RunDone run_done;
      takes_from_C = takes_letters f g h RunDoneFromC run_done_from_C;
      windows = file_windows f g h;
      searched = searched f g (joined_file f g) (file_windows f g h);
      searched_from_C = searched_from_C f g (joined_file f g) (file_windows f g h);
    }

-- the joined file's size is a number that a field holds
pub file_small : (f g : List ℕ) → Matching f g → FieldHolds (length (joined_file f g))
file_small f g h =
    let a = (accepted f h.first).entries.limits in
    omega (arith, joined_size f g, mul-le-mul h.states a.inputs_high)

-- ---- the call

module _ (f g before : List ℕ) (r : Result ℕ Refusal) (after : List ℕ) (p : JoinPromise f g before r after)
    (zero : (laid_count r).returned ≡ 0) where
  none : join_refusal_in f g (length before) true ≡ 0
  none = no_refusal (λ m. m ∷ []) (join_refusal_in f g (length before) true) _ _ p.result zero

  matches : Matching f g
  matches = (join_asked f g before true none).0.matches

  counted : r ≡ Ok (length (joined_file f g))
  counted = rw none at p.result

  -- the number of bytes that it returned, and these bytes
  written : (m : ℕ) → m ≡ length (joined_file f g) → InRow f g (take m after)
  written m e =
      let file : take m after ≡ joined_file f g =
      rw (rw none at p.bytes) (take_at (joined_file f g) (drop (length (joined_file f g)) before) m (sym e)) in
      rw file (in_row f g matches)

pub coders_in_row : CodersInRow
coders_in_row =
    record {
      own = λ f g before m after p.
          let d = counted f g before (Ok m) after p refl in
          written f g before (Ok m) after p refl m cc;
      from_C = λ f g before result after result' p.
          let h =
          answered_host (λ others own. JoinWith f g before others own after) laid_count
          (λ others own. join_others f g before after others own) refl p in
          let zero = sym h.out.number in
          let d = ap laid_count (counted f g before h.own after h.promised zero) in
          written f g before h.own after h.promised zero (field_at result' 0)
          (first_read result (laid_count h.own) (length (joined_file f g)) [] d
          (file_small f g (matches f g before h.own after h.promised zero)) h.out).1;
      each_run_from_C = run_from_own;
    }
