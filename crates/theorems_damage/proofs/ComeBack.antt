-- The letters that went in come back from a damaged string, at the places whose windows are not damaged.
use mathlib.Core.Path.{◌≡◌, ap, ◌∙◌}
use mathlib.Core.List.{List, ◌++◌}
use Prim.Native.Nat.{ℕ, ◌+◌, ◌≤◌}
use native.Mathlib.Omega.{arith}
use lib.ListN.{length, get_or}
use Rattle.mealy.specs.Machine.{outs}
use Rattle.mealy.specs.Window.{Works}
use Rattle.mealy.proofs.RunParts.{length_outs}
use Rattle.coder.specs.File.{machine_of}
use Rattle.running.specs.Run.{RunWith}
use Rattle.running_host.specs.Laid.{laid_run}
use Rattle.values.specs.Window.{size}
use Rattle.values.specs.Order.{default_order}
use Rattle.values.specs.declared.Window.{Window}
use Rattle.values.specs.declared.Order.{Order}
use Rattle.search.specs.Search.{SearchPromise}
use Rattle.search.specs.declared.Verdict.TheVariants.{Least}
use Rattle.search.proofs.Determined.{found}
use Rattle.decoder.specs.Window.{window_setting}
use Rattle.decoder.proofs.ComeBack.{place_comes_back}
use Rattle.layout.proofs.Hosting.{from_host}
use Rattle.theorems.specs.RoundTrip.{Coded, window_read}
use Rattle.theorems.proofs.RoundTrip.{not_refused, wrote}
use Rattle.theorems.proofs.HostReads.{first_read, window_found}
use Rattle.theorems_damage.specs.Change.{Change, sent, KeptFrom}
use Rattle.theorems_damage.specs.Damage.{Calls, StringDecoded, StringDecodedFromC, WentIn, DamagedBack}
use Rattle.theorems_damage.specs.Damage.{DamagedComeBack, DamagedComeBackFromC}
use Rattle.theorems_damage.proofs.Changes.{same_part}
use Rattle.theorems_damage.proofs.Bytes.{RightCalls, decoded, decoded_from_C}
use Rattle.theorems_damage.proofs.Travel.{received_byte, altered_kept, unsettled_kept, settled_window}
use Rattle.std.specs.Prelude.{Ok}

-- of a coded string and a window that works, for all calls that decode rightly
module _ (f : List ℕ) (w : Window) (D : Calls) (right : RightCalls f w D) (s : ℕ) (xs : List ℕ) (coded : Coded f s xs)
    (works : Works (window_setting f w) w.before w.after) where
  went_in :
      (cs : List Change) → sent cs ≡ outs (machine_of f) s xs → (k k' : ℕ) → w.settle ≤ k → KeptFrom cs (size w) k k' →
      WentIn D w xs cs k k'
  went_in cs e k k' ahead keeps =
      let h = same_part cs (size w) k k' keeps in
      let long : length (sent cs) ≡ length xs = ap length e ∙ length_outs (machine_of f) s xs in
      received_byte f w D right cs k k' h (get_or xs (k + w.before) 0)
      (rw e (place_comes_back f w s xs works coded.start coded.letters k (omega (arith, h.inside)) ahead))

  comes_back : DamagedBack w D xs (outs (machine_of f) s xs)
  comes_back = record {
    altered = λ cs e places k ahead keeps. went_in cs e k k ahead (altered_kept w cs places k keeps);
    lost_or_added = λ front rest e places j keeps.
        went_in (front ++ rest) e _ _ (omega (arith, keeps.inside))
        (unsettled_kept w front rest places j (settled_window w rest j keeps));
    anywhere = λ cs e k k' ahead keeps. went_in cs e k k' (omega arith) keeps;
  }

-- ---- the three calls

reported_works :
    (o : Order) (f : List ℕ) (p : ℕ) (before : List ℕ) (w : Window) (after : List ℕ) →
    SearchPromise o f p before (Ok (Least w)) after → Works (window_setting f w) w.before w.after
reported_works o f p before w after q =
    let report = (found o f p before (Least w) after q).says in
    rw report.settle report.least.works

pub damaged_come_back : DamagedComeBack
damaged_come_back f s xs coded before₁ r₁ after₁ room ran o p before₂ w after₂ q =
    rw (wrote f s xs coded before₁ after₁ r₁ room ran)
    (comes_back f w (StringDecoded f w) (decoded f w) s xs coded (reported_works o f p before₂ w after₂ q))

pub damaged_come_back_from_C : DamagedComeBackFromC
damaged_come_back_from_C f s xs coded small before₁ result₁ r₁ after₁ result₁' room long ran p before₂ result₂ after₂ result₂' found
    is-window =
    let w = window_read result₂' p in
    let u = from_host (λ others own. RunWith f s xs before₁ others own after₁) laid_run long ran in
    let ended = rw (not_refused f s xs coded before₁ room) at u.promised.result in
    let sent = (first_read result₁ (laid_run u.own) (length xs) _ (ap laid_run ended) small u.out).1 in
    let q = window_found f coded.file p before₂ result₂ after₂ result₂' found is-window in
    rw (sent, wrote f s xs coded before₁ after₁ u.own room u.promised)
    (comes_back f w (StringDecodedFromC f w) (decoded_from_C f w) s xs coded (reported_works default_order f p before₂ w after₂ q))
