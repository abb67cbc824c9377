-- The round trip from C: a host runs the coder, searches, reads the window from the search's result, and decodes with it what was sent.
use mathlib.Core.Path.{ap}
use mathlib.Core.List.{[]}
use native.Mathlib.Omega.{arith}
use lib.ListN.{length, take}
use Rattle.mealy.specs.Machine.{end}
use Rattle.coder.specs.File.{machine_of}
use Rattle.coder.proofs.Accepted.{accepted}
use Rattle.running.specs.Run.{RunWith}
use Rattle.running_host.specs.Laid.{laid_run}
use Rattle.decoder_refusal.specs.Refusal.{places}
use Rattle.decoder.specs.Places.{StringWith}
use Rattle.values.specs.Order.{default_order}
use Rattle.layout.specs.Host.{laid_count}
use Rattle.layout.proofs.Hosting.{from_host}
use Rattle.theorems.specs.RoundTrip.{FieldHolds, window_read, LettersComeBackFromC}
use Rattle.theorems.proofs.RoundTrip.{end_low, not_refused, round_trip}
use Rattle.theorems.proofs.HostReads.{first_read, second_read, window_found}

pub host_round_trip : LettersComeBackFromC
host_round_trip f s xs coded small before₁ result₁ r₁ after₁ result₁' room₁ long₁ ran p before₂ result₂ after₂ result₂' found is-window
    before₃ result₃ r₃ after₃ result₃' room₃ long₃ decoded =
    let w = window_read result₂' p in
    let u = from_host (λ others own. RunWith f s xs before₁ others own after₁) laid_run long₁ ran in
    let ended = rw (not_refused f s xs coded before₁ room₁) at u.promised.result in
    let sent = first_read result₁ (laid_run u.own) (length xs) _ (ap laid_run ended) small u.out in
    let end_small : FieldHolds (end (machine_of f) s xs) =
    omega (arith, end_low f s xs coded, (accepted f coded.file).entries.limits.states_high) in
    let ends = second_read result₁ (laid_run u.own) (length xs) _ _ (ap laid_run ended) end_small u.out in
    let v =
    from_host (λ others own. StringWith f w (take (length xs) after₁) before₃ others own after₃) laid_count long₃
    (rw sent.1 at decoded) in
    let t =
    round_trip f s xs coded before₁ u.own after₁ room₁ u.promised default_order p before₂ w after₂
    (window_found f coded.file p before₂ result₂ after₂ result₂' found is-window) before₃ v.own after₃ room₃ v.promised in
    let few : FieldHolds (places (length xs) w) = omega arith in
    let got = first_read result₃ (laid_count v.own) (places (length xs) w) [] (ap laid_count t.counted) few v.out in
    record { ran = sent.0; sent = sent.1; ended = ends; done = got.0; counted = got.1; back = t.back }
