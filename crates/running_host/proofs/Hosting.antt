-- The coder run for a host in C: a run that is not refused has all lent buffers long enough, and its outcome is determined.
use mathlib.Core.Path.{◌≡◌, ap}
use mathlib.Core.Bool.{Bool, true}
use mathlib.Core.List.{List}
use Prim.Native.Nat.{ℕ}
use lib.ListN.{length}
use lib.Dec.{leb}
use Rattle.coder.proofs.Refusals.{both_true}
use Rattle.layout.proofs.Hosting.{no_refusal, same_host_buffer}
use Rattle.running.specs.Run.{run_refusal_in, RunWith}
use Rattle.running_host.specs.Laid.{run_fields, laid_run, RunFromHost}
use Rattle.std.specs.Prelude.{Result}
use Rattle.coder.specs.declared.refusal.Refusal.{Refusal}
use Rattle.running.specs.declared.RunEnd.{RunEnd}
use Rattle.running.proofs.Running.{run_accepted}
use Rattle.running.proofs.Determined.{run_determined}

pub run_others :
    (f : List ℕ) (s : ℕ) (xs before after : List ℕ) (others : Bool) (r : Result RunEnd Refusal) → RunWith f s xs before others r after →
    (laid_run r).returned ≡ 0 → others ≡ true
run_others f s xs before after others r p z =
    let k = no_refusal run_fields (run_refusal_in f s xs (length before) others) _ _ p.result z in
    (both_true (leb (length xs) (length before)) others (run_accepted f s xs _ k).fits).1

pub run_host_determined :
    (f : List ℕ) (s : ℕ) (xs before result : List ℕ) (r q : ℕ) (after after₂ result' result₂ : List ℕ) →
    RunFromHost f s xs before result r after result' → RunFromHost f s xs before result q after₂ result₂ →
    (r ≡ q) × ((after ≡ after₂) × (result' ≡ result₂))
run_host_determined f s xs before result r q after after₂ result' result₂ =
    same_host_buffer (λ own own₂ p p₂. let e = run_determined f s xs before _ own own₂ after after₂ p p₂ in (ap laid_run e.0, e.1))
