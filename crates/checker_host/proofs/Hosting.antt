-- The checker for a host in C: a call that is not refused has the result buffer long enough, and its outcome is determined.
use mathlib.Core.Path.{◌≡◌, ap}
use mathlib.Core.Bool.{Bool, true}
use mathlib.Core.List.{List}
use Prim.Native.Nat.{ℕ}
use Rattle.mealy.specs.LoopedPair.{LoopedPair}
use Rattle.layout.proofs.Hosting.{no_refusal_upon, same_host}
use Rattle.checker.specs.Check.{check_refusal, CheckedRight, CheckWith}
use Rattle.checker_host.specs.Laid.{check_fields, laid_check, CheckFromHost}
use Rattle.std.specs.Prelude.{Result}
use Rattle.coder.specs.declared.refusal.Refusal.{Refusal}
use Rattle.checker.proofs.Checking.{check_accepted}
use Rattle.checker.proofs.Determined.{check_determined}

pub check_others :
    (f : List ℕ) (p : LoopedPair) (others : Bool) (r : Result Bool Refusal) → CheckWith f p others r → (laid_check r).returned ≡ 0 → others ≡ true
check_others f p others r h z =
    (check_accepted f p others
    (no_refusal_upon check_fields (check_refusal f p others) r (CheckedRight f p r) h z)).fits

pub check_host_determined :
    (f : List ℕ) (p : LoopedPair) (result result' result₂ : List ℕ) (r q : ℕ) → CheckFromHost f p result r result' →
    CheckFromHost f p result q result₂ → (r ≡ q) × (result' ≡ result₂)
check_host_determined f p result result' result₂ r q =
    same_host (λ own own₂ h h₂. ap laid_check (check_determined f p _ own own₂ h h₂))
