-- Two coders in a row for a host in C: a call that is not refused has all lent buffers long enough, and its outcome is determined.
use mathlib.Core.Path.{◌≡◌, ap}
use mathlib.Core.Bool.{Bool, true}
use mathlib.Core.List.{List}
use Prim.Native.Nat.{ℕ}
use lib.ListN.{length}
use mathlib.Core.List.{[], ◌∷◌}
use Rattle.std.specs.Prelude.{Result}
use Rattle.coder.specs.declared.refusal.Refusal.{Refusal}
use Rattle.layout.specs.Host.{laid_count}
use Rattle.layout.proofs.Hosting.{no_refusal, same_host_buffer}
use Rattle.joining.specs.Join.{join_refusal_in, JoinWith}
use Rattle.joining_host.specs.Laid.{JoinFromHost}
use Rattle.joining.proofs.Joining.{join_asked}
use Rattle.joining.proofs.Determined.{join_determined}

pub join_others :
    (f g before after : List ℕ) (others : Bool) (r : Result ℕ Refusal) → JoinWith f g before others r after → (laid_count r).returned ≡ 0 →
    others ≡ true
join_others f g before after others r p z =
    (join_asked f g before others
    (no_refusal (λ m. m ∷ []) (join_refusal_in f g (length before) others) _ _ p.result z)).1

pub join_host_determined :
    (f g before result : List ℕ) (r q : ℕ) (after after₂ result' result₂ : List ℕ) → JoinFromHost f g before result r after result' →
    JoinFromHost f g before result q after₂ result₂ → (r ≡ q) × ((after ≡ after₂) × (result' ≡ result₂))
join_host_determined f g before result r q after after₂ result' result₂ =
    same_host_buffer
    (λ own own₂ p p₂. let e = join_determined f g before _ own own₂ after after₂ p p₂ in (ap laid_count e.0, e.1))
