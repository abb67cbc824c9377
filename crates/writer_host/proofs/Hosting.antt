-- The writer for a host in C: a call that is not refused has all lent buffers long enough, and its outcome is determined.
use mathlib.Core.Path.{◌≡◌, ap}
use mathlib.Core.Bool.{Bool, true}
use mathlib.Core.List.{List}
use Prim.Native.Nat.{ℕ}
use lib.ListN.{length}
use mathlib.Core.List.{[], ◌∷◌}
use Rattle.std.specs.Prelude.{Result}
use Rattle.coder.specs.declared.refusal.Refusal.{Refusal}
use Rattle.layout.specs.Host.{laid_count}
use Rattle.layout.proofs.Hosting.{no_refusal, same_host_buffer}
use Rattle.writer.specs.Write.{write_refusal_in, WriteWith}
use Rattle.writer_host.specs.Laid.{WriteFromHost}
use Rattle.writer.proofs.Writing.{write_accepted}
use Rattle.writer.proofs.Determined.{write_determined}

pub write_others :
    (n i o : ℕ) (entries before after : List ℕ) (others : Bool) (r : Result ℕ Refusal) → WriteWith n i o entries before others r after →
    (laid_count r).returned ≡ 0 → others ≡ true
write_others n i o entries before after others r p z =
    (write_accepted n i o entries before others
    (no_refusal (λ m. m ∷ []) (write_refusal_in n i o entries (length before) others) _ _ p.result z)).fits

pub write_host_determined :
    (n i o : ℕ) (entries before result : List ℕ) (r q : ℕ) (after after₂ result' result₂ : List ℕ) →
    WriteFromHost n i o entries before result r after result' → WriteFromHost n i o entries before result q after₂ result₂ →
    (r ≡ q) × ((after ≡ after₂) × (result' ≡ result₂))
write_host_determined n i o entries before result r q after after₂ result' result₂ =
    same_host_buffer
    (λ own own₂ p p₂. let e = write_determined n i o entries before _ own own₂ after after₂ p p₂ in (ap laid_count e.0, e.1))
