-- The decoder for a host in C: a call that is not refused has all lent buffers long enough, and its outcome is determined.
use mathlib.Core.Path.{◌≡◌, ap}
use mathlib.Core.Bool.{Bool, true}
use mathlib.Core.List.{List}
use Prim.Native.Nat.{ℕ}
use lib.ListN.{length}
use Rattle.values.specs.declared.Window.{Window}
use mathlib.Core.List.{[], ◌∷◌}
use Rattle.std.specs.Prelude.{Result}
use Rattle.coder.specs.declared.refusal.Refusal.{Refusal}
use Rattle.fitting.specs.declared.Answer.{Answer}
use Rattle.layout.specs.Host.{laid_count}
use Rattle.layout.proofs.Hosting.{no_refusal, no_refusal_upon, same_host, same_host_buffer}
use Rattle.decoder_refusal.specs.Refusal.{window_refusal, string_refusal_in, table_refusal_in}
use Rattle.decoder.specs.Window.{AnsweredRight, WindowWith}
use Rattle.decoder.specs.Places.{StringWith}
use Rattle.decoder.specs.Table.{TableWith}
use Rattle.decoder_refusal.proofs.Accepting.{window_accepted, string_others, table_others}
use Rattle.decoder.proofs.Determined.{window_determined, string_determined, table_determined}
use Rattle.decoder_host.specs.Laid.{answer_fields, laid_window, WindowFromHost, StringFromHost, TableFromHost}

-- ---- the lent buffers of a call that is not refused

pub window_enough :
    (f : List ℕ) (w : Window) (received : List ℕ) (others : Bool) (r : Result Answer Refusal) → WindowWith f w received others r →
    (laid_window r).returned ≡ 0 → others ≡ true
window_enough f w received others r p z =
    (window_accepted f w received others
    (no_refusal_upon answer_fields (window_refusal f w received others) r (AnsweredRight f w received r) p z)).fits

pub string_enough :
    (f : List ℕ) (w : Window) (received before after : List ℕ) (others : Bool) (r : Result ℕ Refusal) →
    StringWith f w received before others r after → (laid_count r).returned ≡ 0 → others ≡ true
string_enough f w received before after others r p z =
    string_others f w received (length before) others
    (no_refusal (λ m. m ∷ []) (string_refusal_in f w received (length before) others) _ _ p.result z)

pub table_enough :
    (f : List ℕ) (w : Window) (before after : List ℕ) (others : Bool) (r : Result ℕ Refusal) → TableWith f w before others r after →
    (laid_count r).returned ≡ 0 → others ≡ true
table_enough f w before after others r p z =
    table_others f w (length before) others
    (no_refusal (λ m. m ∷ []) (table_refusal_in f w (length before) others) _ _ p.result z)

-- ---- outcomes

pub window_host_determined :
    (f : List ℕ) (w : Window) (received result result' result₂ : List ℕ) (r q : ℕ) → WindowFromHost f w received result r result' →
    WindowFromHost f w received result q result₂ → (r ≡ q) × (result' ≡ result₂)
window_host_determined f w received result result' result₂ r q =
    same_host (λ own own₂ p p₂. ap laid_window (window_determined f w received _ own own₂ p p₂))

pub string_host_determined :
    (f : List ℕ) (w : Window) (received before result : List ℕ) (r q : ℕ) (after after₂ result' result₂ : List ℕ) →
    StringFromHost f w received before result r after result' → StringFromHost f w received before result q after₂ result₂ →
    (r ≡ q) × ((after ≡ after₂) × (result' ≡ result₂))
string_host_determined f w received before result r q after after₂ result' result₂ =
    same_host_buffer
    (λ own own₂ p p₂. let e = string_determined f w received before _ own own₂ after after₂ p p₂ in (ap laid_count e.0, e.1))

pub table_host_determined :
    (f : List ℕ) (w : Window) (before result : List ℕ) (r q : ℕ) (after after₂ result' result₂ : List ℕ) →
    TableFromHost f w before result r after result' → TableFromHost f w before result q after₂ result₂ →
    (r ≡ q) × ((after ≡ after₂) × (result' ≡ result₂))
table_host_determined f w before result r q after after₂ result' result₂ =
    same_host_buffer
    (λ own own₂ p p₂. let e = table_determined f w before _ own own₂ after after₂ p p₂ in (ap laid_count e.0, e.1))
