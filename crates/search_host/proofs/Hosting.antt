-- The search for a host in C: a search that is not refused has all lent buffers long enough, and its outcome is determined.
use mathlib.Core.Path.{◌≡◌, sym, ap, ◌∙◌}
use mathlib.Core.Bool.{Bool, true}
use mathlib.Core.List.{List}
use Prim.Native.Nat.{ℕ, zero, suc}
use lib.ListN.{length}
use lib.Dec.{leb}
use native.Mathlib.Omega.{arith}
use Rattle.coder.specs.Refusal.{upon}
use Rattle.coder.proofs.Refusals.{both_true}
use Rattle.values.specs.Order.{default_order}
use Rattle.values.specs.declared.Order.{Order}
use Rattle.layout.proofs.Hosting.{same_host_buffer}
use Rattle.search.specs.Search.{wanted, search_refusal_in, RefusedSearch, FoundVerdict, SearchWith}
use Rattle.search_host.specs.Laid.{laid_search, SearchFromHost}
use Rattle.std.specs.Prelude.{Result}
use Rattle.coder.specs.declared.refusal.Refusal.{Refusal}
use Rattle.coder.specs.Refused.{refusal_of}
use Rattle.coder.proofs.Refused.{number_some}
use Rattle.search.specs.declared.Verdict.{Verdict}
use Rattle.search.proofs.Files.{search_accepted}
use Rattle.search.proofs.Determined.{search_determined}

pub search_others :
    (o : Order) (f : List ℕ) (p : ℕ) (before after : List ℕ) (others : Bool) (r : Result Verdict Refusal) → SearchWith o f p before others r after →
    (laid_search r).returned ≡ 0 → others ≡ true
search_others o f p before after others r h z =
    (both_true (leb wanted (length before)) others (search_accepted f p _ (go (search_refusal_in f p (length before) others) h)).fits).1
  where
    go : (k : ℕ) → upon k (λ j. RefusedSearch j r before after) (FoundVerdict o f p r before after) → k ≡ 0
    go zero g = omega arith
    go (suc k) g = absurd (number_some (refusal_of (suc k)) (ap (λ x. (laid_search x).returned) (sym g.is) ∙ z))

pub search_host_determined :
    (f : List ℕ) (p : ℕ) (before result : List ℕ) (r q : ℕ) (after after₂ result' result₂ : List ℕ) →
    SearchFromHost f p before result r after result' → SearchFromHost f p before result q after₂ result₂ →
    (r ≡ q) × ((after ≡ after₂) × (result' ≡ result₂))
search_host_determined f p before result r q after after₂ result' result₂ =
    same_host_buffer
    (λ own own₂ h h₂. let e = search_determined default_order f p before _ own own₂ after after₂ h h₂ in (ap laid_search e.0, e.1))
