-- A damaged string is not refused where the undamaged one is not, for letters below O and with room.
use mathlib.Core.Path.{◌≡◌, ap, ◌∙◌}
use mathlib.Core.Bool.{true}
use mathlib.Core.List.{List}
use Prim.Native.Nat.{ℕ, ◌≤◌}
use lib.ListN.{length}
use Rattle.coder.specs.File.{outputs_of}
use Rattle.values.specs.declared.Window.{Window}
use Rattle.decoder_refusal.specs.Refusal.{places, string_refusal_in}
use Rattle.decoder_refusal.proofs.Accepting.{string_accepted, limits_pass}
use Rattle.decoder.specs.Places.{StringWith, StringPromise}
use Rattle.decoder_host.specs.Laid.{StringFromHost}
use Rattle.layout.specs.Layout.{result_bytes}
use Rattle.layout.specs.Host.{laid_count}
use Rattle.layout.proofs.Hosting.{from_host}
use Rattle.theorems.proofs.RoundTrip.{string_pass}
use Rattle.theorems_damage.specs.Change.{Change, sent, received, NewBelow, Each}
use Rattle.theorems_damage.proofs.Changes.{received_below}
use Rattle.std.specs.Prelude.{Result, Ok}
use Rattle.coder.specs.declared.refusal.Refusal.{Refusal}

module _ (f : List ℕ) (w : Window) (cs : List Change) (room : ℕ) (accepted : string_refusal_in f w (sent cs) room true ≡ 0)
    (below : Each (NewBelow (outputs_of f)) cs) (before : List ℕ) (enough : places (length (received cs)) w ≤ length before) where
  none : string_refusal_in f w (received cs) (length before) true ≡ 0
  none =
      let a = string_accepted f w (sent cs) _ accepted in
      let limits = a.limits in
      string_pass f w (received cs) (length before)
      (limits_pass f w limits.file limits.small.before_small limits.small.after_small limits.settle_small) enough
      (received_below (outputs_of f) cs below a.letters)

  pub not_refused :
      (r : Result ℕ Refusal) (after : List ℕ) → StringPromise f w (received cs) before r after → r ≡ Ok (places (length (received cs)) w)
  not_refused r after p = rw none at p.result

  pub not_refused_from_C :
      (result result' : List ℕ) (r : ℕ) (after : List ℕ) → result_bytes ≤ length result →
      StringFromHost f w (received cs) before result r after result' → r ≡ 0
  not_refused_from_C result result' r after long h =
      let g = from_host (λ others own. StringWith f w (received cs) before others own after) laid_count long h in
      g.out.number ∙ ap (λ (x : Result ℕ Refusal). (laid_count x).returned) (not_refused g.own after g.promised)
