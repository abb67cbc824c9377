-- A call that returned a number of bytes, own and from C: it was not refused, the number is the stated one, and each byte is as promised.
use mathlib.Core.Path.{◌≡◌, refl, sym, ap}
use mathlib.Core.Bool.{Bool, true}
use mathlib.Core.List.{List, [], ◌∷◌}
use Prim.Native.Nat.{ℕ, zero, suc, ◌<◌}
use native.Mathlib.Omega.{arith}
use lib.ListN.{get_or}
use Rattle.decoder.specs.Count.{CountPromise}
use Rattle.layout.specs.Layout.{field_at}
use Rattle.layout.specs.Host.{laid_count, FromHost}
use Rattle.layout.proofs.Hosting.{no_refusal, answered_host}
use Rattle.theorems.specs.RoundTrip.{FieldHolds}
use Rattle.theorems.proofs.HostReads.{first_read}
use Rattle.std.specs.Prelude.{Ok}

pub record Counted (k n : ℕ) (Q : ℕ → ℕ → Type 0) (m : ℕ) (after : List ℕ) : Type 0 where
  pub accepted : k ≡ 0
  pub count : m ≡ n
  pub each : (j : ℕ) → j < m → Q j (get_or after j 0)

pub counted :
    (k n : ℕ) (Q : ℕ → ℕ → Type 0) (before : List ℕ) (m : ℕ) (after : List ℕ) → CountPromise k n Q before (Ok m) after →
    Counted k n Q m after
counted zero n Q before m after p =
    let d = p.result in
    let q : m ≡ n = cc in
    record { accepted = refl; count = q; each = λ j l. p.bytes.is j (rw q at l) }
counted (suc k) n Q before m after p = let d = p.result in let z : ◌≡◌ {A = ℕ} 0 1 = cc in absurd (omega arith)

-- From C: the call returned 0, and the host reads the number from field 0. k is the refusal by whether the other lent buffers are long
-- enough.
pub counted_from_C :
    (k : Bool → ℕ) (n : ℕ) (Q : ℕ → ℕ → Type 0) (before after : List ℕ) {result result' : List ℕ} →
    ((others : Bool) → k others ≡ 0 → others ≡ true) → (k true ≡ 0 → FieldHolds n) →
    FromHost (λ others own. CountPromise (k others) n Q before own after) laid_count result 0 result' →
    Counted (k true) n Q (field_at result' 0) after
counted_from_C k n Q before after {result} enough few h =
    let g =
    answered_host (λ others own. CountPromise (k others) n Q before own after) laid_count
    (λ others own p z. enough others (no_refusal (λ m. m ∷ []) (k others) _ _ p.result z)) refl h in
    let z = no_refusal (λ m. m ∷ []) (k true) _ _ g.promised.result (sym g.out.number) in
    let done : g.own ≡ Ok n = rw z at g.promised.result in
    let read = (first_read result (laid_count g.own) n [] (ap laid_count done) (few z) g.out).1 in
    rw read (counted (k true) n Q before n after (rw done at g.promised))
