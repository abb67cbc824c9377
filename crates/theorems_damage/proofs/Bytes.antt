-- A string that was decoded, own and from C: the count is that of the places with a full window, and each byte is the right one for its
-- part of the string.
use mathlib.Core.Path.{◌≡◌, refl, sym}
use mathlib.Core.Bool.{true}
use mathlib.Core.List.{List, [], ◌∷◌}
use Prim.Native.Nat.{ℕ, ◌<◌}
use native.Mathlib.Omega.{arith}
use lib.ListN.{length, get_or, replicate}
use lib.Dec.{lit<}
use Rattle.values.specs.declared.Window.{Window}
use Rattle.decoder_refusal.specs.Refusal.{places, string_refusal_in}
use Rattle.decoder_refusal.proofs.Accepting.{string_others}
use Rattle.decoder.specs.Places.{ByteAt}
use Rattle.layout.specs.Layout.{with_fields, field_at}
use Rattle.layout.proofs.Reading.{field_at_lem}
use Rattle.theorems.specs.RoundTrip.{FieldHolds}
use Rattle.theorems.proofs.Counted.{Counted, counted, counted_from_C}
use Rattle.theorems_damage.specs.Damage.{Calls, StringDecoded, StringDecodedFromC}
use Rattle.std.specs.Prelude.{Ok}

pub record DecodedRight (f : List ℕ) (w : Window) (letters : List ℕ) (count : ℕ) (after : List ℕ) : Type 0 where
  pub all : count ≡ places (length letters) w
  pub each : (k : ℕ) → k < count → ByteAt f letters w k (get_or after k 0)

-- what is known of calls: those that were not refused decoded rightly
abbrev pub RightCalls : List ℕ → Window → Calls → Type 0
RightCalls f w D = (letters : List ℕ) (count : ℕ) (after : List ℕ) → D letters count after → DecodedRight f w letters count after

-- it was not refused, and wrote what it is to write
abbrev StringWrote : List ℕ → Window → List ℕ → ℕ → ℕ → List ℕ → Type 0
StringWrote f w letters room count after =
    Counted (string_refusal_in f w letters room true) (places (length letters) w) (ByteAt f letters w) count after

pub own_call :
    (f : List ℕ) (w : Window) (letters : List ℕ) (count : ℕ) (after : List ℕ) (d : StringDecoded f w letters count after) →
    StringWrote f w letters (length d.before) count after
own_call f w letters count after d = counted _ _ _ d.before count after d.call

pub call_from_C :
    (f : List ℕ) (w : Window) (letters : List ℕ) (count : ℕ) (after : List ℕ) (d : StringDecodedFromC f w letters count after) →
    StringWrote f w letters (length d.before) (field_at d.result' 0) after
call_from_C f w letters count after d =
    counted_from_C (λ others. string_refusal_in f w letters (length d.before) others) (places (length letters) w) (ByteAt f letters w)
    d.before after (string_others f w letters (length d.before)) (λ z. omega (arith, d.few)) d.call

pub decoded : (f : List ℕ) (w : Window) → RightCalls f w (StringDecoded f w)
decoded f w letters count after d =
    let c = own_call f w letters count after d in
    record { all = c.count; each = c.each }

pub decoded_from_C : (f : List ℕ) (w : Window) → RightCalls f w (StringDecodedFromC f w)
decoded_from_C f w letters count after d =
    let c = call_from_C f w letters count after d in
    rw d.read (record { all = c.count; each = c.each })

-- ---- what the library's own call gives, a host gets with a result buffer of 64 bytes

pub host_decodes :
    (f : List ℕ) (w : Window) (letters : List ℕ) (count : ℕ) (after : List ℕ) → FieldHolds (length letters) →
    StringDecoded f w letters count after → StringDecodedFromC f w letters count after
host_decodes f w letters count after few d =
    let c = own_call f w letters count after d in
    record {
      before = d.before;
      result = replicate 64 0;
      result' = with_fields (replicate 64 0) (count ∷ []);
      call = record { own = Ok count; promised = d.call; out = record { number = refl; fields = refl } };
      few = few;
      read = sym (field_at_lem (replicate 64 0) (count ∷ []) 0 (lit< tt) (omega (arith, c.count)));
    }
