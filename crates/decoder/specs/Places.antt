-- A string: the call's promise, place by place.
use Rattle.std.specs.Prelude.{ℕ, ◌+◌, ◌-◌, ◌≤◌, ◌<◌, ◌≡◌, Bool, true, List, length, take, drop, Result}
use Rattle.mealy.specs.Machine.{Letters}
use Rattle.coder.specs.Limits.{max_outputs}
use Rattle.coder.specs.declared.inner.tables.Coder.{Coder}
use Rattle.coder.specs.declared.refusal.Refusal.{Refusal}
use Rattle.values.specs.Window.{size}
use Rattle.values.specs.declared.Window.{Window}
use Rattle.fitting.specs.Answer.{RightByte}
use Rattle.setting.specs.Words.{from_word}
use Rattle.fitting.specs.Tables.{TablesOf, Tables}
use Rattle.decoder_refusal.specs.Refusal.{string_refusal, places, string_refusal_in}
use Rattle.decoder.specs.Written.{Written}
use Rattle.decoder.specs.Count.{CountPromise, CountGiven}
use Rattle.decoder.specs.Window.{window_setting}

-- v is the right byte for the part of the received letters that starts at place k and has as many letters as the window: that part
-- alone, whatever stands ahead of it. Its present letter is at place k + b.
abbrev pub ByteAt : List ℕ → List ℕ → Window → ℕ → ℕ → Type 0
ByteAt f received w k v = RightByte (window_setting f w) (take (size w) (drop k received)) w.before v

-- The first refusal that applies, or a right byte for each place with a full window.
abbrev pub StringWith : List ℕ → Window → List ℕ → List ℕ → Bool → Result ℕ Refusal → List ℕ → Type 0
StringWith f w received before others r after =
    CountPromise (string_refusal_in f w received (length before) others) (places (length received) w) (ByteAt f received w)
    before r after

-- The library's own call lends no other buffer.
abbrev pub StringPromise : List ℕ → Window → List ℕ → List ℕ → Result ℕ Refusal → List ℕ → Type 0
StringPromise f w received before r after = StringWith f w received before true r after

-- what the checked part of the call asks: no refusal, and room for each byte
pub record StringAsked (f : List ℕ) (w : Window) (received before : List ℕ) : Type 0 where
  pub accepted : string_refusal f w received true ≡ 0
  pub room : places (length received) w ≤ length before

-- and what it gives
abbrev pub StringGiven : List ℕ → Window → List ℕ → List ℕ → ℕ → List ℕ → Type 0
StringGiven f w received before count after =
    CountGiven (places (length received) w) (ByteAt f received w) before count after

-- what the loop over the places asks: m windows of n letters lie in the string, and m bytes in the buffer
pub record PlacesAsked (next successors predecessors letters : List ℕ) (starts : ℕ) (received : List ℕ) (b n m : ℕ) (before : List ℕ) : Type 0 where
  pub tables : Tables next successors predecessors letters starts
  pub below : Letters max_outputs received
  pub present : b < n
  pub windows : m ≤ length received + 1 - n
  pub room : m ≤ length before

-- and what it does
abbrev pub PlacesDecoded : Coder → ℕ → List ℕ → ℕ → ℕ → ℕ → List ℕ → List ℕ → Type 0
PlacesDecoded c starts received b n m before after =
    Written (λ k v. RightByte (from_word c starts) (take n (drop k received)) b v) m before after

-- for every coder whose tables these are
abbrev pub PlacesGiven : List ℕ → List ℕ → List ℕ → List ℕ → ℕ → List ℕ → ℕ → ℕ → ℕ → List ℕ → List ℕ → Type 0
PlacesGiven next successors predecessors letters starts received b n m before after =
    (c : Coder) → TablesOf c next successors predecessors letters starts → PlacesDecoded c starts received b n m before after
