-- The decoder table: a byte for each window, by its index.
use Rattle.std.specs.Prelude.{Bool, true, ℕ, ◌≤◌, ◌≡◌, List, length, Result}
use Rattle.coder.specs.File.{outputs_of}
use Rattle.coder.specs.declared.refusal.Refusal.{Refusal}
use Rattle.values.specs.Window.{size}
use Rattle.values.specs.declared.Window.{Window}
use Rattle.filling.specs.Table.{EntryAt}
use Rattle.decoder_refusal.specs.Refusal.{table_size, table_refusal, table_refusal_in}
use Rattle.decoder.specs.Count.{CountPromise, CountGiven}
use Rattle.decoder.specs.Window.{window_setting}

-- v is the right byte for the window with index k, in the table of a file and a window
abbrev pub EntryOf : List ℕ → Window → ℕ → ℕ → Type 0
EntryOf f w k v = EntryAt (window_setting f w) (outputs_of f) (size w) w.before k v

-- The first refusal that applies, or a right byte at each index.
abbrev pub TableWith : List ℕ → Window → List ℕ → Bool → Result ℕ Refusal → List ℕ → Type 0
TableWith f w before others r after =
    CountPromise (table_refusal_in f w (length before) others) (table_size (outputs_of f) w) (EntryOf f w) before r after

-- The library's own call lends no other buffer.
abbrev pub TablePromise : List ℕ → Window → List ℕ → Result ℕ Refusal → List ℕ → Type 0
TablePromise f w before r after = TableWith f w before true r after

-- what the checked part of the call asks: no refusal, and room for each byte
pub record TableAsked (f : List ℕ) (w : Window) (before : List ℕ) : Type 0 where
  pub accepted : table_refusal f w true ≡ 0
  pub room : table_size (outputs_of f) w ≤ length before

-- and what it gives
abbrev pub TableGiven : List ℕ → Window → List ℕ → ℕ → List ℕ → Type 0
TableGiven f w before count after = CountGiven (table_size (outputs_of f) w) (EntryOf f w) before count after
