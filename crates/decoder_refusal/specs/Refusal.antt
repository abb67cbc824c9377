-- The refusals of the three calls, each in checking order.
use Rattle.std.specs.Prelude.{ℕ, ◌+◌, ◌-◌, ◌^◌, Bool, not, ◌&&◌, List, length, leb}
use Rattle.coder.specs.Refusal.{refuse, first, letters_below}
use Rattle.coder.specs.File.{file_refusal, outputs_of}
use Rattle.table_size.specs.Size.{max_table}
use Rattle.window_limits.specs.Refusal.{sides_refusal, settle_refusal, received_refusal}
use Rattle.values.specs.Window.{size}
use Rattle.values.specs.declared.Window.{Window}

-- The file's, 8 and 14 (document 02, 6/13, last sentence): what every call with a window and its settle count is refused for first.
unfoldable pub limits_refusal : List ℕ → Window → ℕ
limits_refusal f w = first (file_refusal f) (first (sides_refusal w.before w.after) (settle_refusal w.settle))

-- One window: then 9 (the number of letters), 11 (some lent buffer is too short) and 13 (a received letter).
unfoldable pub window_refusal : List ℕ → Window → List ℕ → Bool → ℕ
window_refusal f w received fits = first (limits_refusal f w) (received_refusal (size w) (outputs_of f) received fits)

-- A string: then 11 (some lent buffer is too short) and 13.
unfoldable pub string_refusal : List ℕ → Window → List ℕ → Bool → ℕ
string_refusal f w received fits =
    first (limits_refusal f w)
    (refuse (not fits) 11
    (refuse (not (letters_below (outputs_of f) received)) 13
    0))

-- How many places of n received letters have a full window: n − b − a, none where n is below b + 1 + a ("Decoding", the
-- sentence on strings).
abbrev pub places : ℕ → Window → ℕ
places n w = n - (w.before + w.after)

-- the refusal where the lent buffer for the letters has `room` bytes; `others` says whether the other lent buffers are long enough
abbrev pub string_refusal_in : List ℕ → Window → List ℕ → ℕ → Bool → ℕ
string_refusal_in f w received room others = string_refusal f w received (leb (places (length received) w) room && others)

-- The table's size: O to the power b + 1 + a ("Decoding", last sentence).
abbrev pub table_size : ℕ → Window → ℕ
table_size o w = o ^ size w

-- A table: then 10 and 11. The cases on O of document 02, 4/13, say the same as the size (`cases_exact`).
unfoldable pub table_refusal : List ℕ → Window → Bool → ℕ
table_refusal f w fits =
    first (limits_refusal f w)
    (refuse (not (leb (table_size (outputs_of f) w) max_table)) 10
    (refuse (not fits) 11
    0))

-- the refusal where the lent buffer for the table has `room` bytes; `others` says whether the other lent buffers are long enough
abbrev pub table_refusal_in : List ℕ → Window → ℕ → Bool → ℕ
table_refusal_in f w room others = table_refusal f w (leb (table_size (outputs_of f) w) room && others)
