-- The limits of a coder, of a window's side and of a settle count (document 01, "Coders and runs", the paragraph on limits; document 02,
-- 6/13, second sentence; refusals 4, 8 and 14).
-- They are the associated constants of `Coder`: `Coder::limits` of src/inner/tables.rt ties the two.
use Rattle.std.specs.Prelude.{ℕ}

abbrev pub max_states : ℕ
max_states = 16

abbrev pub max_inputs : ℕ
max_inputs = 16

abbrev pub max_outputs : ℕ
max_outputs = 64

abbrev pub max_side : ℕ
max_side = 136

abbrev pub max_settle : ℕ
max_settle = 64
