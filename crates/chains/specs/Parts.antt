-- The state and the input letter of each place of a coder's tables.
use Rattle.std.specs.Prelude.{ℕ, ◌/◌, ◌%◌, Bool, cond, List}
use Rattle.coder.specs.Table.{table}

-- the state of each place of a coder's tables or, with `letters`, its input letter
abbrev pub place_part : Bool → ℕ → ℕ
place_part letters p = cond letters (p % 16) (p / 16)

abbrev pub place_parts : Bool → List ℕ
place_parts letters = table 256 (place_part letters)
