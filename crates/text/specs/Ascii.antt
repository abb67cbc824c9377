-- Bytes that stand between words and at the end of a line, in ASCII.
use Rattle.std.specs.Prelude.{ℕ, List, [], ◌∷◌}

abbrev pub space : List ℕ
space = 32 ∷ []

abbrev pub line_feed : List ℕ
line_feed = 10 ∷ []
