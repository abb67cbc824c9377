-- The most bytes that a decoder table may have (document 01, "Numbers of refusal", number 10).
use Rattle.std.specs.Prelude.{ℕ}

abbrev pub max_table : ℕ
max_table = 65536
