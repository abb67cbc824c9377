-- A window of a call.
use Rattle.std.specs.Prelude.{ℕ, ◌+◌}
use Rattle.values.specs.declared.Window.{Window}

-- The value that three numbers make: b letters before the present one, a after it, and the settle count p (document 02, 6/13, second
-- sentence).
abbrev pub window : ℕ → ℕ → ℕ → Window
window b a p = record { before = b; after = a; settle = p }

-- How many letters it has (document 01, "Coders and runs", the paragraph on windows): those of the settle count are not among them.
abbrev pub size : Window → ℕ
size w = w.before + 1 + w.after
