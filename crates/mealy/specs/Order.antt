-- Orders of windows, and the least window that works.
use Rattle.std.specs.Prelude.{ℕ, ◌+◌, ◌≤◌, ◌≡◌, ◌⊎◌}
use Rattle.mealy.specs.Setting.{Setting}
use Rattle.mealy.specs.Window.{Works}

-- A relation of windows: `R b a b' a'` says that the window b a comes no later than b' a'.
abbrev pub Relation : Type 1
Relation = ℕ → ℕ → ℕ → ℕ → Type 0

-- A total order in which a larger side is never better.
pub record IsOrder (R : Relation) : Type 0 where
  pub larger : (b a b' a' : ℕ) → b ≤ b' → a ≤ a' → R b a b' a'
  pub transitive : (b a b' a' b'' a'' : ℕ) → R b a b' a' → R b' a' b'' a'' → R b a b'' a''
  pub antisymmetric : (b a b' a' : ℕ) → R b a b' a' → R b' a' b a → (b ≡ b') × (a ≡ a')
  pub total : (b a b' a' : ℕ) → R b a b' a' ⊎ R b' a' b a

-- Two numbers after one another: x decides and, where it is equal, y.
pub record InTurn (x y x' y' : ℕ) : Type 0 where
  pub first : x ≤ x'
  pub second : x ≡ x' → y ≤ y'

-- The order of least lookahead, the default of document 02, 1/13: less lookahead comes first and, of as much, fewer letters before.
abbrev pub LeastLookahead : Relation
LeastLookahead b a b' a' = InTurn a b a' b'

-- The order of fewest letters, that of demand 3's last sentence as it stands: fewer letters in all come first and, of as many, less
-- lookahead.
abbrev pub FewestLetters : Relation
FewestLetters b a b' a' = InTurn (b + 1 + a) a (b' + 1 + a') a'

-- The window works, and comes no later than any other that works, whatever its sides.
pub record Least (R : Relation) (S : Setting) (b a : ℕ) : Type 0 where
  pub works : Works S b a
  pub least : (b' a' : ℕ) → Works S b' a' → R b a b' a'
