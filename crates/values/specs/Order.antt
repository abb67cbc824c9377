-- The orders of windows that a search may be made in.
use Rattle.std.specs.Prelude.{ℕ, ◌<◌, Bool, cond, eqb, leb, ltb}
use Rattle.mealy.specs.Order.{Relation}
use Rattle.mealy.specs.Order as mealy
use Rattle.values.specs.declared.Window.{Window}
use Rattle.values.specs.Window.{size}
use Rattle.values.specs.declared.Order.{Order}
use Rattle.values.specs.declared.Order.TheVariants.{LeastLookahead, FewestLetters}

-- The relation of each order.
abbrev pub relation_of : Order → Relation
relation_of LeastLookahead = mealy.LeastLookahead
relation_of FewestLetters = mealy.FewestLetters

-- The order of a call that names none (document 02, 1/13).
abbrev pub default_order : Order
default_order = LeastLookahead

-- ---- the comparison of two windows

-- the test of `InTurn`
abbrev pub in_turn : ℕ → ℕ → ℕ → ℕ → Bool
in_turn x y x' y' = cond (eqb x x') (leb y y') (ltb x x')

-- the first window comes no later than the second
abbrev pub no_later : Order → Window → Window → Bool
no_later LeastLookahead w v = in_turn w.after w.before v.after v.before
no_later FewestLetters w v = in_turn (size w) w.after (size v) v.after

-- windows whose sides can be added
pub record Compared (w v : Window) : Type 0 where
  pub before₁ : w.before < 256
  pub after₁ : w.after < 256
  pub before₂ : v.before < 256
  pub after₂ : v.after < 256
