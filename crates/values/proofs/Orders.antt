-- Each order that a search may be made in is an order of windows, and the comparison says which of two windows comes first.
use mathlib.Core.Path.{◌≡◌, sym, ◌∙◌}
use mathlib.Core.Bool.{true, false, true≢false}
use mathlib.Core.Logic.{◌↔◌, inl, inr}
use Prim.Native.Nat.{ℕ}
use native.Mathlib.Omega.{arith}
use borrow.Author.Tests.{ltb-true, leb-true, lt-ltb, le-leb, eq-eqb, ne_eqb}
use native.Mathlib.Decide.{ℕ_discrete}
use Rattle.mealy.specs.Order.{IsOrder, InTurn}
use Rattle.mealy.proofs.Orders.{fewest_letters, least_lookahead}
use Rattle.values.specs.declared.Window.{Window}
use Rattle.values.specs.declared.Order.{Order}
use Rattle.values.specs.declared.Order.TheVariants.{LeastLookahead, FewestLetters}
use Rattle.values.specs.Window.{size}
use Rattle.values.specs.Order.{relation_of, in_turn, no_later}

pub is_order : (o : Order) → IsOrder (relation_of o)
is_order LeastLookahead = least_lookahead
is_order FewestLetters = fewest_letters

-- ---- the comparison

in_turn_lem : (x y x' y' : ℕ) → in_turn x y x' y' ≡ true ↔ InTurn x y x' y'
in_turn_lem x y x' y' = (to, from)
  where
    to : in_turn x y x' y' ≡ true → InTurn x y x' y'
    to e = elim (ℕ_discrete x x') [
      | yes z ↦ (let l = leb-true y y' (rw (eq-eqb x x' z) at e) in record { first = omega arith; second = λ z. l })
      | no z ↦ (let l = ltb-true x x' (rw (ne_eqb x x' z) at e) in record { first = omega arith; second = λ d. absurd (z d) })
    ]

    from : InTurn x y x' y' → in_turn x y x' y' ≡ true
    from t = elim (ℕ_discrete x x') [
      | yes z ↦ rw (eq-eqb x x' z) (le-leb y y' (t.second z))
      | no z ↦ rw (ne_eqb x x' z) (lt-ltb x x' (let l = t.first in omega arith))
    ]

-- it says the relation of the order
pub no_later_lem :
    (o : Order) (w v : Window) → no_later o w v ≡ true ↔ relation_of o w.before w.after v.before v.after
no_later_lem LeastLookahead w v = in_turn_lem w.after w.before v.after v.before
no_later_lem FewestLetters w v = in_turn_lem (size w) w.after (size v) v.after

-- of a window that comes later the other comes no later
pub later : (o : Order) (w v : Window) → no_later o w v ≡ false → relation_of o v.before v.after w.before w.after
later o w v e = elim ((is_order o).total w.before w.after v.before v.after) [
  | inl r ↦ absurd (true≢false (sym ((no_later_lem o w v).1 r) ∙ e))
  | inr r ↦ r
]
