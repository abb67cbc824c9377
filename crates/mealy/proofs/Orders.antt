-- The two orders of windows are orders in which a larger side is never better.
use mathlib.Core.Path.{◌≡◌}
use mathlib.Core.Logic.{◌⊎◌, inl, inr}
use Prim.Native.Nat.{ℕ, ◌+◌}
use native.Mathlib.Omega.{arith}
use native.Mathlib.Decide.{dec_le}
use Rattle.mealy.specs.Order.{IsOrder, InTurn, LeastLookahead, FewestLetters}

-- ---- which of two windows comes first

-- two letters more before are better than one of lookahead: coder G
pub more_before : LeastLookahead 2 0 0 1
more_before = record { first = omega arith; second = λ e. absurd (omega arith) }

-- of as much lookahead the one with fewer letters before
pub fewer_before : LeastLookahead 1 0 2 0
fewer_before = record { first = omega arith; second = λ e. omega arith }

-- of two windows of two letters the one with less lookahead: coder F
pub less_lookahead : FewestLetters 1 0 0 1
less_lookahead = record { first = omega arith; second = λ e. omega arith }

-- ---- two numbers after one another

turn_transitive : (x y x' y' x'' y'' : ℕ) → InTurn x y x' y' → InTurn x' y' x'' y'' → InTurn x y x'' y''
turn_transitive x y x' y' x'' y'' p q = record {
  first = omega (arith, p.first, q.first);
  second = λ e.
      let l = p.second (omega (arith, p.first, q.first)) in
      let m = q.second (omega (arith, p.first, q.first)) in
      omega arith;
}

turn_antisymmetric : (x y x' y' : ℕ) → InTurn x y x' y' → InTurn x' y' x y → (x ≡ x') × (y ≡ y')
turn_antisymmetric x y x' y' p q =
    let e : x ≡ x' = omega (arith, p.first, q.first) in
    let l = p.second e in
    let m = q.second (omega arith) in
    (e, omega arith)

turn_total : (x y x' y' : ℕ) → InTurn x y x' y' ⊎ InTurn x' y' x y
turn_total x y x' y' = elim (dec_le x x') [
  | no l ↦ inr (record { first = omega arith; second = λ e. absurd (omega arith) })
  | yes l ↦ elim (dec_le x' x) [
    | no m ↦ inl (record { first = l; second = λ e. absurd (omega arith) })
    | yes m ↦ elim (dec_le y y') [
      | yes n ↦ inl (record { first = l; second = λ e. n })
      | no n ↦ inr (record { first = m; second = λ e. omega arith })
    ]
  ]
]

-- ---- the orders

pub least_lookahead : IsOrder LeastLookahead
least_lookahead = record {
  larger = λ b a b' a' l m. record { first = m; second = λ e. l };
  transitive = λ b a b' a' b'' a''. turn_transitive a b a' b' a'' b'';
  antisymmetric = λ b a b' a' p q. let e = turn_antisymmetric a b a' b' p q in (e.1, e.0);
  total = λ b a b' a'. turn_total a b a' b';
}

pub fewest_letters : IsOrder FewestLetters
fewest_letters = record {
  larger = λ b a b' a' l m. record { first = omega arith; second = λ e. m };
  transitive = λ b a b' a' b'' a''. turn_transitive (b + 1 + a) a (b' + 1 + a') a' (b'' + 1 + a'') a'';
  antisymmetric = λ b a b' a' p q. let e = turn_antisymmetric (b + 1 + a) a (b' + 1 + a') a' p q in (omega (arith, e.0, e.1), e.1);
  total = λ b a b' a'. turn_total (b + 1 + a) a (b' + 1 + a') a';
}
