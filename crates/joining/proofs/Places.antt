-- The place after the last letter of the last state of the second coder: the first coder's next state.
use mathlib.Core.Path.{◌≡◌, ap, ◌∙◌}
use Prim.Native.Nat.{ℕ, ◌+◌, ◌*◌, ◌≤◌}
use native.Mathlib.Omega.{arith}
use Rattle.joining.specs.Tables.{StandsAt}
use Rattle.joining.specs.declared.inner.Place.{Place}

one_more : (q i : ℕ) → (q + 1) * i ≡ q * i + i
one_more q i = omega arith

pub next_first :
    (n i j : ℕ) (p : Place) → StandsAt n i j p → i ≤ p.letter + 1 → n ≤ p.second + 1 →
    StandsAt n i (j + 1) (record { first = p.first + 1; second = 0; letter = 0 })
next_first n i j p at l m =
    let q : (p.first + 1) * n + 0 ≡ p.first * n + p.second + 1 = omega (arith, one_more p.first n, at.second) in
    let e : ((p.first + 1) * n + 0) * i ≡ (p.first * n + p.second) * i + i =
    ap (λ k. k * i) q ∙ one_more (p.first * n + p.second) i in
    record { place = omega (arith, at.place, at.letter, e); second = omega (arith, at.second); letter = omega (arith, at.letter) }
