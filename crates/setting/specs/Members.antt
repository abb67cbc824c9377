-- What the members of a set are, one after the other.
use Rattle.std.specs.Prelude.{ℕ, ◌-◌, ◌≡◌, Option, MatchOption}
use Rattle.setting.specs.declared.inner.members.Members.{Members}
use lib.Bits.{bit_and}
use lib.Count.{count_trailing_zeros}

-- s is the least member of the one set, and the other has the members that are left
pub record Least (m : Members) (s : ℕ) (n : Members) : Type 0 where
  pub some : m.rest ≡ 0 → ⊥
  pub least : s ≡ count_trailing_zeros 16 m.rest
  pub left : n.rest ≡ bit_and m.rest (m.rest - 1)

-- A step: the least member, or the end where there is none.
abbrev pub TakesLeast : Members → Option ℕ → Members → Type 0
TakesLeast m r n = MatchOption r (m.rest ≡ 0) (λ s. Least m s n)
