-- The pair of start states with the fewest letters in all, of these the first.
use Rattle.std.specs.Prelude.{ℕ, ◌/◌, ◌%◌, ◌≤◌, ◌≡◌, List}
use Rattle.setting.specs.Words.{BothStart}
pub use Rattle.first_pair.specs.Found.{total_of}

-- both states of the pair a are start states
abbrev pub StartPair : ℕ → ℕ → ℕ → Type 0
StartPair states starts a = BothStart states starts (a / 16) (a % 16)

-- a has the fewest letters of all pairs of start states, and no earlier one has as few
pub record FirstStart (states starts : ℕ) (loops heads : List ℕ) (a : ℕ) : Type 0 where
  pub start : StartPair states starts a
  pub fewest : (b : ℕ) → StartPair states starts b → total_of loops heads a ≤ total_of loops heads b
  pub first : (b : ℕ) → StartPair states starts b → total_of loops heads b ≡ total_of loops heads a → a ≤ b
