-- A set of numbers, as of states or of letters, in a word: 16 bits for states and input letters, 64 for output letters.
use Rattle.std.specs.Prelude.{ℕ, ◌/◌, ◌%◌, ◌^◌, ◌<◌, ◌≡◌}

-- bit x of the word u is set: x is in the set
abbrev pub Has : ℕ → ℕ → Type 0
Has u x = u / 2 ^ x % 2 ≡ 1

-- u is the word of w bits of the set of the numbers with P
pub record HoldsIn (w : ℕ) (P : ℕ → Type 0) (u : ℕ) : Type 0 where
  pub bound : u < 2 ^ w
  pub below : (x : ℕ) → P x → x < w
  pub has : (x : ℕ) → P x → Has u x
  pub only : (x : ℕ) → x < w → Has u x → P x

abbrev pub Holds : (ℕ → Type 0) → ℕ → Type 0
Holds P u = HoldsIn 16 P u
