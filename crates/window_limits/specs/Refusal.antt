-- Refusals 8 and 14, each by itself, and those of the received letters of one window (document 01, "Numbers of refusal"; document 02, 6/13,
-- last sentence): a call with a window takes those about what it is given.
use Rattle.std.specs.Prelude.{ℕ, ◌≤◌, Bool, not, ◌&&◌, List, length, leb, eqb}
use Rattle.coder.specs.Refusal.{refuse, letters_below}
use Rattle.coder.specs.Limits.{max_side, max_settle}

-- 8: a side is above 136.
unfoldable pub sides_refusal : ℕ → ℕ → ℕ
sides_refusal b a = refuse (not (leb b max_side && leb a max_side)) 8 0

-- 14: the settle count is above 64.
unfoldable pub settle_refusal : ℕ → ℕ
settle_refusal p = refuse (not (leb p max_settle)) 14 0

-- The received letters of a window of n letters: 9 (there are not n), 11 (some lent buffer is too short: a call of the library lends none
-- for a single window, a call from C lends its result) and 13 (a letter is not below o).
abbrev pub received_refusal : ℕ → ℕ → List ℕ → Bool → ℕ
received_refusal n o received fits =
    refuse (not (eqb (length received) n)) 9
    (refuse (not fits) 11
    (refuse (not (letters_below o received)) 13
    0))

-- Both sides are within the limit.
pub record SidesSmall (b a : ℕ) : Type 0 where
  pub before_small : b ≤ max_side
  pub after_small : a ≤ max_side
