-- The successors of each pair of states as sets of pairs: word x of the pair a has the states y for which an edge leads from a to (x, y).
-- The pair (u, v) has the number 16 u + v.
use Rattle.std.specs.Prelude.{ℕ, ◌+◌, ◌*◌, ◌≤◌, ◌<◌, ◌≡◌, List, length, get_or}
use Rattle.mealy.specs.Machine.{Machine, Total}
use Rattle.mealy.specs.Word.{Has}
use Rattle.first_pair.specs.Reach.{Joined}

-- word x of the pair a
abbrev pub word_at : List ℕ → ℕ → ℕ → ℕ
word_at words a x = get_or words (16 * a + x) 0

-- 256 sets of pairs
pub record PairWords (words : List ℕ) : Type 0 where
  pub size : length words ≡ 4096
  pub bound : (k : ℕ) → get_or words k 0 < 65536

-- they are the successors of the pairs of states of M
pub record SuccessorsOf (M : Machine) (words : List ℕ) : Type 0 where
  pub shape : PairWords words
  pub few : M.states ≤ 16
  pub total : Total M
  pub has : (u v x y : ℕ) → u < M.states → v < M.states → Joined M u v x y → Has (word_at words (16 * u + v) x) y
  pub only : (u v x y : ℕ) → u < M.states → v < M.states → x < 16 → Has (word_at words (16 * u + v) x) y → Joined M u v x y
