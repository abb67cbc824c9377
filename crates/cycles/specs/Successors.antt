-- The successors of each pair of states, as sets of pairs: a set of pairs is 16 words, of which word x has the states y of its pairs (x, y).
use Rattle.std.specs.Prelude.{ℕ, ◌+◌, ◌*◌, ◌%◌, ◌≤◌, ◌<◌, ◌≡◌, ◌⊎◌, Bool, false, List, length, get_or}
use Rattle.mealy.specs.Machine.{Machine}
use Rattle.mealy.specs.Word.{Has}
use Rattle.first_pair.specs.Reach.{Cycle}
pub use Rattle.first_pair.specs.Successors.{word_at, PairWords, SuccessorsOf}
pub use Rattle.first_pair.specs.Cost.{too_long}
use Rattle.first_pair.specs.Cost.{Capped, LeastCosts, Looped}

-- the pair (x, y) is in a set
abbrev pub In : List ℕ → ℕ → ℕ → Type 0
In set x y = Has (get_or set x 0) y

-- 16 words
pub record Rows (set : List ℕ) : Type 0 where
  pub size : length set ≡ 16
  pub bound : (x : ℕ) → get_or set x 0 < 65536

-- ---- what is made from the words of the entries by output letter

-- there is an entry at place p, and one of state v with the same output leads to y: word 16 o + v of `to` has the states to which the
-- entries of v with output letter o lead
abbrev pub GivesOutput : List ℕ → List ℕ → ℕ → ℕ → ℕ → ℕ → Type 0
GivesOutput output to inputs p v y = (p % 16 < inputs) × Has (get_or to (16 * get_or output p 0 + v) 0) y

-- what filling asks
pub record SuccessorsAsked (next output to : List ℕ) (states : ℕ) : Type 0 where
  pub states_high : states ≤ 16
  pub next_high : (p : ℕ) → get_or next p 0 < 16
  pub output_high : (p : ℕ) → get_or output p 0 < 64
  pub words : (o s : ℕ) → o < 64 → s < 16 → get_or to (16 * o + s) 0 < 65536

-- some entry of state u leads to x, and such an entry of state v to y
pub record StateJoins (next output to : List ℕ) (inputs u v x y : ℕ) : Type 0 where
  pub i : ℕ
  pub below : i < 16
  pub first : get_or next (16 * u + i) 0 ≡ x
  pub second : GivesOutput output to inputs (16 * u + i) v y

-- word x of each pair (u, v), u below the number of states, has the y that these lead to
pub record SuccessorsFilled (next output to : List ℕ) (states inputs : ℕ) (words : List ℕ) : Type 0 where
  pub shape : PairWords words
  pub has :
      (u v x y : ℕ) → u < states → v < 16 → x < 16 → StateJoins next output to inputs u v x y → Has (word_at words (16 * u + v) x) y
  pub only :
      (u v x y : ℕ) → u < states → v < 16 → x < 16 → Has (word_at words (16 * u + v) x) y → StateJoins next output to inputs u v x y

-- ---- sets along edges

-- r has the pairs of the set, those with Q, and no others
pub record WithBesides (Q : ℕ → ℕ → Type 0) (set r : List ℕ) : Type 0 where
  pub rows : Rows r
  pub has : (x y : ℕ) → x < 16 → In set x y ⊎ Q x y → In r x y
  pub only : (x y : ℕ) → x < 16 → In r x y → In set x y ⊎ Q x y

-- (x, y) follows some pair (u, v) with v in the row
pub record FollowsRow (words : List ℕ) (u row x y : ℕ) : Type 0 where
  pub v : ℕ
  pub within : Has row v
  pub word : Has (word_at words (16 * u + v) x) y

-- (x, y) follows some pair of the set with a first state below n
pub record FollowsSet (words : List ℕ) (n : ℕ) (set : List ℕ) (x y : ℕ) : Type 0 where
  pub u : ℕ
  pub below : u < n
  pub row : FollowsRow words u (get_or set u 0) x y

-- r has exactly the pairs with Q
pub record ExactlyPairs (Q : ℕ → ℕ → Type 0) (r : List ℕ) : Type 0 where
  pub rows : Rows r
  pub has : (x y : ℕ) → x < 16 → Q x y → In r x y
  pub only : (x y : ℕ) → x < 16 → In r x y → Q x y

-- `to` has lost what `seen` had, `seen` has gained what is left, and r says whether anything is
pub record Parted (to seen to' seen' : List ℕ) (r : Bool) : Type 0 where
  pub fresh : ExactlyPairs (λ x y. In to x y × (In seen x y → ⊥)) to'
  pub more : WithBesides (In to) seen seen'
  pub some : r ≡ false → (x y : ℕ) → x < 16 → In to' x y → ⊥

-- ---- closed walks

-- the letters of the shortest closed walk at (u, v), whatever machine has these successors
abbrev pub CycleFound : List ℕ → ℕ → ℕ → ℕ → ℕ → Type 0
CycleFound words states u v r =
    (M : Machine) → SuccessorsOf M words → M.states ≡ states → Capped (λ n. Cycle M n u v) too_long r

-- the cost of a closed walk at each pair
abbrev pub LoopsFound : List ℕ → ℕ → List ℕ → Type 0
LoopsFound words states r = (M : Machine) → SuccessorsOf M words → M.states ≡ states → LeastCosts states (Looped M) r
