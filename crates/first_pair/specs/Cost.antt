-- Least costs of walks, and the costs by which the lengths of the first looped pair are found.
--
-- The lengths after the back loop are one number: `letter` for each letter, and besides 1,024 for each letter of the lead-in and 1 for each
-- of the lead-out. So least costs have fewest letters; of these, the shortest lead-in; and of these, the shortest lead-out.
use Rattle.std.specs.Prelude.{ℕ, ◌+◌, ◌*◌, ◌≤◌, ◌<◌, ◌≡◌, List, length, get_or}
use Rattle.mealy.specs.Machine.{Machine}
use Rattle.mealy.specs.Setting.{Setting}
use Rattle.first_pair.specs.Reach.{Pairs, Reach, Cycle, SomeConflictInto}

-- r is the least number with P, or `cap` where no number below that has it
pub record Capped (P : ℕ → Type 0) (cap r : ℕ) : Type 0 where
  pub high : r ≤ cap
  pub holds : r < cap → P r
  pub least : (n : ℕ) → P n → r ≤ n

-- A set for each cost: A n has the pairs at which a walk may end at the cost n. The cost of the whole is n and `step` for each letter.
pub record Cost (M : Machine) (step : ℕ) (A : ℕ → Pairs) (m u v : ℕ) : Type 0 where
  pub k : ℕ
  pub n : ℕ
  pub all : step * k + n ≡ m
  pub reach : Reach M (A n) k u v

-- at the cost 0 the pairs of P, and no others: with step 1 the cost is then the number of letters to P
abbrev pub Only : Pairs → ℕ → Pairs
Only P n u v = (n ≡ 0) × P u v

-- what a letter costs; a letter of the lead-in; a letter of the lead-out
abbrev pub letter_cost : ℕ
letter_cost = 1048576

abbrev pub in_cost : ℕ
in_cost = 1049600

abbrev pub out_cost : ℕ
out_cost = 1048577

-- a number of letters that no length reaches; and no cost: that of so many letters
abbrev pub too_long : ℕ
too_long = 1024

abbrev pub no_cost : ℕ
no_cost = 1073741824

-- a closed walk at (u, v)
pub record Looped (M : Machine) (m u v : ℕ) : Type 0 where
  pub k : ℕ
  pub all : letter_cost * k ≡ m
  pub cycle : Cycle M k u v

-- from (u, v), some letters and then a closed walk: lead-out and forward loop
abbrev pub Tail : Machine → ℕ → Pairs
Tail M = Cost M out_cost (Looped M)

-- a conflicting letter and then such a tail
pub record Marked (S : Setting) (m u v : ℕ) : Type 0 where
  pub n : ℕ
  pub all : letter_cost + n ≡ m
  pub edge : SomeConflictInto S (Tail S.M n) u v

-- some letters and then those: lead-in, differing letter, lead-out and forward loop
abbrev pub Head : Setting → ℕ → Pairs
Head S = Cost S.M in_cost (Marked S)

-- the cost of a lead-out and a forward loop with these lengths, and of a lead-in and the differing letter before them
abbrev pub tail_cost : ℕ → ℕ → ℕ
tail_cost lo fl = out_cost * lo + letter_cost * fl

abbrev pub head_cost : ℕ → ℕ → ℕ → ℕ
head_cost li lo fl = in_cost * li + (letter_cost + tail_cost lo fl)

-- ---- tables of costs, the pair (u, v) at place 16 u + v

abbrev pub entry : List ℕ → ℕ → ℕ → ℕ
entry t u v = get_or t (16 * u + v) 0

-- a table of costs
pub record CostTable (t : List ℕ) : Type 0 where
  pub size : length t ≡ 256
  pub high : (k : ℕ) → get_or t k 0 ≤ no_cost

-- the table has for each pair of states below n its least cost, or `endless` where none is below that
pub record LeastCosts (n : ℕ) (A : ℕ → Pairs) (t : List ℕ) : Type 0 where
  pub size : length t ≡ 256
  pub at : (u v : ℕ) → u < n → v < n → Capped (λ m. A m u v) no_cost (entry t u v)

-- the costs in a table, as costs at which a walk may end
abbrev pub Seeds : List ℕ → ℕ → Pairs
Seeds t n u v = (entry t u v ≡ n) × (n < no_cost)

-- the pairs whose cost is that of k letters and `base`
abbrev pub CostOf : List ℕ → ℕ → ℕ → ℕ → Pairs
CostOf t step base k u v = entry t u v ≡ step * k + base
