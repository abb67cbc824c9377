-- How the sets one received letter later are made: for each state a word of 16 bits, where bit x is set where letter x is in the set.
use Rattle.std.specs.Prelude.{ℕ, ◌/◌, ◌%◌, ◌^◌, Bool, cond, List, get_or, set, replicate, eqb}
use Rattle.std.specs.Int.Bits.{bit_or}
use Rattle.coder.specs.Limits.{max_states}
use Rattle.coder.specs.Table.{table, Sound}
use Rattle.coder.specs.declared.inner.tables.Coder.{Coder}
use Rattle.chains.specs.Chain.{has_key, over}
use Rattle.chains.specs.Rows.{Rowed}

-- The entry at place p leads from state p / 16 on letter p % 16. What the set u of that state gives to the next state: nothing
-- where it is empty, and at the present place the letter itself.
unfoldable pub contribution : Bool → ℕ → ℕ → ℕ
contribution here p u = cond (eqb u 0) 0 (cond here (2 ^ (p % 16)) u)

-- the set u and what the entry at place p gives
unfoldable pub gather : List ℕ → Bool → ℕ → ℕ → ℕ
gather v here u p = bit_or u (contribution here p (get_or v (p / 16) 0))

-- the same for the set of its next state
unfoldable pub add : List ℕ → List ℕ → Bool → List ℕ → ℕ → List ℕ
add next v here to p = set to (get_or next p 0) (gather v here (get_or to (get_or next p 0) 0) p)

-- the entry at place p has the output letter o
abbrev pub has_output : Coder → ℕ → ℕ → Bool
has_output c o p = has_key c.output c.states c.inputs o p

-- the sets `to` and what all entries with the received letter o give
unfoldable pub added : Coder → List ℕ → List ℕ → ℕ → Bool → List ℕ → List ℕ
added c next v o here to = over (has_output c o) (add next v here) to 256

-- the sets of the states one received letter o later
abbrev pub advance : Coder → List ℕ → List ℕ → ℕ → Bool → List ℕ
advance c next v o here = added c next v o here (replicate 16 0)

-- before the first letter: the set of letter 0 for the states in `starts`, the empty set for the others
abbrev pub start_sets : ℕ → List ℕ
start_sets starts = table max_states (λ s. starts / 2 ^ s % 2)

-- the arrays that the functions inside take by reference are the rows of the coder c, by output letter
pub record RowsOf (c : Coder) (start entries : List ℕ) : Type 0 where
  pub sound : Sound c
  pub rowed : Rowed c.output c.states c.inputs (record { start = start; entries = entries })

-- they are those of some coder
pub record RowsAsked (start entries : List ℕ) : Type 0 where
  pub coder : Coder
  pub is : RowsOf coder start entries
