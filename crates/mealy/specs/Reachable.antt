-- Reachable states, the start states of a settle count, entries from state to state, and machines that differ in spare states alone.
use Rattle.std.specs.Prelude.{ℕ, ◌<◌, ◌≡◌, List, length}
use Rattle.mealy.specs.Machine.{Machine, end, Letters}

-- Document 02, 5/13, second sentence: some string of input letters leads to s from the state of the first row, which is state 0. The
-- string may be empty, so state 0 is reachable.
pub record Reachable (M : Machine) (s : ℕ) : Type 0 where
  pub xs : List ℕ
  pub letters : Letters M.inputs xs
  pub ends : end M 0 xs ≡ s

-- Document 02, 6/13, third sentence: some run of p letters from a reachable state ends in s. A window with settle count p begins there.
pub record StartAfter (M : Machine) (p s : ℕ) : Type 0 where
  pub from : ℕ
  pub reachable : Reachable M from
  pub xs : List ℕ
  pub letters : Letters M.inputs xs
  pub count : length xs ≡ p
  pub ends : end M from xs ≡ s

-- some entry of state s leads to state t
pub record EntryTo (M : Machine) (s t : ℕ) : Type 0 where
  pub x : ℕ
  pub letter : x < M.inputs
  pub to : M.next s x ≡ t

-- Spare states (document 02, 5/13, first sentence): M' has the entries of M at every state that M reaches. At the other states it may have
-- any, and it may have more or fewer of them.
pub record WithSpare (M M' : Machine) : Type 0 where
  pub inputs : M.inputs ≡ M'.inputs
  pub next : (s i : ℕ) → Reachable M s → i < M.inputs → M.next s i ≡ M'.next s i
  pub out : (s i : ℕ) → Reachable M s → i < M.inputs → M.out s i ≡ M'.out s i
