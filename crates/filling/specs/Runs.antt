-- For each state the set of the letters at the present place over the runs that have come to that state, and how the runs go on.
use Rattle.std.specs.Prelude.{ℕ, zero, suc, ◌<◌, ◌≡◌, Bool, true, false, List, get_or}
use Rattle.mealy.specs.Machine.{Machine, outs, Letters}
use Rattle.mealy.specs.Word.{Has}
use Rattle.coder.specs.Limits.{max_states}
use Rattle.coder.specs.Table.{machine_of_coder}
use Rattle.coder.specs.declared.inner.tables.Coder.{Coder}

-- a set of letters for each state
abbrev pub Sets : Type 1
Sets = ℕ → ℕ → Type 0

-- the letters that the entry of state s and letter i gives to its next state: at the present place the letter i, where s has any
abbrev pub Contributes : Sets → Bool → ℕ → ℕ → ℕ → Type 0
Contributes Q true s i x = (x ≡ i) × ((y : ℕ) × Q s y)
Contributes Q false s i x = Q s x

-- x is a letter of state t one received letter o later
pub record SetAfter (M : Machine) (Q : Sets) (o : ℕ) (here : Bool) (t x : ℕ) : Type 0 where
  pub s : ℕ
  pub i : ℕ
  pub state : s < M.states
  pub letter : i < M.inputs
  pub output : M.out s i ≡ o
  pub to : M.next s i ≡ t
  pub contributes : Contributes Q here s i x

-- the letter at the present place of a run that has the letter y from before and reads xs: p is 0 where the present place lies
-- before xs, and otherwise its place in xs, counted from 1
abbrev pub present_letter : ℕ → ℕ → List ℕ → ℕ
present_letter zero y xs = y
present_letter (suc q) y xs = get_or xs q 0

-- x is the letter at the present place of a run on from Q with outputs w
pub record From (M : Machine) (Q : Sets) (w : List ℕ) (p x : ℕ) : Type 0 where
  pub s : ℕ
  pub y : ℕ
  pub xs : List ℕ
  pub within : Q s y
  pub letters : Letters M.inputs xs
  pub outputs : outs M s xs ≡ w
  pub letter : x ≡ present_letter p y xs

-- ---- sets as words, one for each state

abbrev pub EachWord : List ℕ → Type 0
EachWord v = (s : ℕ) → s < max_states → get_or v s 0 < 65536

-- the sets of a coder's states that the words v hold
abbrev pub SetsIn : Coder → List ℕ → Sets
SetsIn c v s x = (s < c.states) × Has (get_or v s 0) x

-- x is a letter of some state one received letter o later
pub record LetterAfter (c : Coder) (v : List ℕ) (o : ℕ) (here : Bool) (x : ℕ) : Type 0 where
  pub t : ℕ
  pub is : SetAfter (machine_of_coder c) (SetsIn c v) o here t x
