-- Steps from state to state, on any input letter, as words; the closure of state 0 under them, and the states after some of them.
use Rattle.std.specs.Prelude.{ℕ, ◌<◌, ◌≡◌, List}
use Rattle.mealy.specs.Machine.{Machine, Total}
use Rattle.mealy.specs.Reachable.{Reachable, StartAfter, EntryTo}
use Rattle.mealy.specs.Word.{Holds}
use Rattle.fitting.specs.Tables.{Words, Leads}

-- the word of state s has the states that its entries lead to
pub record StepsOf (M : Machine) (words : List ℕ) : Type 0 where
  pub each : Words words
  pub to : (s t : ℕ) → Leads words 0 s t → EntryTo M s t
  pub from : (s t : ℕ) → s < M.states → EntryTo M s t → Leads words 0 s t

-- the reachable states, for every machine of n states whose steps these are
abbrev pub ClosureOf : List ℕ → ℕ → ℕ → Type 0
ClosureOf words n r =
    (M : Machine) → M.states ≡ n → 0 < M.states → Total M → StepsOf M words → Holds (Reachable M) r

-- the start states of the settle count p from the reachable ones, for every machine whose steps these are
abbrev pub AfterOf : List ℕ → ℕ → ℕ → ℕ → Type 0
AfterOf words reachable p r =
    (M : Machine) → 0 < M.states → Total M → StepsOf M words → Holds (Reachable M) reachable → Holds (StartAfter M p) r
