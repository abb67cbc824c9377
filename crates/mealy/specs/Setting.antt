-- A machine with the states in which a run may start and the pairs of letters that a window has to tell apart.
use Rattle.std.specs.Prelude.{ℕ, ◌<◌, ◌≡◌, ◌≢◌, List, get_or}
use Rattle.mealy.specs.Machine.{Machine}
use Rattle.mealy.specs.Word.{Has}
use Rattle.mealy.specs.Reachable.{Reachable, StartAfter}

-- It holds no proof, so that a contract can cite it.
pub record Setting : Type 1 where
  pub M : Machine
  pub Start : ℕ → Type 0
  pub Conflict : ℕ → ℕ → Type 0

-- What laws ask of a setting: an entry leads from a start state to a start state; start states are states.
abbrev pub ClosedOf : Machine → (ℕ → Type 0) → Type 0
ClosedOf M Start = (s i : ℕ) → Start s → i < M.inputs → Start (M.next s i)

abbrev pub Closed : Setting → Type 0
Closed S = ClosedOf S.M S.Start

abbrev pub Bounded : Setting → Type 0
Bounded S = (s : ℕ) → S.Start s → s < S.M.states

-- The setting of a coder's looped pairs: a run may start in any reachable state (document 02, 5/13, second sentence), and different input
-- letters are to be told apart (the sentence of document 01 that defines "works").
abbrev pub from_reachable : Machine → Setting
from_reachable M = record { M = M; Start = Reachable M; Conflict = λ i j. i ≢ j }

-- The setting of windows with settle count p: a run of the window starts where p letters lead from a reachable state (document 02, 6/13,
-- third sentence). C says which letters conflict.
abbrev pub after_letters_with : Machine → ℕ → (ℕ → ℕ → Type 0) → Setting
after_letters_with M p C = record { M = M; Start = StartAfter M p; Conflict = C }

-- That of a coder's windows, in which different letters conflict. With p = 0 it says the same as `from_reachable` (`same_zero` of
-- proofs/StartStates.antt).
abbrev pub after_letters : Machine → ℕ → Setting
after_letters M p = after_letters_with M p (λ i j. i ≢ j)

-- The setting of document 01 alone ("Coders and runs", fourth sentence): a run may start in any state. Where every state is reachable and
-- no letter is for settling it says the same (`all_reachable` of proofs/SpareStates.antt).
abbrev pub any_state : Machine → Setting
any_state M = record { M = M; Start = λ s. s < M.states; Conflict = λ i j. i ≢ j }

-- A setting as data: the start states as a word, and for each input letter the word of the letters that conflict with it.
-- The functions on tables take them so.
abbrev pub worded : Machine → ℕ → List ℕ → Setting
worded M starts conflicts =
    record { M = M; Start = λ s. (s < M.states) × Has starts s; Conflict = λ i j. Has (get_or conflicts i 0) j }

-- Two settings say the same: they have the same start states, which no entry leaves, the same entries there, and the same conflicts
-- of their input letters.
pub record Same (S T : Setting) : Type 0 where
  pub closed : Closed S
  pub inputs : S.M.inputs ≡ T.M.inputs
  pub start : (s : ℕ) → S.Start s → T.Start s
  pub start' : (s : ℕ) → T.Start s → S.Start s
  pub next : (s i : ℕ) → S.Start s → i < S.M.inputs → S.M.next s i ≡ T.M.next s i
  pub out : (s i : ℕ) → S.Start s → i < S.M.inputs → S.M.out s i ≡ T.M.out s i
  pub conflict : (i j : ℕ) → i < S.M.inputs → j < S.M.inputs → S.Conflict i j → T.Conflict i j
  pub conflict' : (i j : ℕ) → i < S.M.inputs → j < S.M.inputs → T.Conflict i j → S.Conflict i j
