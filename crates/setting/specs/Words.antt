-- The settings of a coder's tables, and the words that say them.
use Rattle.std.specs.Prelude.{ℕ, ◌<◌, List, length, get_or, ◌≡◌, ◌≢◌}
use Rattle.mealy.specs.Word.{Has, Holds}
use Rattle.mealy.specs.Setting.{Setting, Bounded, after_letters}
use Rattle.coder.specs.Limits.{max_inputs}
use Rattle.coder.specs.Table.{machine_of_coder}
use Rattle.coder.specs.declared.inner.tables.Coder.{Coder}

-- The setting of the windows with settle count p. For an accepted file it is the file's (`same_setting` of proofs/Same.antt).
abbrev pub setting_of_coder : Coder → ℕ → Setting
setting_of_coder c p = after_letters (machine_of_coder c) p

-- The setting whose runs start in the states of a word, whatever these are.
abbrev pub from_word : Coder → ℕ → Setting
from_word c starts = record { M = machine_of_coder c; Start = Has starts; Conflict = λ i j. i ≢ j }

-- what the word of a window's start states is: states of the coder, and at least one
pub record StartWord (c : Coder) (starts : ℕ) : Type 0 where
  pub bound : starts < 65536
  pub low : Bounded (from_word c starts)
  pub some : starts ≡ 0 → ⊥

-- s is a start state: one of the n states, and in the word
abbrev pub StartIn : ℕ → ℕ → ℕ → Type 0
StartIn n starts s = (s < n) × Has starts s

-- the setting whose runs start in these states, and in which the letters conflict that D says
abbrev pub started_in : Coder → ℕ → (ℕ → ℕ → Type 0) → Setting
started_in c starts D = record { M = machine_of_coder c; Start = StartIn c.states starts; Conflict = D }

-- both states of a pair are start states
abbrev pub BothStart : ℕ → ℕ → ℕ → ℕ → Type 0
BothStart n starts u v = StartIn n starts u × StartIn n starts v

-- word i has bit j exactly where the letters i and j conflict
pub record ConflictsOf (C : ℕ → ℕ → Type 0) (words : List ℕ) : Type 0 where
  pub size : length words ≡ max_inputs
  pub conflict : (i j : ℕ) → i < max_inputs → j < max_inputs → C i j → Has (get_or words i 0) j
  pub conflict' : (i j : ℕ) → i < max_inputs → j < max_inputs → Has (get_or words i 0) j → C i j

-- the words say the coder's start states for the settle count p, and which letters conflict
pub record WordsOf (c : Coder) (p : ℕ) (C : ℕ → ℕ → Type 0) (starts : ℕ) (conflicts : List ℕ) : Type 0 where
  pub starts_are : Holds (setting_of_coder c p).Start starts
  pub conflicts_are : ConflictsOf C conflicts
