-- The tables that the core works on: of the entries with one output letter, for each state its successors, its predecessors and its
-- input letters, a word each.
use Rattle.std.specs.Prelude.{ℕ, ◌+◌, ◌*◌, ◌%◌, ◌<◌, ◌≤◌, ◌≡◌, true, false, List, ◌∷◌, length, get_or}
use Rattle.mealy.specs.Machine.{Letters}
use Rattle.mealy.specs.Word.{Has, Holds}
use Rattle.mealy.specs.Image.{Transitions, Fitting}
use Rattle.mealy.specs.Setting.{Setting}
use Rattle.mealy.specs.HowFar.{HowFar}
use Rattle.mealy.specs.Answer.{Fits}
use Rattle.coder.specs.Limits.{max_states, max_outputs}
use Rattle.coder.specs.Table.{Sound}
use Rattle.coder.specs.declared.inner.tables.Coder.{Coder}
use Rattle.chains.specs.Parts.{place_parts}
use Rattle.fitting.specs.Answer.{answer_of}
use Rattle.fitting.specs.declared.Answer.{Answer}
use Rattle.setting.specs.Words.{from_word, StartWord}

-- the entry at place p, if there is one, has the value x
abbrev pub Gives : List ℕ → ℕ → ℕ → ℕ → Type 0
Gives values inputs p x = (p % 16 < inputs) × (get_or values p 0 ≡ x)

-- some entry with the key s and the output letter o, at a place below n, has the value x
pub record GivenBelow (keys values output : List ℕ) (inputs n o s x : ℕ) : Type 0 where
  pub p : ℕ
  pub below : p < n
  pub key : get_or keys p 0 ≡ s
  pub out : get_or output p 0 ≡ o
  pub gives : Gives values inputs p x

-- what making such a table asks
pub record EntriesAsked (keys values output : List ℕ) (states : ℕ) : Type 0 where
  pub states_high : states ≤ max_states
  pub keys_high : (p : ℕ) → get_or keys p 0 < max_states
  pub values_high : (p : ℕ) → get_or values p 0 < 16
  pub output_high : (p : ℕ) → get_or output p 0 < max_outputs

-- and what it makes: for the key s and the output letter o the word at 16 o + s
pub record ByOutput (keys values output : List ℕ) (states inputs : ℕ) (words : List ℕ) : Type 0 where
  pub size : length words ≡ 1024
  pub holds :
      (o s : ℕ) → o < max_outputs → s < max_states →
      Holds (GivenBelow keys values output inputs (16 * states) o s) (get_or words (16 * o + s) 0)

-- each place of such a table holds a word
abbrev pub Words : List ℕ → Type 0
Words words = (o s : ℕ) → o < max_outputs → s < max_states → get_or words (16 * o + s) 0 < 65536

-- the transitions in such a table
abbrev pub Leads : List ℕ → Transitions
Leads words o s t = (s < max_states) × Has (get_or words (16 * o + s) 0) t

-- those on the input letter x, by a table of letters and the table of next states
pub record OnLetter (next letters : List ℕ) (x o s t : ℕ) : Type 0 where
  pub state : s < max_states
  pub letter : Has (get_or letters (16 * o + s) 0) x
  pub to : get_or next (16 * s + x) 0 ≡ t

-- an entry of state s with the input letter x and the output letter o leads to a state of the set `from`
abbrev pub Between : List ℕ → List ℕ → ℕ → ℕ → ℕ → ℕ → Type 0
Between next letters o from s x = Leads letters o s x × Has from (get_or next (16 * s + x) 0)

-- the letters that fit, by the tables
abbrev pub FittingIn : List ℕ → List ℕ → List ℕ → (ℕ → Type 0) → List ℕ → ℕ → ℕ → Type 0
FittingIn next successors letters = Fitting (Leads successors) (OnLetter next letters)

-- what the functions on these tables ask of them: words, and predecessors that are the successors turned round
pub record TablesAsked (next successors predecessors letters : List ℕ) : Type 0 where
  pub next_high : (p : ℕ) → get_or next p 0 < max_states
  pub successors_words : Words successors
  pub predecessors_words : Words predecessors
  pub letters_words : Words letters
  pub turned : (o s t : ℕ) → o < max_outputs → Leads successors o s t → Leads predecessors o t s
  pub turned' : (o s t : ℕ) → o < max_outputs → Leads predecessors o t s → Leads successors o s t

pub record PresentAsked (next predecessors letters : List ℕ) (o : ℕ) (after : List ℕ) : Type 0 where
  pub next_high : (p : ℕ) → get_or next p 0 < max_states
  pub predecessors_words : Words predecessors
  pub letters_words : Words letters
  pub letter : o < max_outputs
  pub after_letters : Letters max_outputs after

-- the tables of the coder c by output letter
pub record SetsOf (c : Coder) (successors predecessors letters : List ℕ) : Type 0 where
  pub successors_are : ByOutput (place_parts false) c.next c.output c.states c.inputs successors
  pub predecessors_are : ByOutput c.next (place_parts false) c.output c.states c.inputs predecessors
  pub letters_are : ByOutput (place_parts false) (place_parts true) c.output c.states c.inputs letters

-- the arrays that the functions inside take are those of the coder c, and the start states of the word are states of it, at least one
pub record TablesOf (c : Coder) (next successors predecessors letters : List ℕ) (starts : ℕ) : Type 0 where
  pub sound : Sound c
  pub next_is : next ≡ c.next
  pub sets : SetsOf c successors predecessors letters
  pub starts_are : StartWord c starts

-- they are those of some coder
pub record Tables (next successors predecessors letters : List ℕ) (starts : ℕ) : Type 0 where
  pub coder : Coder
  pub is : TablesOf coder next successors predecessors letters starts

-- ---- what the functions on the tables of a window give

-- the letters that fit at the present place, with any successors of which these are the predecessors
abbrev pub PresentGiven : List ℕ → List ℕ → List ℕ → ℕ → ℕ → List ℕ → ℕ → Type 0
PresentGiven next predecessors letters o set after r =
    (successors : List ℕ) → TablesAsked next successors predecessors letters →
    Holds (FittingIn next successors letters (Has set) (o ∷ after) 0) r

-- what a window decodes to, for runs that start in the states of a setting: the answer of the letters that fit; and, where none does, of
-- how far it was possible
pub record DecodedIn (S : Setting) (w : List ℕ) (b : ℕ) (v : Answer) : Type 0 where
  pub letters : ℕ
  pub far : ℕ
  pub fits : Holds (Fits S w b) letters
  pub count : letters ≡ 0 → HowFar S w far
  pub is : v ≡ answer_of letters far

-- for runs that start in the states of the word, and for every coder whose tables these are
abbrev pub DecodeGiven : List ℕ → List ℕ → List ℕ → List ℕ → ℕ → List ℕ → ℕ → Answer → Type 0
DecodeGiven next successors predecessors letters starts window b v =
    (c : Coder) → TablesOf c next successors predecessors letters starts → DecodedIn (from_word c starts) window b v
