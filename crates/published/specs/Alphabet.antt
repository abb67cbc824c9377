-- Unused output letters (document 02, 7/13), of each coder that a call is given: its rules give 15 exactly where no number from 1 to 6
-- applies and its entries do not name the whole alphabet. So is a call refused with 15 that is given this coder and no other, whatever
-- else it is given. A call that is given two files (11/13) is refused with 15 by the first one's rules, or, where these give no number, by
-- the second one's. A call that is not refused has coders that name all letters. Over the published list; that each call is refused as the
-- list says stands in theorems/specs/Demands.antt.
use Rattle.std.specs.Prelude.{ℕ, ◌*◌, ◌≤◌, ◌≡◌, true, ◌↔◌, ◌⊎◌, List, [], ◌∷◌, ◌++◌}
use Rattle.coder.specs.Alphabet.{NamesAlphabet}
use Rattle.coder.specs.Accepted.{IsCoder}
use Rattle.coder.specs.File.{states_of, inputs_of, outputs_of, machine_of, machine_of_entries}
use Rattle.published.specs.Published.{Rule, first_number, without, layout_rules, file_rules, parts_layout_rules, parts_rules}

-- The entries of a file, or of counts and entry bytes, name its whole alphabet.
abbrev pub FileNamed : List ℕ → Type 0
FileNamed f = NamesAlphabet (machine_of f) (outputs_of f)

abbrev pub PartsNamed : ℕ → ℕ → ℕ → List ℕ → Type 0
PartsNamed n i o entries = NamesAlphabet (machine_of_entries n i entries) o

-- A coder's rules, of which `layout` are those before 15.
pub record FifteenLast (layout rules : List Rule) (Named : Type 0) : Type 0 where
  -- they give 15 exactly where none before applies and the entries leave a letter out
  pub refused : first_number rules ≡ 15 ↔ ((first_number layout ≡ 0) × (Named → ⊥))
  -- and so does a call whose rules begin with them, and whose other rules do not have this number
  pub call_refused : (rest : List Rule) → without 15 rest ≡ true → first_number (rules ++ rest) ≡ 15 ↔ first_number rules ≡ 15
  -- a call that is not refused has a coder that leaves none out
  pub call_accepted : (rest : List Rule) → first_number (rules ++ rest) ≡ 0 → Named

-- The file of coder A, running parity, with so many output letters: its entries name the letters 0 and 1.
abbrev pub parity : ℕ → List ℕ
parity o = 1 ∷ 0 ∷ 11 ∷ 2 ∷ 2 ∷ o ∷ 0 ∷ 0 ∷ 1 ∷ 1 ∷ 1 ∷ 1 ∷ 0 ∷ 0 ∷ []

pub record WholeAlphabet : Type 0 where
  pub file : (f : List ℕ) → FifteenLast (layout_rules f) (file_rules f) (FileNamed f)
  pub parts :
      (n i o : ℕ) (entries : List ℕ) →
      FifteenLast (parts_layout_rules n i o entries) (parts_rules n i o entries) (PartsNamed n i o entries)
  -- of two files, in front of rules that do not have this number
  pub two_files :
      (f g : List ℕ) (rest : List Rule) → without 15 rest ≡ true →
      first_number (file_rules f ++ (file_rules g ++ rest)) ≡ 15 ↔
      ((first_number (file_rules f) ≡ 15) ⊎ ((first_number (file_rules f) ≡ 0) × (first_number (file_rules g) ≡ 15)))
  pub two_accepted : (f g : List ℕ) (rest : List Rule) → first_number (file_rules f ++ (file_rules g ++ rest)) ≡ 0 → FileNamed f × FileNamed g
  -- such a coder has no more output letters than entries
  pub no_more_letters : (f : List ℕ) → FileNamed f → outputs_of f ≤ states_of f * inputs_of f
  -- of counts and entries the list lets pass the coders within the limits that name their whole alphabet, and nothing else
  pub coders : (n i o : ℕ) (entries : List ℕ) → first_number (parts_rules n i o entries) ≡ 0 ↔ IsCoder n i o entries
  -- coder A as it is, with a letter more, and with more than there may be
  pub parity_2 : first_number (file_rules (parity 2)) ≡ 0
  pub parity_3 : first_number (file_rules (parity 3)) ≡ 15
  pub parity_65 : first_number (file_rules (parity 65)) ≡ 4
