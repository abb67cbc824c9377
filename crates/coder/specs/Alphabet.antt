-- The output letters that entries name (document 02, 7/13): an accepted coder's entries name all of them.
use Rattle.std.specs.Prelude.{ℕ, ◌+◌, ◌*◌, ◌<◌, ◌≤◌, ◌≡◌, Bool, List, length, get_or, eqb}
use Rattle.mealy.specs.Machine.{Machine}
use Rattle.coder.specs.Refusal.{all_below, some_below}
use Rattle.coder.specs.Limits.{max_outputs}

-- The output letter of entry j, counted over all states, spare ones included.
abbrev pub letter_of : List ℕ → ℕ → ℕ
letter_of entries j = get_or entries (2 * j + 1) 0

-- Some of the first m entries names letter y.
unfoldable pub named : ℕ → List ℕ → ℕ → Bool
named m entries y = some_below m (λ j. eqb (letter_of entries j) y)

-- Refusal 15's test: m entries name each output letter below O.
abbrev pub all_named : ℕ → ℕ → List ℕ → Bool
all_named o m entries = all_below o (named m entries)

-- What it means: each letter below O is put out in some state on some input letter.
abbrev pub NamesAlphabet : Machine → ℕ → Type 0
NamesAlphabet M o = (y : ℕ) → y < o → (s : ℕ) × (x : ℕ) × (s < M.states) × (x < M.inputs) × (M.out s x ≡ y)

-- letter y is that of one of the first m entries
abbrev pub NamedBy : ℕ → List ℕ → ℕ → Type 0
NamedBy m entries y = (j : ℕ) × (j < m) × (letter_of entries j ≡ y)

-- what the code of the test asks: O is within its limits, there are m entries, and their letters are below O
pub record NamingAsked (o m : ℕ) (entries : List ℕ) : Type 0 where
  pub outputs_low : 1 ≤ o
  pub outputs_high : o ≤ max_outputs
  pub size : 2 * m ≤ length entries
  pub letter_low : (j : ℕ) → j < m → letter_of entries j < o
