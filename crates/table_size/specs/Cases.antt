-- Which decoder tables are allowed, by cases on O, the number of output letters (document 02, 4/13).
use Rattle.std.specs.Prelude.{ℕ, Bool, true, false, cond, ◌&&◌, List, [], ◌∷◌, leb}

-- The longest window allowed: any, or one of so many letters.
pub data Longest : Type 0 where
  any : Longest
  up_to : ℕ → Longest

-- A case: from this O to that one, both included, the longest window allowed.
pub record Case : Type 0 where
  pub from : ℕ
  pub to : ℕ
  pub longest : Longest

-- The cases of the document, a line each.
abbrev pub table_cases : List Case
table_cases =
    record { from = 1; to = 1; longest = any } ∷
    record { from = 2; to = 2; longest = up_to 16 } ∷
    record { from = 3; to = 3; longest = up_to 10 } ∷
    record { from = 4; to = 4; longest = up_to 8 } ∷
    record { from = 5; to = 6; longest = up_to 6 } ∷
    record { from = 7; to = 9; longest = up_to 5 } ∷
    record { from = 10; to = 16; longest = up_to 4 } ∷
    record { from = 17; to = 40; longest = up_to 3 } ∷
    record { from = 41; to = 64; longest = up_to 2 } ∷
    []

-- a window of n letters is no longer than that
abbrev pub no_longer : Longest → ℕ → Bool
no_longer any n = true
no_longer (up_to m) n = leb n m

-- Whether the first case that has this O allows windows of n letters; false where no case has it.
abbrev pub allowed_by : List Case → ℕ → ℕ → Bool
allowed_by [] o n = false
allowed_by (c ∷ cs) o n = cond (leb c.from o && leb o c.to) (no_longer c.longest n) (allowed_by cs o n)

-- Whether windows of n letters, O being o, may have a table.
unfoldable pub table_allowed : ℕ → ℕ → Bool
table_allowed o n = allowed_by table_cases o n
