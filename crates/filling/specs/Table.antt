-- The decoder table: a byte for each window, by its index.
use Rattle.std.specs.Prelude.{Bool, ℕ, ◌^◌, ◌≤◌, ◌<◌, ◌≡◌, List, length, get_or}
use Rattle.mealy.specs.Setting.{Setting}
use Rattle.mealy.specs.Index.{window_at}
use Rattle.coder.specs.Limits.{max_outputs}
use Rattle.coder.specs.Table.{machine_of_coder}
use Rattle.coder.specs.declared.inner.tables.Coder.{Coder}
use Rattle.setting.specs.Words.{from_word, StartWord}
use Rattle.fitting.specs.Answer.{RightByte, ByteOf}
use Rattle.filling.specs.Runs.{From, EachWord, SetsIn, LetterAfter}
use Rattle.filling.specs.Sets.{RowsOf, RowsAsked}

-- v is the right byte for the window of n letters with index k
abbrev pub EntryAt : Setting → ℕ → ℕ → ℕ → ℕ → ℕ → Type 0
EntryAt S o n b k v = RightByte S (window_at o n k) b v

-- what filling the table asks: it has a byte for each window
pub record FillAsked (next start entries : List ℕ) (outputs n b : ℕ) (table : List ℕ) : Type 0 where
  pub coder : Coder
  pub rows : RowsOf coder start entries
  pub next_is : next ≡ coder.next
  pub outputs_low : 1 ≤ outputs
  pub outputs_high : outputs ≤ max_outputs
  pub inside : b < n
  pub size : length table ≡ outputs ^ n

-- and what it does: each byte is right for runs that start in the states of the word
pub record TableFilled (c : Coder) (starts o n b : ℕ) (table : List ℕ) : Type 0 where
  pub size : length table ≡ o ^ n
  pub is : (k : ℕ) → k < o ^ n → EntryAt (from_word c starts) o n b k (get_or table k 0)

abbrev pub FillGiven : List ℕ → List ℕ → List ℕ → ℕ → ℕ → ℕ → ℕ → List ℕ → Type 0
FillGiven next start entries outputs starts n b table =
    (c : Coder) → RowsOf c start entries → next ≡ c.next → StartWord c starts → TableFilled c starts outputs n b table

-- ---- the part of the table whose windows have `left` letters more, after letters that led to the sets v

pub record PartAsked (next start entries : List ℕ) (outputs : ℕ) (v : List ℕ) (left present : ℕ) (table : List ℕ) : Type 0 where
  pub coder : Coder
  pub rows : RowsOf coder start entries
  pub next_is : next ≡ coder.next
  pub words : EachWord v
  pub outputs_low : 1 ≤ outputs
  pub outputs_high : outputs ≤ max_outputs
  pub more : 0 < left
  pub inside : present ≤ left
  pub size : length table ≡ outputs ^ left

-- each byte is that of the answer for the letters at the present place of the runs on from these sets
pub record PartFilled (c : Coder) (v : List ℕ) (o left present : ℕ) (table : List ℕ) : Type 0 where
  pub size : length table ≡ o ^ left
  pub is :
      (k : ℕ) → k < o ^ left → ByteOf (From (machine_of_coder c) (SetsIn c v) (window_at o left k) present) (get_or table k 0)

abbrev pub PartGiven : List ℕ → List ℕ → List ℕ → ℕ → List ℕ → ℕ → ℕ → List ℕ → Type 0
PartGiven next start entries outputs v left present table =
    (c : Coder) → RowsOf c start entries → next ≡ c.next → PartFilled c v outputs left present table

-- with one letter more
pub record LastAsked (start entries : List ℕ) (outputs : ℕ) (v table : List ℕ) : Type 0 where
  pub rows : RowsAsked start entries
  pub words : EachWord v
  pub outputs_high : outputs ≤ max_outputs
  pub size : length table ≡ outputs

abbrev pub LastFilled : Coder → List ℕ → Bool → ℕ → List ℕ → Type 0
LastFilled c v here n table = (o : ℕ) → o < n → ByteOf (LetterAfter c v o here) (get_or table o 0)
