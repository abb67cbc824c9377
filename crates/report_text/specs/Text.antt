-- The report's text in its bytes, and in a lent buffer.
use Rattle.std.specs.Prelude.{ℕ, ◌+◌, ◌≤◌, ◌≡◌, List, length, get_or, take}
use Rattle.placing.specs.Placed.{Placed}
use Rattle.pair_text.specs.Lines.{pair_bytes}
use Rattle.report_text.specs.Report.{VerdictLines, ReportPromise}
use Rattle.report_text.specs.declared.Text.{Text}

-- How many bytes hold the text.
abbrev pub text_bytes : ℕ
text_bytes = 3200

-- The bytes that are the text.
abbrev pub text_of : Text → List ℕ
text_of t = take t.len t.bytes

-- There are `text_bytes` bytes, and those past the text are 0.
pub record Padded (t : Text) : Type 0 where
  pub space : length t.bytes ≡ text_bytes
  pub fits : t.len ≤ text_bytes
  pub clear : (k : ℕ) → t.len ≤ k → get_or t.bytes k 0 ≡ 0

-- The right lines of the verdict are written from the place `at` on.
pub record VerdictWritten (f before : List ℕ) (at : ℕ) (after : List ℕ) (next : ℕ) : Type 0 where
  pub lines : List ℕ
  pub right : VerdictLines f lines
  pub is : Placed before at lines after next
  pub short : next ≤ at + pair_bytes

-- The report on a file is written from the buffer's front on.
pub record ReportWritten (f before after : List ℕ) (n : ℕ) : Type 0 where
  pub text : List ℕ
  pub right : ReportPromise f text
  pub is : Placed before 0 text after n
  pub short : n ≤ text_bytes
