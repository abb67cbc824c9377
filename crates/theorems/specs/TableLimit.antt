-- Refusal 10 by cases on O (document 02, 4/13): the cases refuse exactly the tables that would have more than 65,536 bytes, and a call for
-- a table is refused with 10 exactly where they do and no number before 10 applies. Over the promises of the calls.
use Rattle.std.specs.Prelude.{ℕ, ◌≤◌, ◌<◌, ◌≡◌, false, ◌↔◌, List}
use Rattle.coder.specs.File.{outputs_of}
use Rattle.values.specs.Window.{size}
use Rattle.values.specs.declared.Window.{Window}
use Rattle.table_size.specs.Cases.{table_allowed}
use Rattle.window_limits.specs.Refusal.{SidesSmall}
use Rattle.decoder_refusal.specs.Refusal.{limits_refusal, table_size}
use Rattle.decoder.specs.Table.{TablePromise}
use Rattle.decoder_host.specs.Laid.{TableFromHost}
use Rattle.std.specs.Prelude.{Result}
use Rattle.coder.specs.declared.refusal.Refusal.{Refusal}
use Rattle.coder.specs.Refused.{Refused}

-- For every O from 1 to 64 and every window that a call may name: the cases refuse its table exactly where that would have more than
-- 65,536 bytes.
abbrev pub CasesExact : Type 0
CasesExact =
    (o : ℕ) (w : Window) → 1 ≤ o → o ≤ 64 → SidesSmall w.before w.after → table_allowed o (size w) ≡ false ↔ 65536 < table_size o w

-- Neither the file nor a number of the window is refused, and the cases refuse the table.
pub record RefusedByCases (f : List ℕ) (w : Window) : Type 0 where
  pub limits : limits_refusal f w ≡ 0
  pub not_allowed : table_allowed (outputs_of f) (size w) ≡ false

pub record TableLimit : Type 0 where
  pub exact : CasesExact
  -- whatever the lent buffers
  pub call :
      (f : List ℕ) (w : Window) (before : List ℕ) (r : Result ℕ Refusal) (after : List ℕ) → TablePromise f w before r after →
      r ≡ Refused 10 ↔ RefusedByCases f w
  pub call_from_C :
      (f : List ℕ) (w : Window) (before result : List ℕ) (r : ℕ) (after result' : List ℕ) →
      TableFromHost f w before result r after result' → r ≡ 10 ↔ RefusedByCases f w
