-- A decoder table shows whether its window works: it does exactly where no byte of the table is 255. Over the promises of the calls.
use Rattle.std.specs.Prelude.{ℕ, ◌<◌, ◌↔◌, ◌≢◌, List, get_or}
use Rattle.mealy.specs.Window.{Works}
use Rattle.values.specs.declared.Window.{Window}
use Rattle.decoder.specs.Window.{window_setting}
use Rattle.decoder.specs.Table.{TablePromise}
use Rattle.decoder_host.specs.Laid.{TableFromHost}
use Rattle.layout.specs.Layout.{field_at}
use Rattle.std.specs.Prelude.{Ok}

-- n bytes of a table, and what they show of the window w
abbrev pub Shows : List ℕ → Window → ℕ → List ℕ → Type 0
Shows f w n table = Works (window_setting f w) w.before w.after ↔ ((k : ℕ) → k < n → get_or table k 0 ≢ 255)

pub record TableShows : Type 0 where
  pub own :
      (f : List ℕ) (w : Window) (before : List ℕ) (n : ℕ) (after : List ℕ) → TablePromise f w before (Ok n) after → Shows f w n after
  -- from C: the call returned 0, and the host reads the number of bytes from field 0
  pub from_C :
      (f : List ℕ) (w : Window) (before result after result' : List ℕ) → TableFromHost f w before result 0 after result' →
      Shows f w (field_at result' 0) after
