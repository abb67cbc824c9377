-- The writer of coder files for a host in C (document 02, 3/13): field 0 is the number of the file's bytes.
use Rattle.std.specs.Prelude.{ℕ, List}
use Rattle.layout.specs.Host.{laid_count, FromHost}
use Rattle.writer.specs.Write.{WriteWith}

abbrev pub WriteFromHost : ℕ → ℕ → ℕ → List ℕ → List ℕ → List ℕ → ℕ → List ℕ → List ℕ → Type 0
WriteFromHost n i o entries before result r after result' =
    FromHost (λ others own. WriteWith n i o entries before others own after) laid_count result r result'
