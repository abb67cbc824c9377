-- Two coders in a row for a host in C (document 02, 11/13): field 0 is the number of bytes of the joined file.
use Rattle.std.specs.Prelude.{ℕ, List}
use Rattle.layout.specs.Host.{laid_count, FromHost}
use Rattle.joining.specs.Join.{JoinWith}

abbrev pub JoinFromHost : List ℕ → List ℕ → List ℕ → List ℕ → ℕ → List ℕ → List ℕ → Type 0
JoinFromHost f g before result r after result' =
    FromHost (λ others own. JoinWith f g before others own after) laid_count result r result'
