-- The coder run for a host in C: its result laid out, and the call's promise.
use Rattle.std.specs.Prelude.{ℕ, List, [], ◌∷◌, Result}
use Rattle.layout.specs.Host.{Laid, laid, FromHost}
use Rattle.running.specs.Run.{RunWith}
use Rattle.coder.specs.declared.refusal.Refusal.{Refusal}
use Rattle.running.specs.declared.RunEnd.{RunEnd}

-- Field 0 is the number of letters written and field 1 the end state ("Numbers of refusal", the sentence on counts).
abbrev pub run_fields : RunEnd → List ℕ
run_fields r = r.count ∷ r.end ∷ []

abbrev pub laid_run : Result RunEnd Refusal → Laid
laid_run = laid run_fields

-- Demand 2, first sentence, for a host.
abbrev pub RunFromHost : List ℕ → ℕ → List ℕ → List ℕ → List ℕ → ℕ → List ℕ → List ℕ → Type 0
RunFromHost f s xs before result r after result' =
    FromHost (λ others own. RunWith f s xs before others own after) laid_run result r result'
