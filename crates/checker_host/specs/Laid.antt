-- The checker of looped pairs for a host in C: its result laid out, and the call's promise.
use Rattle.std.specs.Prelude.{ℕ, Bool, cond, List, [], ◌∷◌, Result}
use Rattle.mealy.specs.LoopedPair.{LoopedPair}
use Rattle.layout.specs.Host.{Laid, laid, FromHost}
use Rattle.checker.specs.Check.{CheckWith}
use Rattle.coder.specs.declared.refusal.Refusal.{Refusal}

-- The number of a yes or a no.
abbrev pub number_of : Bool → ℕ
number_of b = cond {A = ℕ} b 1 0

-- Field 0 is 1 for a valid pair and 0 for any other.
abbrev pub check_fields : Bool → List ℕ
check_fields b = number_of b ∷ []

abbrev pub laid_check : Result Bool Refusal → Laid
laid_check = laid check_fields

-- "Looped pair", the sentence on the checker, for a host.
abbrev pub CheckFromHost : List ℕ → LoopedPair → List ℕ → ℕ → List ℕ → Type 0
CheckFromHost f q result r result' = FromHost (CheckWith f q) laid_check result r result'
