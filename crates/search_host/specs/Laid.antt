-- The window search for a host in C: its result laid out, and the call's promise.
use Rattle.std.specs.Prelude.{ℕ, List, [], ◌∷◌, Result}
use Rattle.values.specs.Order.{default_order}
use Rattle.layout.specs.Host.{Laid, laid, FromHost}
use Rattle.search.specs.Search.{SearchWith}
use Rattle.search.specs.declared.Verdict.{Verdict}
use Rattle.search.specs.declared.Verdict.TheVariants.{Least, NoDecoder}
use Rattle.coder.specs.declared.refusal.Refusal.{Refusal}

-- The fields of a verdict ("Looped pair", the sentence on the verdict): its kind, then a window's two sides, or a looped pair's start
-- states and four lengths.
abbrev pub verdict_fields : Verdict → List ℕ
verdict_fields (Least w) = 0 ∷ w.before ∷ w.after ∷ []
verdict_fields (NoDecoder p) =
    1 ∷ p.s ∷ p.t ∷ p.back_loop ∷ p.lead_in ∷ p.lead_out ∷ p.forward_loop ∷ []

abbrev pub laid_search : Result Verdict Refusal → Laid
laid_search = laid verdict_fields

-- Demand 3 for a host ("Coders and runs", last sentence: the call hands on the search's answer), in the default order (document 02, 1/13).
-- The settle count of a window is the host's own; the letters of a looped pair lie in the lent buffer.
abbrev pub SearchFromHost : List ℕ → ℕ → List ℕ → List ℕ → ℕ → List ℕ → List ℕ → Type 0
SearchFromHost f p before result r after result' =
    FromHost (λ others own. SearchWith default_order f p before others own after) laid_search result r result'
