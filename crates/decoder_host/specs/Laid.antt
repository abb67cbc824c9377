-- The decoder for a host in C: one window, a string and a table, their results laid out, and the calls' promises.
use Rattle.std.specs.Prelude.{ℕ, List, [], ◌∷◌, Result}
use Rattle.values.specs.declared.Window.{Window}
use Rattle.fitting.specs.declared.Answer.{Answer}
use Rattle.fitting.specs.declared.Answer.TheVariants.{Letter, None, Several}
use Rattle.layout.specs.Host.{Laid, laid, laid_count, FromHost}
use Rattle.decoder.specs.Window.{WindowWith}
use Rattle.decoder.specs.Places.{StringWith}
use Rattle.decoder.specs.Table.{TableWith}
use Rattle.coder.specs.declared.refusal.Refusal.{Refusal}

-- The fields of an answer: the letter that alone fits; 254 for "none", with its count (document 02, 9/13, second sentence) in field 1; or
-- 255 for "several" ("Decoding", third sentence).
abbrev pub answer_fields : Answer → List ℕ
answer_fields (Letter x) = x ∷ []
answer_fields (None k) = 254 ∷ k ∷ []
answer_fields Several = 255 ∷ []

abbrev pub laid_window : Result Answer Refusal → Laid
laid_window = laid answer_fields

-- Demand 2, second sentence, for a host.
abbrev pub WindowFromHost : List ℕ → Window → List ℕ → List ℕ → ℕ → List ℕ → Type 0
WindowFromHost f w received result r result' = FromHost (WindowWith f w received) laid_window result r result'

-- "Decoding", the sentence on strings, for a host: field 0 is the number of bytes written.
abbrev pub StringFromHost : List ℕ → Window → List ℕ → List ℕ → List ℕ → ℕ → List ℕ → List ℕ → Type 0
StringFromHost f w received before result r after result' =
    FromHost (λ others own. StringWith f w received before others own after) laid_count result r result'

-- "Decoding", the sentences on the table, for a host: field 0 is the table's size.
abbrev pub TableFromHost : List ℕ → Window → List ℕ → List ℕ → ℕ → List ℕ → List ℕ → Type 0
TableFromHost f w before result r after result' =
    FromHost (λ others own. TableWith f w before others own after) laid_count result r result'
