-- Two files and two settle counts with which every answer is the same: of a single window, of a string and of a table, with the same sides
-- and the same arguments besides; refusals too.
use Rattle.std.specs.Prelude.{ℕ, ◌≡◌, Bool, List}
use Rattle.values.specs.Window as values
use Rattle.decoder.specs.Window.{WindowWith}
use Rattle.decoder.specs.Places.{StringWith}
use Rattle.decoder.specs.Table.{TableWith}
use Rattle.decoder_host.specs.Laid.{StringFromHost, TableFromHost, WindowFromHost}
use Rattle.std.specs.Prelude.{Result}
use Rattle.coder.specs.declared.refusal.Refusal.{Refusal}
use Rattle.fitting.specs.declared.Answer.{Answer}

-- Two outcomes of one call are equal, whatever other buffers are lent: result, and every lent byte.
module _ (f f' : List ℕ) (p p' : ℕ) where
  pub record SameAnswers : Type 0 where
    pub window :
        (b a : ℕ) (received : List ℕ) (others : Bool) (r r' : Result Answer Refusal) → WindowWith f (values.window b a p) received others r →
        WindowWith f' (values.window b a p') received others r' → r ≡ r'
    pub string :
        (b a : ℕ) (received before : List ℕ) (others : Bool) (r r' : Result ℕ Refusal) (after after' : List ℕ) →
        StringWith f (values.window b a p) received before others r after →
        StringWith f' (values.window b a p') received before others r' after' → (r ≡ r') × (after ≡ after')
    pub table :
        (b a : ℕ) (before : List ℕ) (others : Bool) (r r' : Result ℕ Refusal) (after after' : List ℕ) →
        TableWith f (values.window b a p) before others r after → TableWith f' (values.window b a p') before others r' after' →
        (r ≡ r') × (after ≡ after')

  pub record SameAnswersFromC : Type 0 where
    pub window :
        (b a : ℕ) (received result : List ℕ) (r r' : ℕ) (given given' : List ℕ) →
        WindowFromHost f (values.window b a p) received result r given →
        WindowFromHost f' (values.window b a p') received result r' given' →
        (r ≡ r') × (given ≡ given')
    pub string :
        (b a : ℕ) (received before result : List ℕ) (r r' : ℕ) (after after' given given' : List ℕ) →
        StringFromHost f (values.window b a p) received before result r after given →
        StringFromHost f' (values.window b a p') received before result r' after' given' →
        (r ≡ r') × ((after ≡ after') × (given ≡ given'))
    pub table :
        (b a : ℕ) (before result : List ℕ) (r r' : ℕ) (after after' given given' : List ℕ) →
        TableFromHost f (values.window b a p) before result r after given →
        TableFromHost f' (values.window b a p') before result r' after' given' → (r ≡ r') × ((after ≡ after') × (given ≡ given'))
