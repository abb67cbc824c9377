-- No promise is empty: for every argument, whatever other buffers are lent, some outcome meets it. That two outcomes which meet it are
-- equal stands beside each call (proofs/Determined.antt of its crate).
use Rattle.std.specs.Prelude.{ℕ, Bool, List, Option}
use Rattle.mealy.specs.LoopedPair.{LoopedPair}
use Rattle.values.specs.declared.Window.{Window}
use Rattle.values.specs.declared.Order.{Order}
use Rattle.running.specs.Run.{RunWith}
use Rattle.search.specs.Search.{SearchWith}
use Rattle.checker.specs.Check.{CheckWith}
use Rattle.decoder.specs.Window.{WindowWith}
use Rattle.decoder.specs.Places.{StringWith}
use Rattle.decoder.specs.Table.{TableWith}
use Rattle.search_kinds.specs.Search.{SearchKindsWith}
use Rattle.window_kinds.specs.Window.{WindowKindsWith}
use Rattle.writer.specs.Write.{WriteWith}
use Rattle.joining.specs.Join.{JoinWith}
use Rattle.layout.specs.Host.{roomy, Laid, FromHost}
use Rattle.std.specs.Prelude.{Result}
use Rattle.coder.specs.declared.refusal.Refusal.{Refusal}
use Rattle.running.specs.declared.RunEnd.{RunEnd}
use Rattle.fitting.specs.declared.Answer.{Answer}
use Rattle.search.specs.declared.Verdict.{Verdict}
use Rattle.search_kinds.specs.declared.Told.{Told}
use Rattle.window_kinds.specs.declared.KindsAnswer.{KindsAnswer}

pub record OutcomesExist : Type 1 where
  pub run :
      (f : List ℕ) (s : ℕ) (xs before : List ℕ) (others : Bool) → (r : Result RunEnd Refusal) × (after : List ℕ) × RunWith f s xs before others r after
  pub search :
      (o : Order) (f : List ℕ) (p : ℕ) (before : List ℕ) (others : Bool) →
      (r : Result Verdict Refusal) × (after : List ℕ) × SearchWith o f p before others r after
  pub check : (f : List ℕ) (q : LoopedPair) (others : Bool) → (r : Result Bool Refusal) × CheckWith f q others r
  pub window : (f : List ℕ) (w : Window) (received : List ℕ) (others : Bool) → (r : Result Answer Refusal) × WindowWith f w received others r
  pub string :
      (f : List ℕ) (w : Window) (received before : List ℕ) (others : Bool) →
      (r : Result ℕ Refusal) × (after : List ℕ) × StringWith f w received before others r after
  pub table :
      (f : List ℕ) (w : Window) (before : List ℕ) (others : Bool) →
      (r : Result ℕ Refusal) × (after : List ℕ) × TableWith f w before others r after
  pub search_kinds : (f kinds : List ℕ) (others : Bool) → (r : Result (Option Told) Refusal) × SearchKindsWith f kinds others r
  pub window_kinds :
      (f kinds : List ℕ) (b a : ℕ) (received : List ℕ) (others : Bool) →
      (r : Result KindsAnswer Refusal) × WindowKindsWith f kinds b a received others r
  pub write :
      (n i o : ℕ) (entries before : List ℕ) (others : Bool) →
      (r : Result ℕ Refusal) × (after : List ℕ) × WriteWith n i o entries before others r after
  pub join : (f g before : List ℕ) (others : Bool) → (r : Result ℕ Refusal) × (after : List ℕ) × JoinWith f g before others r after
  -- from C, of every call: an outcome of the own call that has the result buffer besides can be laid out
  pub from_C :
      {R : Type 0} (Promise : Bool → R → Type 0) (laid : R → Laid) (result : List ℕ) (own : R) → Promise (roomy result) own →
      (r : ℕ) × (result' : List ℕ) × FromHost Promise laid result r result'
