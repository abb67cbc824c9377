-- Settle counts (document 02, 6/13), over the promises of the calls: what "works" and "fits" say with no setting; that existence is the same
-- for every settle count, that a larger one never gives a later window, and that from 15 to 64 the reported window and every answer are the
-- same; and that the looped pair does not depend on it.
use Rattle.std.specs.Prelude.{ℕ, ◌≤◌, ◌≡◌, Bool, ◌↔◌, List}
use Rattle.mealy.specs.Window.{Works, SameLetter}
use Rattle.mealy.specs.Answer.{Fits, FitsAfter}
use Rattle.coder.specs.File.{file_refusal, machine_of, setting_after}
use Rattle.values.specs.Window as values
use Rattle.values.specs.Order.{default_order}
use Rattle.values.specs.declared.Window.{Window}
use Rattle.values.specs.declared.Order.{Order}
use Rattle.values.specs.declared.LoopedPair.{LoopedPair}
use Rattle.search.specs.Search.{IsNoDecoder, SearchWith, SearchPromise}
use Rattle.search.specs.declared.Verdict.{Verdict}
use Rattle.search.specs.declared.Verdict.TheVariants.{Least, NoDecoder}
use Rattle.layout.specs.Layout.{field_at}
use Rattle.search_host.specs.Laid.{SearchFromHost}
use Rattle.theorems.specs.RoundTrip.{window_read}
use Rattle.theorems.specs.Demands.{NoLater}
use Rattle.theorems.specs.SameAnswers.{SameAnswers, SameAnswersFromC}
use Rattle.std.specs.Prelude.{Result, Ok, Err}
use Rattle.coder.specs.declared.refusal.Refusal.{Refusal}

-- the same verdict, and the same result of a search, with the settle count p in a reported window
abbrev pub verdict_with : ℕ → Verdict → Verdict
verdict_with p (Least w) = Least (values.window w.before w.after p)
verdict_with p (NoDecoder q) = NoDecoder q

abbrev pub result_with : ℕ → Result Verdict Refusal → Result Verdict Refusal
result_with p (Err e) = Err e
result_with p (Ok v) = Ok (verdict_with p v)

-- Two settle counts of an accepted file with which everything is the same: the search reports windows with the same sides.
pub record SameWith (f : List ℕ) (p p' : ℕ) : Type 0 where
  pub search :
      (o : Order) (before : List ℕ) (others : Bool) (r r' : Result Verdict Refusal) (after after' : List ℕ) → SearchWith o f p before others r after →
      SearchWith o f p' before others r' after' → (result_with p' r ≡ r') × (after ≡ after')
  pub search_from_C :
      (before result : List ℕ) (r r' : ℕ) (after after' given given' : List ℕ) → SearchFromHost f p before result r after given →
      SearchFromHost f p' before result r' after' given' → (r ≡ r') × ((after ≡ after') × (given ≡ given'))
  pub answers : SameAnswers f f p p'
  pub answers_from_C : SameAnswersFromC f f p p'

pub record SettleCounts : Type 0 where
  -- third sentence: a window works exactly where two runs of p letters more, from reachable states, that agree in output from place p on have
  -- the same letter at place p + b; and a letter fits exactly where such a run has it there
  pub works : (f : List ℕ) (p b a : ℕ) → Works (setting_after f p) b a ↔ SameLetter (machine_of f) p b a
  pub fits : (f : List ℕ) (p : ℕ) (w : List ℕ) (b x : ℕ) → Fits (setting_after f p) w b x ↔ FitsAfter (machine_of f) p w b x
  -- existence: with any two settle counts, in any two orders, both searches report a window, or neither does
  pub existence :
      (o o' : Order) (f : List ℕ) (p p' : ℕ) (before before' : List ℕ) (v v' : Verdict) (after after' : List ℕ) →
      SearchPromise o f p before (Ok v) after → SearchPromise o' f p' before' (Ok v') after' → IsNoDecoder v ↔ IsNoDecoder v'
  -- of two settle counts, the larger gives no later window in the order used
  pub larger_no_later :
      (o : Order) (f : List ℕ) (p p' : ℕ) (before before' : List ℕ) (w w' : Window) (after after' : List ℕ) → p ≤ p' →
      SearchPromise o f p before (Ok (Least w)) after → SearchPromise o f p' before' (Ok (Least w')) after' →
      NoLater o w' w.before w.after
  -- from 15 to 64, as a coder has at most 16 states
  pub from_15 :
      (f : List ℕ) (p p' : ℕ) → file_refusal f ≡ 0 → 15 ≤ p → p ≤ 64 → 15 ≤ p' → p' ≤ 64 → SameWith f p p'
  -- the looped pair, with any two settle counts and in any two orders
  pub pair :
      (o o' : Order) (f : List ℕ) (p p' : ℕ) (before : List ℕ) (q q' : LoopedPair) (after after' : List ℕ) →
      SearchPromise o f p before (Ok (NoDecoder q)) after → SearchPromise o' f p' before (Ok (NoDecoder q')) after' →
      (q ≡ q') × (after ≡ after')
  -- from C: field 0 says whether there is a window, of which fields 1 and 2 are the sides
  pub existence_from_C :
      (f : List ℕ) (p p' : ℕ) (before result after given before' result' after' given' : List ℕ) →
      SearchFromHost f p before result 0 after given → SearchFromHost f p' before' result' 0 after' given' →
      field_at given 0 ≡ field_at given' 0
  pub larger_no_later_from_C :
      (f : List ℕ) (p p' : ℕ) (before result after given before' result' after' given' : List ℕ) → p ≤ p' →
      SearchFromHost f p before result 0 after given → SearchFromHost f p' before' result' 0 after' given' → field_at given 0 ≡ 0 →
      NoLater default_order (window_read given' p') (field_at given 1) (field_at given 2)
  pub pair_from_C :
      (f : List ℕ) (p p' : ℕ) (before result after given after' given' : List ℕ) → SearchFromHost f p before result 0 after given →
      SearchFromHost f p' before result 0 after' given' → field_at given 0 ≡ 1 → (after ≡ after') × (given ≡ given')
