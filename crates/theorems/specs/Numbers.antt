-- "Refused by number" (demand 1), of what a call returns: a refusal has the number of the first rule that applies, and where none applies
-- no refusal is returned. From C this number is what is returned (`laid` of layout/specs/Host.antt).
use Rattle.std.specs.Prelude.{ℕ, Bool, List, Result, Option, ◌≡◌}
use Rattle.mealy.specs.LoopedPair as mealy
use Rattle.coder.specs.declared.refusal.Refusal.{Refusal}
use Rattle.coder.specs.Refused.{number_in}
use Rattle.values.specs.declared.Window.{Window}
use Rattle.values.specs.declared.Order.{Order}
use Rattle.published.specs.Published.{Bytes, long_enough, first_number, file_rules, given_run, given_window, given_string, given_table, given_search, given_check, given_search_kinds, given_window_kinds, given_write, given_join}
use Rattle.reader.specs.Read.{header_of}
use Rattle.reader.specs.declared.Header.{Header}
use Rattle.running.specs.Run.{RunWith}
use Rattle.running.specs.declared.RunEnd.{RunEnd}
use Rattle.fitting.specs.declared.Answer.{Answer}
use Rattle.decoder.specs.Window.{WindowWith}
use Rattle.decoder.specs.Places.{StringWith}
use Rattle.decoder.specs.Table.{TableWith}
use Rattle.search.specs.Search.{SearchWith}
use Rattle.search.specs.declared.Verdict.{Verdict}
use Rattle.checker.specs.Check.{CheckWith}
use Rattle.search_kinds.specs.Search.{SearchKindsWith}
use Rattle.search_kinds.specs.declared.Told.{Told}
use Rattle.window_kinds.specs.Window.{WindowKindsWith}
use Rattle.window_kinds.specs.declared.KindsAnswer.{KindsAnswer}
use Rattle.writer.specs.Write.{WriteWith}
use Rattle.joining.specs.Join.{JoinWith}

pub record ByNumber : Type 0 where
  pub counts : (f : List ℕ) (r : Result Header Refusal) → r ≡ header_of f → number_in r ≡ first_number (file_rules f)
  pub run :
      (f : List ℕ) (s : ℕ) (xs before : List ℕ) (others : List Bytes) (r : Result RunEnd Refusal) (after : List ℕ) →
      RunWith f s xs before (long_enough others) r after → number_in r ≡ first_number (given_run f s xs before others)
  pub window :
      (f : List ℕ) (w : Window) (received : List ℕ) (others : List Bytes) (r : Result Answer Refusal) →
      WindowWith f w received (long_enough others) r → number_in r ≡ first_number (given_window f w received others)
  pub string :
      (f : List ℕ) (w : Window) (received before : List ℕ) (others : List Bytes) (r : Result ℕ Refusal) (after : List ℕ) →
      StringWith f w received before (long_enough others) r after → number_in r ≡ first_number (given_string f w received before others)
  pub table :
      (f : List ℕ) (w : Window) (before : List ℕ) (others : List Bytes) (r : Result ℕ Refusal) (after : List ℕ) →
      TableWith f w before (long_enough others) r after → number_in r ≡ first_number (given_table f w before others)
  pub search :
      (o : Order) (f : List ℕ) (p : ℕ) (before : List ℕ) (others : List Bytes) (r : Result Verdict Refusal) (after : List ℕ) →
      SearchWith o f p before (long_enough others) r after → number_in r ≡ first_number (given_search f p before others)
  pub check :
      (f : List ℕ) (q : mealy.LoopedPair) (others : List Bytes) (r : Result Bool Refusal) → CheckWith f q (long_enough others) r →
      number_in r ≡ first_number (given_check f q others)
  pub search_kinds :
      (f kinds : List ℕ) (others : List Bytes) (r : Result (Option Told) Refusal) → SearchKindsWith f kinds (long_enough others) r →
      number_in r ≡ first_number (given_search_kinds f kinds others)
  pub window_kinds :
      (f kinds : List ℕ) (b a : ℕ) (received : List ℕ) (others : List Bytes) (r : Result KindsAnswer Refusal) →
      WindowKindsWith f kinds b a received (long_enough others) r →
      number_in r ≡ first_number (given_window_kinds f kinds b a received others)
  pub write :
      (n i o : ℕ) (entries before : List ℕ) (others : List Bytes) (r : Result ℕ Refusal) (after : List ℕ) →
      WriteWith n i o entries before (long_enough others) r after → number_in r ≡ first_number (given_write n i o entries before others)
  pub join :
      (f g before : List ℕ) (others : List Bytes) (r : Result ℕ Refusal) (after : List ℕ) → JoinWith f g before (long_enough others) r after →
      number_in r ≡ first_number (given_join f g before others)
