-- Spare states do not count (document 02, 5/13), over the promises of the calls: that the checker says no to a pair with a start state that
-- is not reachable; that two files which differ in spare states alone have the same outcomes of a run from a reachable state, of search,
-- window, string and table, and of the check; and that a coder without spare states is studied, with settle count 0, as in document 01
-- alone. What "works" says of runs from reachable states, with no setting, stands in SettleCounts.antt.
use Rattle.std.specs.Prelude.{ℕ, ◌≤◌, ◌<◌, ◌≡◌, Bool, true, false, ◌↔◌, List, length}
use Rattle.mealy.specs.Reachable.{Reachable, WithSpare}
use Rattle.mealy.specs.Setting.{any_state}
use Rattle.mealy.specs.Window.{Works}
use Rattle.mealy.specs.Order.{Least}
use Rattle.mealy.specs.Answer.{Answer, Answers}
use Rattle.mealy.specs.LoopedPair.{LoopedPair, Run, start_of, Valid}
use Rattle.mealy.specs.First.{First}
use Rattle.coder.specs.File.{file_refusal, states_of, outputs_of, machine_of, setting_of, setting_after}
use Rattle.running.specs.Run.{RunWith}
use Rattle.values.specs.Order.{relation_of}
use Rattle.values.specs.declared.Order.{Order}
use Rattle.search.specs.Search.{SearchWith}
use Rattle.checker.specs.Check.{check_refusal, CheckWith, CheckPromise}
use Rattle.running_host.specs.Laid.{RunFromHost}
use Rattle.search_host.specs.Laid.{SearchFromHost}
use Rattle.checker_host.specs.Laid.{CheckFromHost}
use Rattle.layout.specs.Layout.{field_at}
use Rattle.theorems.specs.SameAnswers.{SameAnswers, SameAnswersFromC}
use Rattle.std.specs.Prelude.{Result, Ok}
use Rattle.coder.specs.declared.refusal.Refusal.{Refusal}
use Rattle.running.specs.declared.RunEnd.{RunEnd}
use Rattle.search.specs.declared.Verdict.{Verdict}

-- Both files are accepted, and they differ in spare states alone: the same entries at each state that is reachable, and any at the others.
-- The second has at least as many states.
pub record FileWithSpare (f f' : List ℕ) : Type 0 where
  pub file : file_refusal f ≡ 0
  pub file' : file_refusal f' ≡ 0
  pub states : states_of f ≤ states_of f'
  pub outputs : outputs_of f ≡ outputs_of f'
  pub entries : WithSpare (machine_of f) (machine_of f')

-- Two outcomes of one call, with the same arguments but for the file, are equal, whatever other buffers are lent.
module _ (f f' : List ℕ) where
  pub record SameOutcomes : Type 0 where
    -- from a reachable state
    pub run :
        (s : ℕ) (xs before : List ℕ) (others : Bool) (r r' : Result RunEnd Refusal) (after after' : List ℕ) → Reachable (machine_of f) s →
        RunWith f s xs before others r after → RunWith f' s xs before others r' after' → (r ≡ r') × (after ≡ after')
    pub search :
        (o : Order) (p : ℕ) (before : List ℕ) (others : Bool) (r r' : Result Verdict Refusal) (after after' : List ℕ) →
        SearchWith o f p before others r after → SearchWith o f' p before others r' after' → (r ≡ r') × (after ≡ after')
    -- of single windows, strings and tables
    pub answers : (p : ℕ) → SameAnswers f f' p p
    -- of pairs that start in states of the first file: those of the second alone it refuses with 7
    pub check :
        (q : LoopedPair) (others : Bool) (r r' : Result Bool Refusal) → ((u : Run) → start_of q u < states_of f) → CheckWith f q others r →
        CheckWith f' q others r' → r ≡ r'

  pub record SameOutcomesFromC : Type 0 where
    pub run :
        (s : ℕ) (xs before result : List ℕ) (r r' : ℕ) (after after' given given' : List ℕ) → Reachable (machine_of f) s →
        RunFromHost f s xs before result r after given → RunFromHost f' s xs before result r' after' given' →
        (r ≡ r') × ((after ≡ after') × (given ≡ given'))
    pub search :
        (p : ℕ) (before result : List ℕ) (r r' : ℕ) (after after' given given' : List ℕ) → SearchFromHost f p before result r after given →
        SearchFromHost f' p before result r' after' given' → (r ≡ r') × ((after ≡ after') × (given ≡ given'))
    pub answers : (p : ℕ) → SameAnswersFromC f f' p p
    pub check :
        (q : LoopedPair) (result : List ℕ) (r r' : ℕ) (given given' : List ℕ) → ((u : Run) → start_of q u < states_of f) →
        CheckFromHost f q result r given → CheckFromHost f' q result r' given' → (r ≡ r') × (given ≡ given')

-- The meaning of document 01 alone, with any start state, for windows and letters that fit, with settle count 0, and for pairs.
pub record AsInDocument01 (f : List ℕ) : Type 0 where
  pub works : (b a : ℕ) → Works (setting_after f 0) b a ↔ Works (any_state (machine_of f)) b a
  pub least : (o : Order) (b a : ℕ) → Least (relation_of o) (setting_after f 0) b a ↔ Least (relation_of o) (any_state (machine_of f)) b a
  pub answers : (w : List ℕ) (b : ℕ) (v : Answer) → Answers (setting_after f 0) w b v ↔ Answers (any_state (machine_of f)) w b v
  pub valid : (q : LoopedPair) → Valid (setting_of f) q ↔ Valid (any_state (machine_of f)) q
  pub first : (q : LoopedPair) → First (setting_of f) q ↔ First (any_state (machine_of f)) q

pub record SpareStates : Type 0 where
  -- a pair that is not refused, of which one start state or both are not reachable
  pub checked :
      (f : List ℕ) (q : LoopedPair) (r : Result Bool Refusal) (u : Run) → check_refusal f q true ≡ 0 → CheckPromise f q r →
      (Reachable (machine_of f) (start_of q u) → ⊥) → r ≡ Ok false
  -- from C: such a check returns 0, and the host reads 0 from field 0
  pub checked_from_C :
      (f : List ℕ) (q : LoopedPair) (result : List ℕ) (r : ℕ) (result' : List ℕ) (u : Run) → check_refusal f q true ≡ 0 →
      64 ≤ length result → CheckFromHost f q result r result' → (Reachable (machine_of f) (start_of q u) → ⊥) →
      (r ≡ 0) × (field_at result' 0 ≡ 0)
  -- spare states, whatever their entries, change none of these outcomes
  pub with_spare : (f f' : List ℕ) → FileWithSpare f f' → SameOutcomes f f'
  pub with_spare_from_C : (f f' : List ℕ) → FileWithSpare f f' → SameOutcomesFromC f f'
  -- without spare states the meaning is that of document 01 alone
  pub none_spare :
      (f : List ℕ) → file_refusal f ≡ 0 → ((s : ℕ) → s < states_of f → Reachable (machine_of f) s) → AsInDocument01 f
