-- Coders in a row (document 02, 11/13, third sentence), over the promises of the calls: what is shown of every two files that the call
-- joins, f and then g, h being the file that it wrote. Proved by `coders_in_row`.
use Rattle.std.specs.Prelude.{ℕ, ◌+◌, ◌*◌, ◌≤◌, ◌<◌, ◌≡◌, true, List, length, take}
use Rattle.mealy.specs.Window.{Works}
use Rattle.coder.specs.File.{states_of, inputs_of, outputs_of, file_refusal, setting_after}
use Rattle.reader.specs.Read.{header_of}
use Rattle.running.specs.Run.{RunPromise}
use Rattle.running_host.specs.Laid.{RunFromHost}
use Rattle.values.specs.declared.Window.{Window}
use Rattle.values.specs.declared.Order.{Order}
use Rattle.values.specs.declared.Order.TheVariants.{LeastLookahead}
use Rattle.placing.specs.Placed.{with_front}
use Rattle.search.specs.Search.{SearchPromise}
use Rattle.search.specs.declared.Verdict.{Verdict}
use Rattle.search.specs.declared.Verdict.TheVariants.{Least}
use Rattle.search_host.specs.Laid.{SearchFromHost}
use Rattle.joining.specs.Join.{JoinPromise}
use Rattle.joining_host.specs.Laid.{JoinFromHost}
use Rattle.layout.specs.Layout.{field_at}
use Rattle.published.specs.Published.{first_number, Bytes, long_enough, given_run}
use Rattle.theorems.specs.RoundTrip.{FieldHolds, window_read}
use Rattle.theorems.specs.Demands.{NoLater}
use Rattle.std.specs.Prelude.{Ok}
use Rattle.running.specs.Run.{run_end}
use Rattle.reader.specs.Read.{header}

-- ---- a run that is not refused

-- On a file, from a state, on letters, into a buffer: the number of letters written, the end state, and what the buffer holds then.
abbrev pub Runs : Type 1
Runs = List ℕ → ℕ → List ℕ → List ℕ → ℕ → ℕ → List ℕ → Type 0

abbrev pub RunDone : List ℕ → ℕ → List ℕ → List ℕ → ℕ → ℕ → List ℕ → Type 0
RunDone f s xs before n e after = RunPromise f s xs before (Ok (run_end n e)) after

-- From C: the call returned 0, and the host reads both numbers from the fields.
pub record RunDoneFromC (f : List ℕ) (s : ℕ) (xs before : List ℕ) (n e : ℕ) (after : List ℕ) : Type 0 where
  pub result : List ℕ
  pub result' : List ℕ
  pub call : RunFromHost f s xs before result 0 after result'
  pub few : FieldHolds (length xs)
  pub count : n ≡ field_at result' 0
  pub ends : e ≡ field_at result' 1

-- ---- running it equals running the second coder on what the first one wrote, end states included

-- The first run, from s, wrote n letters and ended in e. The second, from t on these letters, wrote n' letters and ended in e'. Then that
-- of the joined coder, from s × N + t, writes the same n' letters and ends in e × N + e', with N that of the second. The states s and t are
-- any, reachable or not.
abbrev pub RunsInRow : Runs → List ℕ → List ℕ → List ℕ → Type 0
RunsInRow R f g h =
    (s t : ℕ) (xs before₁ : List ℕ) (n e : ℕ) (after₁ before₂ : List ℕ) (n' e' : ℕ) (after₂ before : List ℕ) (m q : ℕ) (after : List ℕ) →
    R f s xs before₁ n e after₁ → R g t (take n after₁) before₂ n' e' after₂ → R h (s * states_of g + t) xs before m q after →
    (m ≡ n') × (q ≡ e * states_of g + e') × (after ≡ with_front (take n' after₂) before)

-- Which run is refused, by the published list, whatever other buffers are lent: that of the joined coder where the first one's is, with the
-- same number,
abbrev pub SameNumber : List ℕ → List ℕ → List ℕ → Type 0
SameNumber f g h =
    (s t : ℕ) (xs before : List ℕ) (others : List Bytes) → t < states_of g →
    first_number (given_run h (s * states_of g + t) xs before others) ≡ first_number (given_run f s xs before others)

-- and that of the second on what the first one wrote never, from a state that it has and with room.
abbrev pub TakesLetters : Runs → List ℕ → List ℕ → Type 0
TakesLetters R f g =
    (s t : ℕ) (xs before₁ : List ℕ) (n e : ℕ) (after₁ before₂ : List ℕ) (others : List Bytes) → R f s xs before₁ n e after₁ →
    t < states_of g → n ≤ length before₂ → long_enough others ≡ true → first_number (given_run g t (take n after₁) before₂ others) ≡ 0

-- ---- windows

-- If windows b a and c d, of any size, work with settle count 0, so does b + c with a + d. Nothing is claimed the other way round.
abbrev pub WindowsAdd : List ℕ → List ℕ → List ℕ → Type 0
WindowsAdd f g h =
    (b a c d : ℕ) → Works (setting_after f 0) b a → Works (setting_after g 0) c d → Works (setting_after h 0) (b + c) (a + d)

-- So where the searches report w and w' for the two, in whatever orders, that of the joined coder reports a window, which comes in its own
-- order no later than the sum of the two,
abbrev pub SearchedInRow : List ℕ → List ℕ → List ℕ → Type 0
SearchedInRow f g h =
    (o₁ o₂ o : Order) (before₁ : List ℕ) (w : Window) (after₁ before₂ : List ℕ) (w' : Window) (after₂ before : List ℕ) (v : Verdict)
    (after : List ℕ) → SearchPromise o₁ f 0 before₁ (Ok (Least w)) after₁ → SearchPromise o₂ g 0 before₂ (Ok (Least w')) after₂ →
    SearchPromise o h 0 before (Ok v) after →
    (u : Window) × (v ≡ Least u) × NoLater o u (w.before + w'.before) (w.after + w'.after)

-- and from C, each window as the host reads it.
abbrev pub SearchedInRowFromC : List ℕ → List ℕ → List ℕ → Type 0
SearchedInRowFromC f g h =
    (before₁ result₁ after₁ given₁ before₂ result₂ after₂ given₂ before result after given : List ℕ) →
    SearchFromHost f 0 before₁ result₁ 0 after₁ given₁ → field_at given₁ 0 ≡ 0 →
    SearchFromHost g 0 before₂ result₂ 0 after₂ given₂ → field_at given₂ 0 ≡ 0 → SearchFromHost h 0 before result 0 after given →
    let w = window_read given₁ 0 in
    let w' = window_read given₂ 0 in
    (field_at given 0 ≡ 0) × NoLater LeastLookahead (window_read given 0) (w.before + w'.before) (w.after + w'.after)

-- ---- all of it

pub record InRow (f g h : List ℕ) : Type 0 where
  -- the written file is itself accepted, and has these counts
  pub accepted : file_refusal h ≡ 0
  pub counts : header_of h ≡ Ok (header (states_of f * states_of g) (inputs_of f) (outputs_of g))
  pub runs : RunsInRow RunDone f g h
  pub runs_from_C : RunsInRow RunDoneFromC f g h
  pub same_number : SameNumber f g h
  pub takes : TakesLetters RunDone f g
  pub takes_from_C : TakesLetters RunDoneFromC f g
  pub windows : WindowsAdd f g h
  pub searched : SearchedInRow f g h
  pub searched_from_C : SearchedInRowFromC f g h

-- For each outcome of the call that is not a refusal: m bytes were written, and these are the file. From C: the call returned 0, and the
-- host reads the number of bytes from field 0.
pub record CodersInRow : Type 0 where
  pub own : (f g before : List ℕ) (m : ℕ) (after : List ℕ) → JoinPromise f g before (Ok m) after → InRow f g (take m after)
  pub from_C :
      (f g before result after result' : List ℕ) → JoinFromHost f g before result 0 after result' →
      InRow f g (take (field_at result' 0) after)
  -- no run is left out from C: what the own call gives, on letters that a field can count, a host gets
  pub each_run_from_C :
      (f : List ℕ) (s : ℕ) (xs before : List ℕ) (n e : ℕ) (after : List ℕ) → FieldHolds (length xs) → RunDone f s xs before n e after →
      RunDoneFromC f s xs before n e after
