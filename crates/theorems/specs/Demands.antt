-- The three demands, one record each, over the promises of the calls alone. A buyer begins here: `demand_1`, `demand_2`, `demand_3` and
-- `from_c` of proofs/Demands.antt prove these records, and each call's contract is that it meets its promise for all arguments. In the
-- crate published stand the published list of refusals (Published.antt) and that an accepted coder names its whole alphabet
-- (Alphabet.antt). Beside this file: reader and writer of coder files as inverses (Files.antt), refusal 10 by cases on O (TableLimit.antt),
-- spare states (SpareStates.antt), what a settle count changes (SettleCounts.antt), that the checker accepts what the search gives
-- (SearchChecked.antt), that a table shows whether its window works (TableShows.antt), how far a window was possible (HowFar.antt), that no
-- promise is empty (Exists.antt), the starred cases (Starred.antt). The crate theorems_kinds has what is said of kinds of letter,
-- theorems_damage that damage to a string does not travel, theorems_joined what is said of two coders in a row. The runs that pairs go by
-- start in reachable states (document 02, 5/13): `setting_of`. Those of windows and answers start where as many letters as the settle count
-- says lead from there (6/13): `setting_after`, and of the decoder's calls `window_setting`.
use Rattle.std.specs.Prelude.{ℕ, suc, ◌+◌, ◌≤◌, ◌<◌, ◌≡◌, Bool, true, ◌↔◌, List, [], ◌++◌, length, get_or, take, drop, Option}
use Rattle.mealy.specs.Machine.{outs, end}
use Rattle.mealy.specs.Window.{Works}
use Rattle.mealy.specs.Setting.{Setting}
use Rattle.mealy.specs.Answer as theory
use Rattle.mealy.specs.HowFar.{SomeRun, NoRun}
use Rattle.mealy.specs.Answer.{Alone, Two, Answers}
use Rattle.mealy.specs.Index.{window_at}
use Rattle.mealy.specs.LoopedPair as mealy
use Rattle.mealy.specs.LoopedPair.{Valid, TurnedRuns}
use Rattle.mealy.specs.First.{First}
use Rattle.coder.specs.Refusal.{upon}
use Rattle.coder.specs.File.{states_of, inputs_of, outputs_of, entries_of, file_of, machine_of, setting_of, setting_after}
use Rattle.reader.specs.Read.{header_of, EntriesPart}
use Rattle.reader.specs.declared.Header.{Header}
use Rattle.running.specs.Run.{RunWith, RunPromise}
use Rattle.values.specs.Window.{size}
use Rattle.values.specs.Pair.{pair_of}
use Rattle.values.specs.declared.Window.{Window}
use Rattle.values.specs.declared.Order.{Order}
use Rattle.values.specs.declared.Order.TheVariants.{LeastLookahead, FewestLetters}
use Rattle.values.specs.declared.LoopedPair.{LoopedPair}
use Rattle.fitting.specs.Answer.{meaning}
use Rattle.fitting.specs.declared.Answer.{Answer}
use Rattle.decoder_refusal.specs.Refusal.{table_size, places}
use Rattle.decoder.specs.Written.{Written}
use Rattle.decoder.specs.Window.{window_setting, AnsweredRight, WindowWith, WindowPromise}
use Rattle.decoder.specs.Places.{ByteAt, StringWith, StringPromise}
use Rattle.decoder.specs.Table.{EntryOf, TableWith, TablePromise}
use Rattle.search.specs.Search.{IsNoDecoder, FoundVerdict, SearchWith, SearchPromise}
use Rattle.search_host.specs.Laid.{verdict_fields, SearchFromHost}
use Rattle.search.specs.declared.Verdict.{Verdict}
use Rattle.search.specs.declared.Verdict.TheVariants.{Least, NoDecoder}
use Rattle.checker.specs.Check.{CheckedRight, CheckWith}
use Rattle.search_kinds.specs.Search.{FoundKinds, SearchKindsWith}
use Rattle.window_kinds.specs.Window.{AnsweredKinds, WindowKindsWith}
use Rattle.placing.specs.Placed.{with_front}
use Rattle.writer.specs.Write.{WriteWith}
use Rattle.joining.specs.Join.{joined_file, JoinWith}
use Rattle.decoder_host.specs.Laid.{WindowFromHost}
use Rattle.layout.specs.Layout.{with_fields, field_at}
use Rattle.layout.specs.Host.{Laid, refused, LaidOut, Handed, FromHost}
use Rattle.published.specs.Published.{Rule, first_number, Bytes, long_enough, file_rules, given_run, given_search, given_check, given_window}
use Rattle.published.specs.Published.{given_string, given_table, given_search_kinds, given_window_kinds, given_write, given_join, result_given}
use Rattle.theorems.specs.RoundTrip.{LettersComeBack, LettersComeBackFromC}
use Rattle.std.specs.Prelude.{Result, Ok}
use Rattle.coder.specs.declared.refusal.Refusal.{Refusal}
use Rattle.coder.specs.Refused.{Refused}
use Rattle.running.specs.declared.RunEnd.{RunEnd}
use Rattle.running.specs.Run.{run_end}
use Rattle.search_kinds.specs.declared.Told.{Told}
use Rattle.window_kinds.specs.declared.KindsAnswer.{KindsAnswer}
use Rattle.reader.specs.Read.{header}

-- ---- demand 1: accepted and answered, or refused by number with nothing changed

-- What holds of a call that is given what these rules are about: Refused k, k being the first number that applies, or Answered where none
-- does.
abbrev pub Judged : List Rule → (ℕ → Type 0) → Type 0 → Type 0
Judged rules Refused Answered = upon (first_number rules) Refused Answered

-- For each call: a result that it promises is its refusal by that number, with every lent byte as it was, or its stated answer. `others`
-- are the lent buffers that it has besides its own: none for the library's own call, the result buffer for a call from C (`FromC`). The
-- call that hands entries back has an empty part for a number, and else the bytes of the file from byte 6 on, where they stand in it.
pub record Demand1 : Type 0 where
  pub counts :
      (f : List ℕ) (r : Result Header Refusal) → r ≡ header_of f →
      Judged (file_rules f) (λ k. r ≡ Refused k)
      (r ≡ Ok (header (states_of f) (inputs_of f) (outputs_of f)))
  pub entries :
      (f : List ℕ) (file place : ℕ × ℕ) (part : List ℕ) → EntriesPart f file part place →
      Judged (file_rules f) (λ k. part ≡ [])
      ((part ≡ entries_of f) × (place.0 ≡ file.0) × (place.1 ≡ file.1 + 6))
  pub run :
      (f : List ℕ) (s : ℕ) (xs before : List ℕ) (others : List Bytes) (r : Result RunEnd Refusal) (after : List ℕ) →
      RunWith f s xs before (long_enough others) r after →
      Judged (given_run f s xs before others) (λ k. (r ≡ Refused k) × (after ≡ before))
      ((r ≡ Ok (run_end (length xs) (end (machine_of f) s xs))) ×
      (after ≡ outs (machine_of f) s xs ++ drop (length xs) before))
  pub window :
      (f : List ℕ) (w : Window) (received : List ℕ) (others : List Bytes) (r : Result Answer Refusal) →
      WindowWith f w received (long_enough others) r →
      Judged (given_window f w received others) (λ k. r ≡ Refused k) (AnsweredRight f w received r)
  pub string :
      (f : List ℕ) (w : Window) (received before : List ℕ) (others : List Bytes) (r : Result ℕ Refusal) (after : List ℕ) →
      StringWith f w received before (long_enough others) r after →
      Judged (given_string f w received before others) (λ k. (r ≡ Refused k) × (after ≡ before))
      ((r ≡ Ok (places (length received) w)) ×
      Written (ByteAt f received w) (places (length received) w) before after)
  pub table :
      (f : List ℕ) (w : Window) (before : List ℕ) (others : List Bytes) (r : Result ℕ Refusal) (after : List ℕ) →
      TableWith f w before (long_enough others) r after →
      Judged (given_table f w before others) (λ k. (r ≡ Refused k) × (after ≡ before))
      ((r ≡ Ok (table_size (outputs_of f) w)) ×
      Written (EntryOf f w) (table_size (outputs_of f) w) before after)
  pub search :
      (o : Order) (f : List ℕ) (p : ℕ) (before : List ℕ) (others : List Bytes) (r : Result Verdict Refusal) (after : List ℕ) →
      SearchWith o f p before (long_enough others) r after →
      Judged (given_search f p before others) (λ k. (r ≡ Refused k) × (after ≡ before))
      (FoundVerdict o f p r before after)
  pub check :
      (f : List ℕ) (q : mealy.LoopedPair) (others : List Bytes) (r : Result Bool Refusal) → CheckWith f q (long_enough others) r →
      Judged (given_check f q others) (λ k. r ≡ Refused k) (CheckedRight f q r)
  pub search_kinds :
      (f kinds : List ℕ) (others : List Bytes) (r : Result (Option Told) Refusal) → SearchKindsWith f kinds (long_enough others) r →
      Judged (given_search_kinds f kinds others) (λ k. r ≡ Refused k) (FoundKinds f kinds r)
  pub window_kinds :
      (f kinds : List ℕ) (b a : ℕ) (received : List ℕ) (others : List Bytes) (r : Result KindsAnswer Refusal) →
      WindowKindsWith f kinds b a received (long_enough others) r →
      Judged (given_window_kinds f kinds b a received others) (λ k. r ≡ Refused k)
      (AnsweredKinds f kinds b received r)
  pub write :
      (n i o : ℕ) (entries before : List ℕ) (others : List Bytes) (r : Result ℕ Refusal) (after : List ℕ) →
      WriteWith n i o entries before (long_enough others) r after →
      Judged (given_write n i o entries before others) (λ k. (r ≡ Refused k) × (after ≡ before))
      ((r ≡ Ok (length (file_of n i o entries))) ×
      (after ≡ with_front (file_of n i o entries) before))
  pub join :
      (f g before : List ℕ) (others : List Bytes) (r : Result ℕ Refusal) (after : List ℕ) → JoinWith f g before (long_enough others) r after →
      Judged (given_join f g before others) (λ k. (r ≡ Refused k) × (after ≡ before))
      ((r ≡ Ok (length (joined_file f g))) × (after ≡ with_front (joined_file f g) before))

-- ---- demand 2: the machine of the table runs; the answer goes by what fits; letters come back

-- Second sentence, for the answer v on the letters w of a window with b letters before the present one: v is right; and where one letter
-- alone fits, where no run from a start state has these outputs, and where two letters fit, v is that letter, "none" and "several". Where v
-- is "none", no such run has these outputs, and v carries how far the window was possible (document 02, 9/13, second sentence): some such
-- run has so many of the outputs, from the first on, and none has one more.
pub record Said (S : Setting) (w : List ℕ) (b : ℕ) (v : theory.Answer) : Type 0 where
  pub right : Answers S w b v
  pub letter : (x : ℕ) → Alone S w b x → v ≡ theory.letter x
  pub none : NoRun S w → (k : ℕ) × (v ≡ theory.none k)
  pub several : Two S w b → v ≡ theory.several
  pub no_run : (k : ℕ) → v ≡ theory.none k → NoRun S w
  pub count : (k : ℕ) → v ≡ theory.none k → (k < length w) × SomeRun S (take k w) × NoRun S (take (suc k) w)

-- "Decoding", third sentence: an answer written as a byte, "none" as 254 whatever it carries (9/13, third sentence)
abbrev pub byte_said : theory.Answer → ℕ
byte_said (theory.letter x) = x
byte_said (theory.none k) = 254
byte_said theory.several = 255

-- v is the byte of such an answer
pub record SaidByte (S : Setting) (w : List ℕ) (b v : ℕ) : Type 0 where
  pub answer : theory.Answer
  pub said : Said S w b answer
  pub byte : v ≡ byte_said answer

pub record Demand2 : Type 0 where
  -- first sentence: outputs and end state are those of the file's machine
  pub run :
      (f : List ℕ) (s : ℕ) (xs before : List ℕ) (n e : ℕ) (after : List ℕ) →
      RunPromise f s xs before (Ok (run_end n e)) after →
      (n ≡ length xs) × (e ≡ end (machine_of f) s xs) × (take n after ≡ outs (machine_of f) s xs)
  -- second sentence: of one window, of each place of a string, of each index of a table
  pub window :
      (f : List ℕ) (w : Window) (received : List ℕ) (v : Answer) →
      WindowPromise f w received (Ok v) → Said (window_setting f w) received w.before (meaning v)
  pub string :
      (f : List ℕ) (w : Window) (received before : List ℕ) (n : ℕ) (after : List ℕ) →
      StringPromise f w received before (Ok n) after →
      (n ≡ places (length received) w) ×
      ((k : ℕ) → k < n → SaidByte (window_setting f w) (take (size w) (drop k received)) w.before (get_or after k 0))
  pub table :
      (f : List ℕ) (w : Window) (before : List ℕ) (n : ℕ) (after : List ℕ) →
      TablePromise f w before (Ok n) after →
      (n ≡ table_size (outputs_of f) w) ×
      ((k : ℕ) → k < n → SaidByte (window_setting f w) (window_at (outputs_of f) (size w) k) w.before (get_or after k 0))
  -- of one window from C: the call returned 0, and the host reads the byte from field 0
  pub window_from_C :
      (f : List ℕ) (w : Window) (received result result' : List ℕ) → WindowFromHost f w received result 0 result' →
      SaidByte (window_setting f w) received w.before (field_at result' 0)
  -- third sentence, for runs from a reachable state (document 02, 5/13), at the places that have the letters of the settle count ahead of
  -- the window (6/13)
  pub back : LettersComeBack
  pub back_from_C : LettersComeBackFromC

-- ---- demand 3: the least window of all, or none of any size, with a looped pair

-- The third sentence from its semicolon on, in each order as document 02, 1/13, reads it, of a reported window w and any b a that works: w
-- comes no later than b a. By fewest letters, w has no more letters than b a and, of as many, no more lookahead; by least lookahead, no
-- more lookahead and, of as much, no more letters before.
abbrev pub NoLater : Order → Window → ℕ → ℕ → Type 0
NoLater FewestLetters w b a = (size w ≤ b + 1 + a) × (size w ≡ b + 1 + a → w.after ≤ a)
NoLater LeastLookahead w b a = (w.after ≤ a) × (w.after ≡ a → w.before ≤ b)

-- What is demanded of the verdict of a search in the order o with settle count p on a file, the letters of a looped pair lying in the
-- buffer.
pub record Demanded (o : Order) (f : List ℕ) (p : ℕ) (v : Verdict) (buffer : List ℕ) : Type 0 where
  -- first sentence
  pub exactly : IsNoDecoder v ↔ ((b a : ℕ) → Works (setting_after f p) b a → ⊥)
  -- second sentence: the pair is valid, and its two runs are as demanded for every k and every m
  pub valid : (q : LoopedPair) → v ≡ NoDecoder q → Valid (setting_of f) (pair_of q buffer)
  pub turned : (q : LoopedPair) → v ≡ NoDecoder q → (k m : ℕ) → TurnedRuns (setting_of f) (pair_of q buffer) k m
  -- which pair, as document 02, 2/13, settles it: the first of all that are valid, whatever their lengths
  pub first : (q : LoopedPair) → v ≡ NoDecoder q → First (setting_of f) (pair_of q buffer)
  -- third sentence: the window works, and comes no later than any other that works; both have the settle count of the search (6/13)
  pub settle : (w : Window) → v ≡ Least w → w.settle ≡ p
  pub works : (w : Window) → v ≡ Least w → Works (setting_after f p) w.before w.after
  pub no_later : (w : Window) → v ≡ Least w → (b a : ℕ) → Works (setting_after f p) b a → NoLater o w b a

pub record Demand3 : Type 0 where
  -- the search in a named order; the search that names none is the one in the default order
  pub search :
      (o : Order) (f : List ℕ) (p : ℕ) (before : List ℕ) (v : Verdict) (after : List ℕ) →
      SearchPromise o f p before (Ok v) after → Demanded o f p v after
  -- a search from C that returns 0 has such a verdict, by least lookahead (document 02, 1/13), in the fields of its result
  pub search_from_C :
      (f : List ℕ) (p : ℕ) (before result after result' : List ℕ) → SearchFromHost f p before result 0 after result' →
      (v : Verdict) × (result' ≡ with_fields result (verdict_fields v)) × Demanded LeastLookahead f p v after

-- ---- the calls from C

-- For every call, whatever its promise and its fields: a call from C gives an outcome of the library's own call that has the result buffer
-- as one more lent buffer, laid out. So all that is said of the one is had from the other.
pub record FromC : Type 1 where
  pub call :
      {R : Type 0} (Promise : Bool → R → Type 0) (laid : R → Laid) (result : List ℕ) (r : ℕ) (result' : List ℕ) →
      FromHost Promise laid result r result' → Handed (Promise (long_enough (result_given result))) laid result r result'
  -- a refusal is returned, and the result buffer stays
  pub refused : (k : ℕ) (result : List ℕ) (r : ℕ) (result' : List ℕ) → LaidOut (refused k) result r result' → (r ≡ k) × (result' ≡ result)
  -- with a result buffer of 64 bytes or more the outcome is the own call's
  pub own :
      {R : Type 0} (Promise : Bool → R → Type 0) (laid : R → Laid) (result : List ℕ) (r : ℕ) (result' : List ℕ) → 64 ≤ length result →
      FromHost Promise laid result r result' → Handed (Promise true) laid result r result'
