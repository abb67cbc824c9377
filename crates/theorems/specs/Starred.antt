-- The starred cases of document 01 ("Example coders"): one table of coder files and what is claimed of each; the windows in both orders,
-- with those of the coders G and H that document 02, 1/13, 5/13 and 6/13, name, and the first looped pairs, with the one of coder C that
-- 2/13 names; how far windows of coder G were possible, with the one that 9/13 names. Coder F, which is not starred, stands here because
-- 7/13 says that every example is accepted. A claim on a call says that every outcome that the call promises on this file is the one named.
use Rattle.std.specs.Prelude.{ℕ, ◌≤◌, ◌<◌, ◌≡◌, ◌≢◌, true, false, List, [], ◌∷◌, ◌++◌, length, drop}
use Rattle.mealy.specs.LoopedPair as mealy
use Rattle.coder.specs.File.{states_of, inputs_of, machine_of}
use Rattle.reader.specs.Read.{header_of}
use Rattle.reader.specs.declared.Header.{Header}
use Rattle.running.specs.Run.{RunPromise}
use Rattle.values.specs.Window as values
use Rattle.values.specs.Order.{default_order}
use Rattle.values.specs.declared.Order.{Order}
use Rattle.values.specs.declared.Order.TheVariants.{FewestLetters}
use Rattle.values.specs.Pair.{looped_pair}
use Rattle.fitting.specs.declared.Answer.{Answer}
use Rattle.fitting.specs.declared.Answer.TheVariants.{Letter, None, Several}
use Rattle.decoder.specs.Window.{WindowPromise}
use Rattle.decoder.specs.Places.{StringPromise}
use Rattle.decoder.specs.Table.{TablePromise}
use Rattle.placing.specs.Placed.{with_front}
use Rattle.writer.specs.Write.{WroteFile, WritePromise}
use Rattle.search.specs.Search.{SearchPromise}
use Rattle.search.specs.declared.Verdict.TheVariants.{Least, NoDecoder}
use Rattle.checker.specs.Check.{CheckPromise}
use Rattle.theorems.specs.Cases.{Case}
use Rattle.std.specs.Prelude.{Result, Ok}
use Rattle.coder.specs.declared.refusal.Refusal.{Refusal}
use Rattle.running.specs.declared.RunEnd.{RunEnd}
use Rattle.running.specs.Run.{run_end}
use Rattle.search.specs.declared.Verdict.{Verdict}
use Rattle.reader.specs.Read.{header}
use Rattle.std.specs.Prelude.{Bool}

pub data Claim : Type 0 where
  -- the reader gives these counts
  counts : ℕ → ℕ → ℕ → Claim
  -- the writer, given these counts and entries, writes the file
  written : ℕ → ℕ → ℕ → List ℕ → Claim
  -- the search in this order reports this window: sides and settle count
  window : Order → ℕ → ℕ → ℕ → Claim
  -- the search in any order and with any settle count says "no decoder" with the looped pair of three letters that has these start states
  -- and bytes, and the checker says yes to it
  no_decoder : ℕ → ℕ → List ℕ → Claim
  -- the checker says no to the looped pair of three letters that has these start states and bytes
  not_valid : ℕ → ℕ → List ℕ → Claim
  -- from equal states different letters give different outputs
  different_outputs : Claim
  -- the answer for the letters of a window
  answer : ℕ → ℕ → ℕ → List ℕ → Answer → Claim
  -- the bytes for the letters of a string with a window
  string : ℕ → ℕ → ℕ → List ℕ → List ℕ → Claim
  -- the decoder table of a window
  table : ℕ → ℕ → ℕ → List ℕ → Claim
  -- a run: start state, input letters, output letters, end state
  run : ℕ → List ℕ → List ℕ → ℕ → Claim

-- a looped pair of three letters: start states, and the bytes of the letters
abbrev pub pair : ℕ → ℕ → List ℕ → mealy.LoopedPair
pair s t bytes = record { s = s; t = t; back_loop = 1; lead_in = 0; lead_out = 0; forward_loop = 1; bytes = bytes }

-- What each claim says of a file; of the calls that write, for lent buffers that are long enough.
abbrev pub Holds : List ℕ → Claim → Type 0
Holds f (counts n i o) = (r : Result Header Refusal) → r ≡ header_of f → r ≡ Ok (header n i o)
Holds f (written n i o entries) =
    (before : List ℕ) (r : Result ℕ Refusal) (after : List ℕ) → length f ≤ length before → WritePromise n i o entries before r after →
    WroteFile f before r after
Holds f (window o b a p) =
    (before : List ℕ) (r : Result Verdict Refusal) (after : List ℕ) → 1026 ≤ length before → SearchPromise o f p before r after →
    (r ≡ Ok (Least (values.window b a p))) × (after ≡ before)
Holds f (no_decoder s t bytes) =
    ((o : Order) (p : ℕ) (before : List ℕ) (r : Result Verdict Refusal) (after : List ℕ) → p ≤ 64 → 1026 ≤ length before →
    SearchPromise o f p before r after →
    (r ≡ Ok (NoDecoder (looped_pair s t 1 0 0 1))) × (after ≡ with_front bytes before)) ×
    ((r : Result Bool Refusal) → CheckPromise f (pair s t bytes) r → r ≡ Ok true)
Holds f (not_valid s t bytes) = (r : Result Bool Refusal) → CheckPromise f (pair s t bytes) r → r ≡ Ok false
Holds f different_outputs =
    (s i j : ℕ) → s < states_of f → i < inputs_of f → j < inputs_of f → i ≢ j → (machine_of f).out s i ≢ (machine_of f).out s j
Holds f (answer b a p received v) = (r : Result Answer Refusal) → WindowPromise f (values.window b a p) received r → r ≡ Ok v
Holds f (string b a p received bytes) =
    (before : List ℕ) (r : Result ℕ Refusal) (after : List ℕ) → length bytes ≤ length before →
    StringPromise f (values.window b a p) received before r after → (r ≡ Ok (length bytes)) × (after ≡ with_front bytes before)
Holds f (table b a p bytes) =
    (before : List ℕ) (r : Result ℕ Refusal) (after : List ℕ) → length bytes ≤ length before →
    TablePromise f (values.window b a p) before r after → (r ≡ Ok (length bytes)) × (after ≡ with_front bytes before)
Holds f (run s xs os e) =
    (before : List ℕ) (r : Result RunEnd Refusal) (after : List ℕ) → length xs ≤ length before → RunPromise f s xs before r after →
    (r ≡ Ok (run_end (length xs) e)) × (after ≡ os ++ drop (length xs) before)

abbrev pub starred : List (Case Claim)
starred =
    -- A, running parity
    record {
      file = 1 ∷ 0 ∷ 11 ∷ 2 ∷ 2 ∷ 2 ∷ 0 ∷ 0 ∷ 1 ∷ 1 ∷ 1 ∷ 1 ∷ 0 ∷ 0 ∷ [];
      claims = counts 2 2 2 ∷ written 2 2 2 (0 ∷ 0 ∷ 1 ∷ 1 ∷ 1 ∷ 1 ∷ 0 ∷ 0 ∷ []) ∷ window default_order 1 0 0 ∷ window FewestLetters 1 0 0 ∷
          table 1 0 0 (0 ∷ 1 ∷ 1 ∷ 0 ∷ []) ∷ string 1 0 0 (1 ∷ 0 ∷ 0 ∷ []) (1 ∷ 0 ∷ []) ∷ string 1 0 0 (1 ∷ []) [] ∷
          run 0 (1 ∷ 1 ∷ 0 ∷ []) (1 ∷ 0 ∷ 0 ∷ []) 0 ∷ [];
    } ∷
    -- B, one state
    record { file = 1 ∷ 0 ∷ 7 ∷ 1 ∷ 2 ∷ 2 ∷ 0 ∷ 0 ∷ 0 ∷ 1 ∷ []; claims = window default_order 0 0 0 ∷ window FewestLetters 0 0 0 ∷ [] } ∷
    -- C, one state, one output letter
    record { file = 1 ∷ 0 ∷ 7 ∷ 1 ∷ 2 ∷ 1 ∷ 0 ∷ 0 ∷ 0 ∷ 0 ∷ []; claims = no_decoder 0 0 (0 ∷ 0 ∷ 0 ∷ 1 ∷ 0 ∷ 0 ∷ []) ∷ [] } ∷
    -- D, delay
    record {
      file = 1 ∷ 0 ∷ 11 ∷ 2 ∷ 2 ∷ 2 ∷ 0 ∷ 0 ∷ 1 ∷ 0 ∷ 0 ∷ 1 ∷ 1 ∷ 1 ∷ [];
      claims = window default_order 0 1 0 ∷ window FewestLetters 0 1 0 ∷ table 0 1 0 (0 ∷ 1 ∷ 0 ∷ 1 ∷ []) ∷ [];
    } ∷
    -- E, change detector
    record {
      file = 1 ∷ 0 ∷ 11 ∷ 2 ∷ 2 ∷ 2 ∷ 0 ∷ 0 ∷ 1 ∷ 1 ∷ 0 ∷ 1 ∷ 1 ∷ 0 ∷ [];
      claims = no_decoder 0 1 (0 ∷ 1 ∷ 0 ∷ 1 ∷ 0 ∷ 1 ∷ []) ∷ different_outputs ∷ [];
    } ∷
    -- F
    record {
      file = 1 ∷ 0 ∷ 15 ∷ 3 ∷ 2 ∷ 4 ∷ 1 ∷ 0 ∷ 2 ∷ 0 ∷ 1 ∷ 0 ∷ 1 ∷ 1 ∷ 2 ∷ 2 ∷ 2 ∷ 3 ∷ [];
      claims = counts 3 2 4 ∷ window default_order 1 0 0 ∷ window FewestLetters 1 0 0 ∷ [];
    } ∷
    -- G
    record {
      file = 1 ∷ 0 ∷ 19 ∷ 4 ∷ 2 ∷ 6 ∷ 1 ∷ 4 ∷ 1 ∷ 5 ∷ 2 ∷ 0 ∷ 3 ∷ 0 ∷ 2 ∷ 0 ∷ 2 ∷ 1 ∷ 3 ∷ 2 ∷ 3 ∷ 3 ∷ [];
      claims = window default_order 2 0 0 ∷ window FewestLetters 0 1 0 ∷ answer 0 1 0 (0 ∷ 0 ∷ []) (Letter 0) ∷
          answer 0 1 0 (0 ∷ 2 ∷ []) (Letter 1) ∷ answer 0 1 0 (1 ∷ 2 ∷ []) (None 1) ∷ answer 0 0 0 (0 ∷ []) Several ∷
          window default_order 1 0 1 ∷ window FewestLetters 1 0 1 ∷ window default_order 0 0 2 ∷ window FewestLetters 0 0 2 ∷
          window default_order 0 0 64 ∷ answer 0 0 2 (0 ∷ []) (Letter 0) ∷ table 0 0 2 (0 ∷ 1 ∷ 0 ∷ 1 ∷ 254 ∷ 254 ∷ []) ∷
          answer 0 0 2 (4 ∷ []) (None 0) ∷ answer 0 1 0 (4 ∷ 4 ∷ []) (None 1) ∷ answer 0 1 2 (4 ∷ 4 ∷ []) (None 0) ∷
          answer 2 1 0 (5 ∷ 1 ∷ 0 ∷ 0 ∷ []) (None 1) ∷ answer 2 1 0 (0 ∷ 0 ∷ 2 ∷ 0 ∷ []) (None 2) ∷
          answer 1 2 0 (4 ∷ 0 ∷ 1 ∷ 2 ∷ []) (None 3) ∷ string 0 1 0 (4 ∷ 4 ∷ 0 ∷ 2 ∷ []) (254 ∷ 0 ∷ 1 ∷ []) ∷ [];
    } ∷
    -- H, with a spare state
    record {
      file = 1 ∷ 0 ∷ 11 ∷ 2 ∷ 2 ∷ 2 ∷ 0 ∷ 0 ∷ 0 ∷ 1 ∷ 1 ∷ 0 ∷ 1 ∷ 0 ∷ [];
      claims = window default_order 0 0 0 ∷ window FewestLetters 0 0 0 ∷ table 0 0 0 (0 ∷ 1 ∷ []) ∷ not_valid 1 1 (0 ∷ 0 ∷ 0 ∷ 1 ∷ 0 ∷ 0 ∷ []) ∷ not_valid 0 1 (0 ∷ 0 ∷ 0 ∷ 1 ∷ 0 ∷ 0 ∷ []) ∷ run 1 (1 ∷ 0 ∷ []) (0 ∷ 0 ∷ []) 1 ∷ [];
    } ∷
    []
