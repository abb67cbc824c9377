-- The coder run: its refusal, its result and what it leaves in the lent buffer.
use Rattle.std.specs.Prelude.{ℕ, ◌<◌, ◌≤◌, ◌≡◌, Bool, true, not, ◌&&◌, List, ◌++◌, length, drop, ltb, leb, Result, Ok}
use Rattle.mealy.specs.Machine.{Machine, outs, end, Letters}
use Rattle.coder.specs.Refusal.{refuse, first, answer, letters_below}
use Rattle.coder.specs.File.{file_refusal, states_of, inputs_of, machine_of}
use Rattle.coder.specs.Limits.{max_states, max_inputs}
use Rattle.coder.specs.Table.{table_at, machine_in}
use Rattle.coder.specs.declared.refusal.Refusal.{Refusal}
use Rattle.coder.specs.Refused.{Refused}
use Rattle.running.specs.declared.RunEnd.{RunEnd}

-- The run's refusal, in checking order: the file's, then 7 (start state), 11 (some lent buffer is too short), 12 (an input letter).
-- Whether all lent buffers are long enough is an argument, since a call may lend more than one.
unfoldable pub run_refusal : List ℕ → ℕ → List ℕ → Bool → ℕ
run_refusal f s xs fits =
    first (file_refusal f)
    (refuse (not (ltb s (states_of f))) 7
    (refuse (not fits) 11
    (refuse (not (letters_below (inputs_of f) xs)) 12
    0)))

-- One output letter is written for each input letter, into a buffer of `room` bytes; `others` says whether the other lent buffers are long
-- enough.
abbrev pub run_refusal_in : List ℕ → ℕ → List ℕ → ℕ → Bool → ℕ
run_refusal_in f s xs room others = run_refusal f s xs (leb (length xs) room && others)

-- so many letters written, and the state at the end
abbrev pub run_end : ℕ → ℕ → RunEnd
run_end n s = record { count = n; end = s }

-- What a run returns and leaves in the lent buffer, which held `before` at the call (demand 2, first sentence; "Numbers of
-- refusal", the sentences on refused calls, on bytes past what is written and on counts): the first refusal that applies and
-- the buffer as it was; or the number of letters written and the end state, and the outputs of the file's machine with the
-- buffer's old bytes after them.
pub record RunWith (f : List ℕ) (s : ℕ) (xs before : List ℕ) (others : Bool) (r : Result RunEnd Refusal) (after : List ℕ) : Type 0 where
  pub result : r ≡ answer (run_refusal_in f s xs (length before) others) (λ k. Refused k) (Ok (run_end (length xs) (end (machine_of f) s xs)))
  pub bytes : after ≡ answer (run_refusal_in f s xs (length before) others) (λ k. before) (outs (machine_of f) s xs ++ drop (length xs) before)

-- The library's own call lends no other buffer.
abbrev pub RunPromise : List ℕ → ℕ → List ℕ → List ℕ → Result RunEnd Refusal → List ℕ → Type 0
RunPromise f s xs before r after = RunWith f s xs before true r after

-- The end state of a run of M from s on xs, and the lent buffer after it, which held `before`.
pub record Ran (M : Machine) (s : ℕ) (xs before : List ℕ) (last : ℕ) (after : List ℕ) : Type 0 where
  pub ends : last ≡ end M s xs
  pub bytes : after ≡ outs M s xs ++ drop (length xs) before

-- what the run of a checked call asks: no refusal applies, and the buffer has room for the output letters
pub record RunAsked (f : List ℕ) (s : ℕ) (xs before : List ℕ) : Type 0 where
  pub none : run_refusal f s xs true ≡ 0
  pub room : length xs ≤ length before

-- what the loop over the letters asks of the tables
pub record Runnable (next : List ℕ) (s : ℕ) (xs before : List ℕ) : Type 0 where
  pub next_state : (s i : ℕ) → table_at next s i < max_states
  pub state : s < max_states
  pub letters : Letters max_inputs xs
  pub room : length xs ≤ length before

-- the machine in two tables, of as many states and letters as they have places for
abbrev pub tables_machine : List ℕ → List ℕ → Machine
tables_machine next output = machine_in max_states max_inputs next output
