-- Looped pairs over the bytes of a buffer, and their turned runs.
use Rattle.std.specs.Prelude.{ℕ, zero, suc, ◌+◌, ◌*◌, ◌≤◌, ◌<◌, ◌≡◌, List, [], ◌∷◌, ◌++◌, length, get_or}
use Rattle.mealy.specs.Machine.{outs, end, Letters}
use Rattle.mealy.specs.Setting.{Setting}
use Rattle.mealy.specs.Window.{EqualOutputs}

-- Document 01's term "looped pair" ("Looped pair", first three sentences): two start states, four lengths, and the bytes of the
-- buffer in which the letters stand, two bytes each.
pub record LoopedPair : Type 0 where
  pub s : ℕ
  pub t : ℕ
  pub back_loop : ℕ
  pub lead_in : ℕ
  pub lead_out : ℕ
  pub forward_loop : ℕ
  pub bytes : List ℕ

-- Which of the two runs.
pub data Run : Type 0 where
  first : Run
  second : Run

-- of the two bytes of a letter, the one that holds the input of the run
abbrev pub offset : Run → ℕ
offset first = 0
offset second = 1

-- the input letter of a run at a place, and n input letters from there on
abbrev pub letter_at : LoopedPair → Run → ℕ → ℕ
letter_at p r place = get_or p.bytes (2 * place + offset r) 0

abbrev pub letters_from : LoopedPair → Run → ℕ → ℕ → List ℕ
letters_from p r place zero = []
letters_from p r place (suc n) = letter_at p r place ∷ letters_from p r (suc place) n

-- where the differing letter stands, the number of letters before the forward loop, and the number of all letters
abbrev pub mark : LoopedPair → ℕ
mark p = p.back_loop + p.lead_in

abbrev pub unlooped : LoopedPair → ℕ
unlooped p = p.back_loop + p.lead_in + 1 + p.lead_out

abbrev pub letters : LoopedPair → ℕ
letters p = p.back_loop + p.lead_in + 1 + p.lead_out + p.forward_loop

abbrev pub start_of : LoopedPair → Run → ℕ
start_of p first = p.s
start_of p second = p.t

-- what a run reads: all letters of the pair
abbrev pub run_inputs : LoopedPair → Run → List ℕ
run_inputs p r = letters_from p r 0 (letters p)

-- Document 01's term "valid" ("Looped pair", the sentence that begins with it): the bytes hold all letters, both runs start in start
-- states (for a coder the reachable ones, whatever the settle count: document 02, 5/13 and 6/13), neither loop is empty, the two runs
-- agree in output throughout, their letters at the mark conflict, and each run closes both loops: it is back in its start state after the
-- back loop, and at the end in the state that it had before the forward loop.
pub record Valid (S : Setting) (p : LoopedPair) : Type 0 where
  pub held : 2 * letters p ≤ length p.bytes
  pub start : (r : Run) → S.Start (start_of p r)
  pub below : (r : Run) → Letters S.M.inputs (run_inputs p r)
  pub back_letter : 0 < p.back_loop
  pub forward_letter : 0 < p.forward_loop
  pub outputs : outs S.M p.s (run_inputs p first) ≡ outs S.M p.t (run_inputs p second)
  pub conflict : S.Conflict (letter_at p first (mark p)) (letter_at p second (mark p))
  pub back_closed : (r : Run) → end S.M (start_of p r) (letters_from p r 0 p.back_loop) ≡ start_of p r
  pub forward_closed :
      (r : Run) → end S.M (start_of p r) (run_inputs p r) ≡ end S.M (start_of p r) (letters_from p r 0 (unlooped p))

-- Both bounds of what the search writes ("Looped pair", the sentence on N × N letters).
pub record Short (n : ℕ) (p : LoopedPair) : Type 0 where
  pub before : p.back_loop + p.lead_in ≤ n * n
  pub after : p.lead_out + p.forward_loop ≤ n * n

abbrev pub repeat : ℕ → List ℕ → List ℕ
repeat zero xs = []
repeat (suc k) xs = xs ++ repeat k xs

-- The run with the back loop turned k times and the forward loop m times, and the place of the differing letter in it
-- ("Looped pair", the paragraph that begins "Turned").
abbrev pub turned : LoopedPair → Run → ℕ → ℕ → List ℕ
turned p r k m =
    repeat k (letters_from p r 0 p.back_loop) ++
    (letters_from p r p.back_loop p.lead_in ++
    (letter_at p r (mark p) ∷
    (letters_from p r (suc (mark p)) p.lead_out ++ repeat m (letters_from p r (unlooped p) p.forward_loop))))

abbrev pub turned_mark : LoopedPair → ℕ → ℕ
turned_mark p k = k * p.back_loop + p.lead_in

abbrev pub turned_letters : LoopedPair → ℕ → ℕ → ℕ
turned_letters p k m = turned_mark p k + 1 + p.lead_out + m * p.forward_loop

-- Demand 3, second sentence, for one k and one m: the two turned runs have equal outputs throughout, and their letters
-- conflict at the marked place, which lies in them.
pub record TurnedRuns (S : Setting) (p : LoopedPair) (k m : ℕ) : Type 0 where
  pub runs : EqualOutputs S.M (turned_letters p k m) p.s p.t (turned p first k m) (turned p second k m)
  pub inside : turned_mark p k < turned_letters p k m
  pub conflict : S.Conflict (get_or (turned p first k m) (turned_mark p k) 0) (get_or (turned p second k m) (turned_mark p k) 0)
