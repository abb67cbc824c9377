-- Worked examples of coders in a row: the files that the call writes, and what is claimed of them as of the starred coders. A claim on a
-- call says that every outcome that the call promises is the one named.
use Rattle.std.specs.Prelude.{ℕ, ◌≤◌, ◌≡◌, List, [], ◌∷◌, length}
use Rattle.values.specs.Order.{default_order}
use Rattle.placing.specs.Placed.{with_front}
use Rattle.writer.specs.Write.{WroteFile}
use Rattle.joining.specs.Join.{JoinPromise}
use Rattle.joining_host.specs.Laid.{JoinFromHost}
use Rattle.layout.specs.Layout.{result_bytes, field_at}
use Rattle.published.specs.Alphabet.{parity}
use Rattle.theorems.specs.Cases.{Case}
use Rattle.theorems.specs.Starred as starred
use Rattle.theorems.specs.Starred.{counts, window, string, run}
use Rattle.std.specs.Prelude.{Result}
use Rattle.coder.specs.declared.refusal.Refusal.{Refusal}

pub data Claim : Type 0 where
  -- the call with these two files, the first and the second, writes the file
  joins : List ℕ → List ℕ → Claim
  -- what is claimed of the file by itself
  itself : starred.Claim → Claim

-- for lent buffers that are long enough
pub record JoinWrites (h f g : List ℕ) : Type 0 where
  pub own :
      (before : List ℕ) (r : Result ℕ Refusal) (after : List ℕ) → length h ≤ length before → JoinPromise f g before r after →
      WroteFile h before r after
  pub from_C :
      (before result : List ℕ) (r : ℕ) (after result' : List ℕ) → length h ≤ length before → result_bytes ≤ length result →
      JoinFromHost f g before result r after result' → (r ≡ 0) × (field_at result' 0 ≡ length h) × (after ≡ with_front h before)

abbrev pub Holds : List ℕ → Claim → Type 0
Holds h (joins f g) = JoinWrites h f g
Holds h (itself c) = starred.Holds h c

-- E, the inverse of running parity (`parity 2`, coder A): each letter is the sum of the input and the input before it
abbrev pub difference : List ℕ
difference = 1 ∷ 0 ∷ 11 ∷ 2 ∷ 2 ∷ 2 ∷ 0 ∷ 0 ∷ 1 ∷ 1 ∷ 0 ∷ 1 ∷ 1 ∷ 0 ∷ []

-- a scrambler of three stages that synchronises itself: each letter is the sum of the input and of the letters two and three before it; the
-- state is the last letter, with 2 for the one before and 4 for the one before that
abbrev pub scrambler : List ℕ
scrambler =
    1 ∷ 0 ∷ 35 ∷ 8 ∷ 2 ∷ 2 ∷ 0 ∷ 0 ∷ 1 ∷ 1 ∷ 2 ∷ 0 ∷ 3 ∷ 1 ∷ 5 ∷ 1 ∷ 4 ∷ 0 ∷ 7 ∷ 1 ∷ 6 ∷ 0 ∷ 1 ∷ 1 ∷ 0 ∷ 0 ∷ 3 ∷ 1 ∷ 2 ∷ 0 ∷
    4 ∷ 0 ∷ 5 ∷ 1 ∷ 6 ∷ 0 ∷ 7 ∷ 1 ∷ []

-- the scrambler ahead of differential coding, which is coder A: each letter is the sum of the letter before it and the input
abbrev pub scrambled : List ℕ
scrambled =
    1 ∷ 0 ∷ 67 ∷ 16 ∷ 2 ∷ 2 ∷ 0 ∷ 0 ∷ 3 ∷ 1 ∷ 1 ∷ 1 ∷ 2 ∷ 0 ∷ 4 ∷ 0 ∷ 7 ∷ 1 ∷ 5 ∷ 1 ∷ 6 ∷ 0 ∷ 11 ∷ 1 ∷ 8 ∷ 0 ∷ 10 ∷ 0 ∷ 9 ∷ 1 ∷
    15 ∷ 1 ∷ 12 ∷ 0 ∷ 14 ∷ 0 ∷ 13 ∷ 1 ∷ 3 ∷ 1 ∷ 0 ∷ 0 ∷ 2 ∷ 0 ∷ 1 ∷ 1 ∷ 7 ∷ 1 ∷ 4 ∷ 0 ∷ 6 ∷ 0 ∷ 5 ∷ 1 ∷ 8 ∷ 0 ∷ 11 ∷ 1 ∷ 9 ∷ 1 ∷
    10 ∷ 0 ∷ 12 ∷ 0 ∷ 15 ∷ 1 ∷ 13 ∷ 1 ∷ 14 ∷ 0 ∷ []

-- two coders of different counts: 2 states, 3 inputs, 4 outputs; 3 states, 4 inputs, 5 outputs
abbrev pub two_states : List ℕ
two_states = 1 ∷ 0 ∷ 15 ∷ 2 ∷ 3 ∷ 4 ∷ 1 ∷ 0 ∷ 0 ∷ 3 ∷ 1 ∷ 2 ∷ 0 ∷ 1 ∷ 1 ∷ 3 ∷ 0 ∷ 0 ∷ []

abbrev pub three_states : List ℕ
three_states =
    1 ∷ 0 ∷ 27 ∷ 3 ∷ 4 ∷ 5 ∷ 1 ∷ 4 ∷ 2 ∷ 0 ∷ 0 ∷ 1 ∷ 2 ∷ 2 ∷ 0 ∷ 3 ∷ 1 ∷ 1 ∷ 2 ∷ 0 ∷ 0 ∷ 4 ∷ 2 ∷ 2 ∷ 0 ∷ 1 ∷ 1 ∷ 3 ∷ 1 ∷ 0 ∷ []

abbrev pub examples : List (Case Claim)
examples =
    -- A alone has the window 1 0; two in a row have 2 0, the sum
    record {
      file = 1 ∷ 0 ∷ 19 ∷ 4 ∷ 2 ∷ 2 ∷ 0 ∷ 0 ∷ 3 ∷ 1 ∷ 1 ∷ 1 ∷ 2 ∷ 0 ∷ 3 ∷ 1 ∷ 0 ∷ 0 ∷ 2 ∷ 0 ∷ 1 ∷ 1 ∷ [];
      claims =
          joins (parity 2) (parity 2) ∷ itself (window default_order 2 0 0) ∷ itself (run 0 (1 ∷ 1 ∷ 0 ∷ 1 ∷ []) (1 ∷ 1 ∷ 1 ∷ 0 ∷ []) 2) ∷
          itself (string 2 0 0 (1 ∷ 1 ∷ 1 ∷ 0 ∷ []) (0 ∷ 1 ∷ [])) ∷ [];
    } ∷
    -- A ahead of E sends what went in, and needs no other letter, though E has no window at all (`starred` of theorems/specs/Starred.antt)
    record {
      file = 1 ∷ 0 ∷ 19 ∷ 4 ∷ 2 ∷ 2 ∷ 0 ∷ 0 ∷ 3 ∷ 1 ∷ 0 ∷ 1 ∷ 3 ∷ 0 ∷ 3 ∷ 1 ∷ 0 ∷ 0 ∷ 3 ∷ 0 ∷ 0 ∷ 1 ∷ [];
      claims = joins (parity 2) difference ∷ itself (window default_order 0 0 0) ∷ itself (run 0 (1 ∷ 1 ∷ 0 ∷ []) (1 ∷ 1 ∷ 0 ∷ []) 0) ∷ [];
    } ∷
    -- Different counts. From state 0 of the first and 2 of the second, which is number 2, the first puts 2 3 1 0 out on 2 1 0 0 and ends in
    -- 1; on these letters the second puts 3 4 0 2 out and ends in 2, so that both end in number 5.
    record {
      file =
          1 ∷ 0 ∷ 39 ∷ 6 ∷ 3 ∷ 5 ∷ 4 ∷ 4 ∷ 2 ∷ 2 ∷ 3 ∷ 1 ∷ 3 ∷ 3 ∷ 0 ∷ 4 ∷ 5 ∷ 0 ∷ 5 ∷ 2 ∷ 1 ∷ 0 ∷ 4 ∷ 3 ∷ 2 ∷ 0 ∷ 5 ∷ 2 ∷ 1 ∷ 4 ∷
          1 ∷ 1 ∷ 3 ∷ 4 ∷ 0 ∷ 3 ∷ 0 ∷ 1 ∷ 4 ∷ 0 ∷ 2 ∷ 2 ∷ [];
      claims = joins two_states three_states ∷ itself (counts 6 3 5) ∷ itself (run 2 (2 ∷ 1 ∷ 0 ∷ 0 ∷ []) (3 ∷ 4 ∷ 0 ∷ 2 ∷ []) 5) ∷ [];
    } ∷
    -- the scrambler alone
    record { file = scrambler; claims = itself (window default_order 3 0 0) ∷ [] } ∷
    -- The scrambler ahead of differential coding: 16 states. It has the window 3 0, A 1 0; with 4 0 the letters come back.
    record {
      file = scrambled;
      claims =
          joins scrambler (parity 2) ∷ itself (counts 16 2 2) ∷
          itself (run 0 (1 ∷ 0 ∷ 1 ∷ 1 ∷ 0 ∷ 1 ∷ 0 ∷ []) (1 ∷ 1 ∷ 1 ∷ 1 ∷ 1 ∷ 0 ∷ 0 ∷ []) 4) ∷
          itself (string 4 0 0 (1 ∷ 1 ∷ 1 ∷ 1 ∷ 1 ∷ 0 ∷ 0 ∷ []) (0 ∷ 1 ∷ 0 ∷ [])) ∷ [];
    } ∷ []
