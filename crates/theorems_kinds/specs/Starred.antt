-- Worked examples of the calls for kinds: coder files, and what is claimed of each. C and E, which have no decoder, A, D and G, whose
-- windows for letters are 1 0, 0 1 and 2 0, and one more coder with fillers: two states, four input letters, of which the last two always
-- put out the letter 2. A claim on a call says that every outcome that the call promises on this file is the one named.
use Rattle.std.specs.Prelude.{ℕ, ◌≡◌, List, [], ◌∷◌}
use Rattle.values.specs.Window.{window}
use Rattle.search_kinds.specs.Search.{SearchKindsPromise}
use Rattle.window_kinds.specs.Window.{WindowKindsPromise}
use Rattle.window_kinds.specs.declared.KindsAnswer.{KindsAnswer}
use Rattle.window_kinds.specs.declared.KindsAnswer.TheVariants.{Letter, Kind, None, Several}
use Rattle.theorems.specs.Cases.{Case}
use Rattle.std.specs.Prelude as std
use Rattle.std.specs.Prelude.{Result, Ok, Option, Some}
use Rattle.coder.specs.declared.refusal.Refusal.{Refusal}
use Rattle.search_kinds.specs.declared.Told.{Told}

-- A looped pair of three letters: start states, and the bytes of the letters.
pub record Evidence : Type 0 where
  pub s : ℕ
  pub t : ℕ
  pub bytes : List ℕ

-- a kind that is not carried, with a pair whose runs differ in two letters of it
pub record Left : Type 0 where
  pub kind : ℕ
  pub pair : Evidence

pub data Claim : Type 0 where
  -- with this kind list the search says that kinds cannot be told; the pair's runs differ in letters of different kinds
  cannot : List ℕ → Evidence → Claim
  -- it reports a window of these sides and these carried kinds, as a word; the rest is why the other kinds are not carried
  told : List ℕ → ℕ → ℕ → ℕ → List Left → Claim
  -- with this kind list and a window of these sides, the answer for the letters received
  answer : List ℕ → ℕ → ℕ → List ℕ → KindsAnswer → Claim

abbrev pub Holds : List ℕ → Claim → Type 0
Holds f (cannot kinds pair) = (r : Result (Option Told) Refusal) → SearchKindsPromise f kinds r → r ≡ Ok std.None
Holds f (told kinds b a carried left) = (r : Result (Option Told) Refusal) → SearchKindsPromise f kinds r → r ≡ Ok (Some (record { carried = carried; window = window b a 0 }))
Holds f (answer kinds b a received v) = (r : Result KindsAnswer Refusal) → WindowKindsPromise f kinds b a received r → r ≡ Ok v

abbrev pub starred_kinds : List (Case Claim)
starred_kinds =
    -- A, running parity
    record {
      file = 1 ∷ 0 ∷ 11 ∷ 2 ∷ 2 ∷ 2 ∷ 0 ∷ 0 ∷ 1 ∷ 1 ∷ 1 ∷ 1 ∷ 0 ∷ 0 ∷ [];
      claims =
          told (0 ∷ 0 ∷ []) 1 0 3 [] ∷ told (1 ∷ 0 ∷ []) 1 0 3 [] ∷ answer (0 ∷ 0 ∷ []) 0 0 (1 ∷ []) (Kind 0) ∷
          answer (1 ∷ 1 ∷ []) 0 0 (1 ∷ []) (Kind 1) ∷ answer (0 ∷ 1 ∷ []) 0 0 (1 ∷ []) Several ∷ [];
    } ∷
    -- C, one state, one output letter
    record {
      file = 1 ∷ 0 ∷ 7 ∷ 1 ∷ 2 ∷ 1 ∷ 0 ∷ 0 ∷ 0 ∷ 0 ∷ [];
      claims =
          told (0 ∷ 0 ∷ []) 0 0 2 (record { kind = 0; pair = record { s = 0; t = 0; bytes = 0 ∷ 0 ∷ 0 ∷ 1 ∷ 0 ∷ 0 ∷ [] } } ∷ []) ∷
          told (1 ∷ 1 ∷ []) 0 0 1 (record { kind = 1; pair = record { s = 0; t = 0; bytes = 0 ∷ 0 ∷ 0 ∷ 1 ∷ 0 ∷ 0 ∷ [] } } ∷ []) ∷
          cannot (0 ∷ 1 ∷ []) (record { s = 0; t = 0; bytes = 0 ∷ 0 ∷ 0 ∷ 1 ∷ 0 ∷ 0 ∷ [] }) ∷ [];
    } ∷
    -- D, delay
    record {
      file = 1 ∷ 0 ∷ 11 ∷ 2 ∷ 2 ∷ 2 ∷ 0 ∷ 0 ∷ 1 ∷ 0 ∷ 0 ∷ 1 ∷ 1 ∷ 1 ∷ [];
      claims = told (0 ∷ 0 ∷ []) 0 1 3 [] ∷ told (0 ∷ 1 ∷ []) 0 1 3 [] ∷ [];
    } ∷
    -- E, change detector
    record {
      file = 1 ∷ 0 ∷ 11 ∷ 2 ∷ 2 ∷ 2 ∷ 0 ∷ 0 ∷ 1 ∷ 1 ∷ 0 ∷ 1 ∷ 1 ∷ 0 ∷ [];
      claims =
          told (0 ∷ 0 ∷ []) 0 0 2 (record { kind = 0; pair = record { s = 0; t = 1; bytes = 0 ∷ 1 ∷ 0 ∷ 1 ∷ 0 ∷ 1 ∷ [] } } ∷ []) ∷
          cannot (1 ∷ 0 ∷ []) (record { s = 0; t = 1; bytes = 0 ∷ 1 ∷ 0 ∷ 1 ∷ 0 ∷ 1 ∷ [] }) ∷ [];
    } ∷
    -- G
    record {
      file = 1 ∷ 0 ∷ 19 ∷ 4 ∷ 2 ∷ 6 ∷ 1 ∷ 4 ∷ 1 ∷ 5 ∷ 2 ∷ 0 ∷ 3 ∷ 0 ∷ 2 ∷ 0 ∷ 2 ∷ 1 ∷ 3 ∷ 2 ∷ 3 ∷ 3 ∷ [];
      claims =
          told (1 ∷ 1 ∷ []) 2 0 3 [] ∷ answer (0 ∷ 1 ∷ []) 0 1 (0 ∷ 2 ∷ []) (Letter 1) ∷ answer (0 ∷ 1 ∷ []) 0 1 (1 ∷ 2 ∷ []) None ∷ [];
    } ∷
    -- with fillers
    record {
      file = 1 ∷ 0 ∷ 19 ∷ 2 ∷ 4 ∷ 3 ∷ 0 ∷ 0 ∷ 1 ∷ 1 ∷ 0 ∷ 2 ∷ 0 ∷ 2 ∷ 1 ∷ 1 ∷ 0 ∷ 0 ∷ 0 ∷ 2 ∷ 0 ∷ 2 ∷ [];
      claims =
          told (0 ∷ 0 ∷ 1 ∷ 1 ∷ []) 1 0 13
          (record { kind = 1; pair = record { s = 0; t = 0; bytes = 2 ∷ 2 ∷ 2 ∷ 3 ∷ 2 ∷ 2 ∷ [] } } ∷ []) ∷
          told (0 ∷ 0 ∷ 0 ∷ 0 ∷ []) 0 0 14
          (record { kind = 0; pair = record { s = 0; t = 0; bytes = 2 ∷ 2 ∷ 2 ∷ 3 ∷ 2 ∷ 2 ∷ [] } } ∷ []) ∷
          cannot (0 ∷ 1 ∷ 2 ∷ 3 ∷ []) (record { s = 0; t = 0; bytes = 2 ∷ 2 ∷ 2 ∷ 3 ∷ 2 ∷ 2 ∷ [] }) ∷
          answer (0 ∷ 0 ∷ 1 ∷ 1 ∷ []) 1 0 (2 ∷ 2 ∷ []) (Kind 1) ∷ answer (0 ∷ 0 ∷ 1 ∷ 1 ∷ []) 1 0 (2 ∷ 1 ∷ []) (Letter 1) ∷
          answer (0 ∷ 0 ∷ 1 ∷ 1 ∷ []) 0 0 (0 ∷ []) (Kind 0) ∷ answer (3 ∷ 1 ∷ 1 ∷ 1 ∷ []) 0 0 (0 ∷ []) Several ∷ [];
    } ∷
    []
