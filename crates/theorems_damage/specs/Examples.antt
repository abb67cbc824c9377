-- Worked examples of damaged strings: coders A, D and G. Each is a string coded from state 0, what became of it, and the bytes that the
-- string decoder writes for it before and after. Bytes 254 are "none".
use Rattle.std.specs.Prelude.{ℕ, ◌≡◌, List, [], ◌∷◌, length}
use Rattle.mealy.specs.Machine.{outs}
use Rattle.coder.specs.File.{machine_of}
use Rattle.values.specs.Window.{window}
use Rattle.values.specs.declared.Window.{Window}
use Rattle.theorems_damage.specs.Change.{Change, kept, altered, lost, added, sent, received}
use Rattle.theorems_damage.specs.Damage.{Calls, StringDecoded, StringDecodedFromC}

pub record Example : Type 0 where
  pub file : List ℕ
  pub window : Window
  pub inputs : List ℕ
  pub sends : List ℕ
  pub changes : List Change
  pub arrives : List ℕ
  pub bytes : List ℕ
  pub bytes' : List ℕ

-- the calls on both strings, which are not refused
pub record BothStrings (D : Calls) (e : Example) : Type 0 where
  pub undamaged : D e.sends (length e.bytes) e.bytes
  pub damaged : D e.arrives (length e.bytes') e.bytes'

pub record Holds (e : Example) : Type 0 where
  pub coded : outs (machine_of e.file) 0 e.inputs ≡ e.sends
  pub sent_are : sent e.changes ≡ e.sends
  pub received_are : received e.changes ≡ e.arrives
  pub own : BothStrings (StringDecoded e.file e.window) e
  pub from_C : BothStrings (StringDecodedFromC e.file e.window) e

abbrev pub EachHolds : List Example → Type 0
EachHolds [] = Unit {0}
EachHolds (e ∷ es) = Holds e × EachHolds es

-- Coder A with a window of one letter before and settle count 1: a letter is lost, two are added, and the first letter after them is
-- altered.
abbrev pub spliced : Example
spliced =
    record {
      file = 1 ∷ 0 ∷ 11 ∷ 2 ∷ 2 ∷ 2 ∷ 0 ∷ 0 ∷ 1 ∷ 1 ∷ 1 ∷ 1 ∷ 0 ∷ 0 ∷ [];
      window = window 1 0 1;
      inputs = 1 ∷ 1 ∷ 0 ∷ 1 ∷ 0 ∷ 0 ∷ 1 ∷ 1 ∷ [];
      sends = 1 ∷ 0 ∷ 0 ∷ 1 ∷ 1 ∷ 1 ∷ 0 ∷ 1 ∷ [];
      changes = kept 1 ∷ lost 0 ∷ added 1 ∷ added 1 ∷ altered 0 1 ∷ kept 1 ∷ kept 1 ∷ kept 1 ∷ kept 0 ∷ kept 1 ∷ [];
      arrives = 1 ∷ 1 ∷ 1 ∷ 1 ∷ 1 ∷ 1 ∷ 1 ∷ 0 ∷ 1 ∷ [];
      bytes = 1 ∷ 0 ∷ 1 ∷ 0 ∷ 0 ∷ 1 ∷ 1 ∷ [];
      bytes' = 0 ∷ 0 ∷ 0 ∷ 0 ∷ 0 ∷ 0 ∷ 1 ∷ 1 ∷ [];
    }

-- Coder D, one letter of lookahead: the altered letter makes one byte differ of the two whose windows hold it.
abbrev pub delayed : Example
delayed =
    record {
      file = 1 ∷ 0 ∷ 11 ∷ 2 ∷ 2 ∷ 2 ∷ 0 ∷ 0 ∷ 1 ∷ 0 ∷ 0 ∷ 1 ∷ 1 ∷ 1 ∷ [];
      window = window 0 1 0;
      inputs = 1 ∷ 0 ∷ 1 ∷ 1 ∷ 0 ∷ [];
      sends = 0 ∷ 1 ∷ 0 ∷ 1 ∷ 1 ∷ [];
      changes = kept 0 ∷ kept 1 ∷ altered 0 1 ∷ kept 1 ∷ kept 1 ∷ [];
      arrives = 0 ∷ 1 ∷ 1 ∷ 1 ∷ 1 ∷ [];
      bytes = 1 ∷ 0 ∷ 1 ∷ 1 ∷ [];
      bytes' = 1 ∷ 1 ∷ 1 ∷ 1 ∷ [];
    }

-- Coder G with its window 2 0: of the three windows that hold the altered letter the first is decoded to a wrong letter, the others are
-- noticed.
abbrev pub noticed : Example
noticed =
    record {
      file = 1 ∷ 0 ∷ 19 ∷ 4 ∷ 2 ∷ 6 ∷ 1 ∷ 4 ∷ 1 ∷ 5 ∷ 2 ∷ 0 ∷ 3 ∷ 0 ∷ 2 ∷ 0 ∷ 2 ∷ 1 ∷ 3 ∷ 2 ∷ 3 ∷ 3 ∷ [];
      window = window 2 0 0;
      inputs = 0 ∷ 1 ∷ 0 ∷ 1 ∷ 1 ∷ 0 ∷ [];
      sends = 4 ∷ 0 ∷ 2 ∷ 3 ∷ 3 ∷ 2 ∷ [];
      changes = kept 4 ∷ kept 0 ∷ altered 2 1 ∷ kept 3 ∷ kept 3 ∷ kept 2 ∷ [];
      arrives = 4 ∷ 0 ∷ 1 ∷ 3 ∷ 3 ∷ 2 ∷ [];
      bytes = 0 ∷ 1 ∷ 1 ∷ 0 ∷ [];
      bytes' = 1 ∷ 254 ∷ 254 ∷ 0 ∷ [];
    }

-- Coder G with settle count 1 and its window 1 0, damaged in all four ways.
abbrev pub settled : Example
settled =
    record {
      file = 1 ∷ 0 ∷ 19 ∷ 4 ∷ 2 ∷ 6 ∷ 1 ∷ 4 ∷ 1 ∷ 5 ∷ 2 ∷ 0 ∷ 3 ∷ 0 ∷ 2 ∷ 0 ∷ 2 ∷ 1 ∷ 3 ∷ 2 ∷ 3 ∷ 3 ∷ [];
      window = window 1 0 1;
      inputs = 0 ∷ 1 ∷ 0 ∷ 1 ∷ 1 ∷ 0 ∷ 0 ∷ 1 ∷ [];
      sends = 4 ∷ 0 ∷ 2 ∷ 3 ∷ 3 ∷ 2 ∷ 2 ∷ 3 ∷ [];
      changes = kept 4 ∷ added 5 ∷ added 1 ∷ kept 0 ∷ lost 2 ∷ altered 3 2 ∷ kept 3 ∷ kept 2 ∷ kept 2 ∷ kept 3 ∷ [];
      arrives = 4 ∷ 5 ∷ 1 ∷ 0 ∷ 2 ∷ 3 ∷ 2 ∷ 2 ∷ 3 ∷ [];
      bytes = 254 ∷ 0 ∷ 1 ∷ 1 ∷ 0 ∷ 0 ∷ 1 ∷ [];
      bytes' = 254 ∷ 254 ∷ 0 ∷ 0 ∷ 1 ∷ 0 ∷ 0 ∷ 1 ∷ [];
    }

abbrev pub examples : List Example
examples = spliced ∷ delayed ∷ noticed ∷ settled ∷ []
