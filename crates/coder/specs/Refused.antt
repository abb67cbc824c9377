-- Refusals by number (document 01, "Numbers of refusal"; document 02 for 14 to 17): the number of each, and what a refused call returns.
use Rattle.std.specs.Prelude.{ℕ, zero, suc, List, [], ◌∷◌, Result, Ok, Err}
use Rattle.coder.specs.declared.refusal.Refusal.{Refusal}
use Rattle.coder.specs.declared.refusal.Refusal.TheVariants.{ShortFile, Version, FileLength, Counts, CountField, Entry, StartState, WindowSide, NumberOfLetters, TableSize, ShortBuffer, InputLetter, ReceivedLetter, SettleCount, UnusedOutput, Kinds, Row}

-- The number of a refusal.
abbrev pub number_of : Refusal → ℕ
number_of ShortFile = 1
number_of Version = 2
number_of FileLength = 3
number_of Counts = 4
number_of CountField = 5
number_of Entry = 6
number_of StartState = 7
number_of WindowSide = 8
number_of NumberOfLetters = 9
number_of TableSize = 10
number_of ShortBuffer = 11
number_of InputLetter = 12
number_of ReceivedLetter = 13
number_of SettleCount = 14
number_of UnusedOutput = 15
number_of Kinds = 16
number_of Row = 17

-- All refusals, each at the place of its number, counted from 1.
abbrev pub refusals : List Refusal
refusals =
    ShortFile ∷ Version ∷ FileLength ∷ Counts ∷ CountField ∷ Entry ∷ StartState ∷ WindowSide ∷ NumberOfLetters ∷ TableSize
    ∷ ShortBuffer ∷ InputLetter ∷ ReceivedLetter ∷ SettleCount ∷ UnusedOutput ∷ Kinds ∷ Row ∷ []

-- the member at a place of a list, counted from 0, and past its end the one given
abbrev pub member : {A : Type 0} → List A → ℕ → A → A
member [] k d = d
member (x ∷ xs) zero d = x
member (x ∷ xs) (suc k) d = member xs k d

-- The refusal with a number; its number is that one, for 1 to 17 (`number_back` of proofs/Refused.antt).
abbrev pub refusal_of : ℕ → Refusal
refusal_of zero = ShortFile
refusal_of (suc k) = member refusals k ShortFile

-- What a call returns that is refused with a number.
abbrev pub Refused : {A : Type 0} → ℕ → Result A Refusal
Refused k = Err (refusal_of k)

-- The number with which a call's first part refuses; 0 where it does not.
abbrev pub number_in : {A : Type 0} → Result A Refusal → ℕ
number_in (Ok x) = 0
number_in (Err e) = number_of e
