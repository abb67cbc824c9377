-- What a decoder answers for the letters of one window.
use Rattle.std.specs.Prelude.{ℕ, ◌+◌, ◌<◌, ◌≡◌, ◌≢◌, List, length, get_or, drop}
use Rattle.mealy.specs.Machine.{Machine, outs, Letters}
use Rattle.mealy.specs.Reachable.{Reachable}
use Rattle.mealy.specs.Setting.{Setting}
use Rattle.mealy.specs.HowFar.{HowFar}

-- Document 01's term "fits" ("Decoding", first sentence): some run from a start state with the outputs w has the letter x at place b.
pub record Fits (S : Setting) (w : List ℕ) (b x : ℕ) : Type 0 where
  pub s : ℕ
  pub xs : List ℕ
  pub start : S.Start s
  pub letters : Letters S.M.inputs xs
  pub outputs : outs S.M s xs ≡ w
  pub inside : b < length xs
  pub letter : get_or xs b 0 ≡ x

-- The same for a coder's window with settle count p, said with no setting (document 02, 6/13, third sentence): some run from a reachable
-- state has the outputs w from place p on, the ones before being unseen, and the letter x at place p + b. `fits↔fits_after` of
-- proofs/Unseen.antt shows that the two agree.
pub record FitsAfter (M : Machine) (p : ℕ) (w : List ℕ) (b x : ℕ) : Type 0 where
  pub s : ℕ
  pub xs : List ℕ
  pub reachable : Reachable M s
  pub letters : Letters M.inputs xs
  pub outputs : drop p (outs M s xs) ≡ w
  pub inside : p + b < length xs
  pub letter : get_or xs (p + b) 0 ≡ x

-- The three answers ("Decoding", second sentence), none with how many letters were possible (document 02, 9/13, second sentence); and each
-- one's byte ("Decoding", third sentence), whatever the count is (9/13, third sentence).
pub data Answer : Type 0 where
  letter : ℕ → Answer
  none : ℕ → Answer
  several : Answer

abbrev pub byte_of : Answer → ℕ
byte_of (letter x) = x
byte_of (none k) = 254
byte_of several = 255

-- x fits, and nothing else does
pub record Alone (S : Setting) (w : List ℕ) (b x : ℕ) : Type 0 where
  pub fits : Fits S w b x
  pub alone : (y : ℕ) → Fits S w b y → y ≡ x

-- two different letters fit
pub record Two (S : Setting) (w : List ℕ) (b : ℕ) : Type 0 where
  pub x : ℕ
  pub y : ℕ
  pub fits₁ : Fits S w b x
  pub fits₂ : Fits S w b y
  pub differ : x ≢ y

-- Demand 2, second sentence: the letter that alone fits; none where no run gives the outputs, which is where there is a count
-- (`far_no_run`, `far_word_lem`); several otherwise.
abbrev pub Answers : Setting → List ℕ → ℕ → Answer → Type 0
Answers S w b (letter x) = Alone S w b x
Answers S w b (none k) = HowFar S w k
Answers S w b several = Two S w b
