-- The decoder's answer, and when it is right.
use Rattle.std.specs.Prelude.{ℕ, ◌-◌, ◌^◌, ◌≡◌, cond, List, eqb}
use Rattle.std.specs.Int.Count.{count_leading_zeros}
use Rattle.mealy.specs.Word.{Holds}
use Rattle.mealy.specs.Setting.{Setting}
use Rattle.mealy.specs.Answer as mealy
use Rattle.fitting.specs.declared.Answer.{Answer}
use Rattle.fitting.specs.declared.Answer.TheVariants.{Letter, None, Several}

-- The code's three cases as those of the theory (document 01, "Decoding", second sentence; document 02, 9/13, second sentence).
-- `mealy.byte_of` gives each one's byte: the letter, 254, 255.
abbrev pub meaning : Answer → mealy.Answer
meaning (Letter x) = mealy.letter x
meaning (None k) = mealy.none k
meaning Several = mealy.several

-- The answer is right for the letters w of a window with b letters before the present one.
abbrev pub Right : Setting → List ℕ → ℕ → Answer → Type 0
Right S w b v = mealy.Answers S w b (meaning v)

-- v is the byte of a right answer.
pub record RightByte (S : Setting) (w : List ℕ) (b v : ℕ) : Type 0 where
  pub answer : mealy.Answer
  pub right : mealy.Answers S w b answer
  pub byte : v ≡ mealy.byte_of answer

-- the greatest letter of a set that is not empty
abbrev pub greatest : ℕ → ℕ
greatest u = 15 - count_leading_zeros 16 u

-- the answer that a set of letters stands for; with no letter, none with the count k
unfoldable pub answer_of : ℕ → ℕ → Answer
answer_of u k = cond (eqb u 0) (None k) (cond (eqb u (2 ^ greatest u)) (Letter (greatest u)) Several)

-- v is the byte of the answer for the letters with P; it does not depend on the count
pub record ByteOf (P : ℕ → Type 0) (v : ℕ) : Type 0 where
  pub word : ℕ
  pub holds : Holds P word
  pub byte : v ≡ mealy.byte_of (meaning (answer_of word 0))
