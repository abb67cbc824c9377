-- The checker of looped pairs: its refusal and its promise.
use Rattle.std.specs.Prelude.{ℕ, ◌*◌, ◌≡◌, Bool, true, false, not, ◌&&◌, List, length, ltb, eqb, Result, Ok}
use Rattle.mealy.specs.LoopedPair.{LoopedPair, letters, Valid}
use Rattle.coder.specs.Refusal.{refuse, first, letters_below, upon}
use Rattle.coder.specs.File.{file_refusal, states_of, inputs_of, setting_of}
use Rattle.coder.specs.declared.refusal.Refusal.{Refusal}
use Rattle.coder.specs.Refused.{Refused}

-- The call's refusal, in checking order: the file's, then 7 (a start state), 9 (there are not two bytes for each letter; the sum is one of
-- whole numbers, which does not wrap), 11 (some lent buffer is too short) and 12 (an input letter).
unfoldable pub check_refusal : List ℕ → LoopedPair → Bool → ℕ
check_refusal f p fits =
    first (file_refusal f)
    (refuse (not (ltb p.s (states_of f) && ltb p.t (states_of f))) 7
    (refuse (not (eqb (length p.bytes) (2 * letters p))) 9
    (refuse (not fits) 11
    (refuse (not (letters_below (inputs_of f) p.bytes)) 12
    0))))

-- the result is a yes or a no, and yes exactly for a valid pair
pub record CheckedRight (f : List ℕ) (p : LoopedPair) (r : Result Bool Refusal) : Type 0 where
  pub answer : Bool
  pub is : r ≡ Ok answer
  pub yes' : answer ≡ true → Valid (setting_of f) p
  pub no' : answer ≡ false → Valid (setting_of f) p → ⊥

-- The first refusal that applies, or yes exactly for the valid pairs ("Looped pair", the sentence on the checker); `others` says whether
-- the lent buffers are long enough, of which the checker has none of its own.
abbrev pub CheckWith : List ℕ → LoopedPair → Bool → Result Bool Refusal → Type 0
CheckWith f p others r = upon (check_refusal f p others) (λ k. r ≡ Refused k) (CheckedRight f p r)

-- The library's own call lends none.
abbrev pub CheckPromise : List ℕ → LoopedPair → Result Bool Refusal → Type 0
CheckPromise f p r = CheckWith f p true r
