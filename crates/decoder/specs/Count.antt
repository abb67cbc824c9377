-- A call that writes n bytes into a lent buffer, of which byte k has Q, and returns how many it wrote.
use Rattle.std.specs.Prelude.{ℕ, ◌≡◌, List, Result, Ok}
use Rattle.coder.specs.Refusal.{answer, upon}
use Rattle.coder.specs.declared.refusal.Refusal.{Refusal}
use Rattle.coder.specs.Refused.{Refused}
use Rattle.decoder.specs.Written.{Written}

-- What the call returns and leaves in the lent buffer, where k is its refusal: the refusal and the buffer as it was, or the number of
-- bytes written and the bytes, with the buffer's old bytes after them.
pub record CountPromise (k n : ℕ) (Q : ℕ → ℕ → Type 0) (before : List ℕ) (r : Result ℕ Refusal) (after : List ℕ) : Type 0 where
  pub result : r ≡ answer k (λ j. Refused j) (Ok n)
  pub bytes : upon k (λ j. after ≡ before) (Written Q n before after)

-- What its checked part gives: the number of bytes, and the bytes.
pub record CountGiven (n : ℕ) (Q : ℕ → ℕ → Type 0) (before : List ℕ) (count : ℕ) (after : List ℕ) : Type 0 where
  pub counted : count ≡ n
  pub bytes : Written Q n before after
