-- A buffer written from the front.
use Rattle.std.specs.Prelude.{ℕ, ◌<◌, ◌≡◌, List, length, get_or, drop}

-- The buffer `after` is `before` with n bytes written at its front, of which byte k has Q; the bytes past them stay.
pub record Written (Q : ℕ → ℕ → Type 0) (n : ℕ) (before after : List ℕ) : Type 0 where
  pub size : length after ≡ length before
  pub is : (k : ℕ) → k < n → Q k (get_or after k 0)
  pub rest : drop n after ≡ drop n before
