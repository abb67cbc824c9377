-- Bytes that are written into a buffer from a place on.
use Rattle.std.specs.Prelude.{ℕ, ◌+◌, ◌≡◌, List, ◌++◌, length, drop}
use Rattle.std.proofs.lemmas.List.Edits.{sets}

-- The buffer with these bytes at its front; the bytes past them stay.
abbrev pub with_front : List ℕ → List ℕ → List ℕ
with_front bytes before = bytes ++ drop (length bytes) before

-- The buffer has these bytes from the place `at` on, all its other bytes are as they were, and `next` is the place after them.
pub record Placed (before : List ℕ) (at : ℕ) (bytes after : List ℕ) (next : ℕ) : Type 0 where
  pub buffer : after ≡ sets before at bytes
  pub end : next ≡ at + length bytes
