-- A coder as a Mealy machine, and its runs.
use Rattle.std.specs.Prelude.{ℕ, ◌<◌, List, [], ◌∷◌}

-- Document 01's term "coder" ("Coders and runs", first two sentences): the entry of state s and input letter i names the
-- next state and the output letter.
pub record Machine : Type 0 where
  pub states : ℕ
  pub inputs : ℕ
  pub next : ℕ → ℕ → ℕ
  pub out : ℕ → ℕ → ℕ

-- Document 01's term "run" ("Coders and runs", third sentence): it starts in a state and follows one entry for each input
-- letter. These are its output letters and the state in which it ends.
abbrev pub outs : Machine → ℕ → List ℕ → List ℕ
outs M s [] = []
outs M s (x ∷ xs) = M.out s x ∷ outs M (M.next s x) xs

abbrev pub end : Machine → ℕ → List ℕ → ℕ
end M s [] = s
end M s (x ∷ xs) = end M (M.next s x) xs

-- every letter is below n
abbrev pub Letters : ℕ → List ℕ → Type 0
Letters n [] = Unit {0}
Letters n (x ∷ xs) = (x < n) × Letters n xs

-- every entry leads to a state
abbrev pub Total : Machine → Type 0
Total M = (s i : ℕ) → s < M.states → i < M.inputs → M.next s i < M.states
