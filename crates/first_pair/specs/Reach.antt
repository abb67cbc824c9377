-- Walks of the product machine with an exact number of letters.
use Rattle.std.specs.Prelude.{ℕ, zero, suc, ◌<◌, ◌≡◌}
use Rattle.mealy.specs.Machine.{Machine}
use Rattle.mealy.specs.Setting.{Setting}
use Rattle.mealy.specs.Product.{Edge, forward, Neighbour}

-- A set of pairs of states.
abbrev pub Pairs : Type 1
Pairs = ℕ → ℕ → Type 0

-- k letters lead from (u, v) into P. `reach↔runs` of proofs/Reaching.antt says what it is of runs.
abbrev pub Reach : Machine → Pairs → ℕ → ℕ → ℕ → Type 0
Reach M P zero u v = P u v
Reach M P (suc k) u v = Neighbour M forward (Reach M P k) u v

-- the pair (s, t) alone
abbrev pub At : ℕ → ℕ → Pairs
At s t u v = (u ≡ s) × (v ≡ t)

-- a closed walk of n letters, at least one, at (u, v)
pub record Cycle (M : Machine) (n u v : ℕ) : Type 0 where
  pub letter : 0 < n
  pub closed : Reach M (At u v) n u v

-- some edge leads from (u, v) to (x, y)
pub record Joined (M : Machine) (u v x y : ℕ) : Type 0 where
  pub i : ℕ
  pub j : ℕ
  pub edge : Edge M u v i j x y

-- the letters i and j are on an edge from (u, v) into P
pub record Into (M : Machine) (P : Pairs) (u v i j : ℕ) : Type 0 where
  pub edge : Edge M u v i j (M.next u i) (M.next v j)
  pub within : P (M.next u i) (M.next v j)

-- and conflict
pub record ConflictInto (S : Setting) (P : Pairs) (u v i j : ℕ) : Type 0 where
  pub conflict : S.Conflict i j
  pub into : Into S.M P u v i j

-- a conflicting edge leads from (u, v) into P
pub record SomeConflictInto (S : Setting) (P : Pairs) (u v : ℕ) : Type 0 where
  pub i : ℕ
  pub j : ℕ
  pub edge : ConflictInto S P u v i j
