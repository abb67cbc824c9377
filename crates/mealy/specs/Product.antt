-- The product machine: its states are pairs of states, and its edges pairs of entries with equal outputs. Its level sets.
use Rattle.std.specs.Prelude.{ℕ, zero, suc, ◌*◌, ◌+◌, ◌/◌, ◌<◌, ◌≡◌}
use Rattle.mealy.specs.Machine.{Machine}
use Rattle.mealy.specs.Setting.{Setting}

-- The edge from (s, t) to (u, v) on the letters i and j.
pub record Edge (M : Machine) (s t i j u v : ℕ) : Type 0 where
  pub below₁ : i < M.inputs
  pub below₂ : j < M.inputs
  pub output : M.out s i ≡ M.out t j
  pub to₁ : M.next s i ≡ u
  pub to₂ : M.next t j ≡ v

-- Edges are followed back to predecessors or forward to successors.
pub data Direction : Type 0 where
  back : Direction
  forward : Direction

-- From (u, v) one edge leads, in this direction, to (s, t).
abbrev pub Step : Machine → Direction → ℕ → ℕ → ℕ → ℕ → ℕ → ℕ → Type 0
Step M back u v i j s t = Edge M s t i j u v
Step M forward u v i j s t = Edge M u v i j s t

-- (u, v) has a predecessor, or a successor, in P
pub record Neighbour (M : Machine) (d : Direction) (P : ℕ → ℕ → Type 0) (u v : ℕ) : Type 0 where
  pub s : ℕ
  pub t : ℕ
  pub i : ℕ
  pub j : ℕ
  pub step : Step M d u v i j s t
  pub within : P s t

-- The level sets. Level 0 has the pairs of start states; a pair is in level k + 1 if it has a neighbour in level k.
-- `back↔runs` and `forward↔runs` of proofs/Runs.antt say what they are of runs.
abbrev pub LevelOf : Machine → (ℕ → Type 0) → Direction → ℕ → ℕ → ℕ → Type 0
LevelOf M Start d zero u v = Start u × Start v
LevelOf M Start d (suc k) u v = Start u × Start v × Neighbour M d (LevelOf M Start d k) u v

-- Which letters conflict has no part in them.
abbrev pub Level : Setting → Direction → ℕ → ℕ → ℕ → Type 0
Level S = LevelOf S.M S.Start

-- The level sets no longer change from level k on.
abbrev pub Settled : Setting → Direction → ℕ → Type 0
Settled S d k = (u v : ℕ) → Level S d k u v → Level S d (suc k) u v

-- an edge on conflicting letters from a pair of P to a pair of Q
pub record ConflictEdge (S : Setting) (P Q : ℕ → ℕ → Type 0) : Type 0 where
  pub s : ℕ
  pub t : ℕ
  pub i : ℕ
  pub j : ℕ
  pub u : ℕ
  pub v : ℕ
  pub from : P s t
  pub edge : Edge S.M s t i j u v
  pub conflict : S.Conflict i j
  pub to : Q u v

-- A conflicting edge joins the levels of the window b a. In a closed setting the window works exactly where there is none
-- (`works↔unambiguous` of proofs/Windows.antt).
abbrev pub Ambiguous : Setting → ℕ → ℕ → Type 0
Ambiguous S b a = ConflictEdge S (Level S back b) (Level S forward a)

-- N × (N + 1) / 2, the number of unordered pairs of states: no side of a reported window is above it ("Coders and runs",
-- the paragraph on limits).
abbrev pub pairs : ℕ → ℕ
pairs n = n * (n + 1) / 2
