-- The rounds that find the depths, with for each pair the edge that keeps it standing.
use Rattle.std.specs.Prelude.{ℕ, suc, ◌-◌, ◌≤◌, ◌<◌, ◌≡◌, Bool, true, false, List, [], get_or, Option, MatchOption}
use Rattle.mealy.specs.Product.{Direction, LevelOf}
use Rattle.coder.specs.Table.{machine_of_coder, Sound}
use Rattle.coder.specs.declared.inner.tables.Coder.{Coder}
pub use Rattle.setting.specs.Words.{StartIn, BothStart}
use Rattle.chains.specs.Chain.{has_key}
use Rattle.chains.specs.declared.inner.Chain.{Chain}
use Rattle.product.specs.Depth.{at, endless, Square}
use Rattle.product.specs.Entries.{near_ends, far_ends, far, Joins, ArraysOf}
use Rattle.product.specs.declared.inner.Edge.{Edge}

-- x is the number of an entry whose near end is u, counted from 1, or 0
pub record OnChain (c : Coder) (d : Direction) (u x : ℕ) : Type 0 where
  pub high : x ≤ 256
  pub entry : (p : ℕ) → x ≡ suc p → has_key (near_ends d c) c.states c.inputs u p ≡ true

-- of the edges of (u, v), those whose far ends are in P stand at the edge x y or after it, in the order in which they are passed
pub record NoneBefore (c : Coder) (d : Direction) (P : ℕ → ℕ → Type 0) (u v x y : ℕ) : Type 0 where
  pub first : (p q : ℕ) → Joins c d u v p q → P (far d c p) (far d c q) → suc p ≤ x
  pub second : (p q : ℕ) → Joins c d u v p q → P (far d c p) (far d c q) → suc p ≡ x → suc q ≤ y

-- the search for an edge of (u, v) that stands has come to the edge x y
pub record Seeking (c : Coder) (d : Direction) (P : ℕ → ℕ → Type 0) (u v x y : ℕ) : Type 0 where
  pub column : v < 16
  pub on₁ : OnChain c d u x
  pub on₂ : OnChain c d v y
  pub none_before : NoneBefore c d P u v x y

-- it has found one
pub record Sought (c : Coder) (d : Direction) (P : ℕ → ℕ → Type 0) (u v : ℕ) (e : Edge) : Type 0 where
  pub seeking : Seeking c d P u v e.x e.y
  pub first : 0 < e.x
  pub second : 0 < e.y
  pub joins : Joins c d u v (e.x - 1) (e.y - 1)
  pub stands : P (far d c (e.x - 1)) (far d c (e.y - 1))

-- no edge of (u, v) has far ends in P
abbrev pub NoEdge : Coder → Direction → (ℕ → ℕ → Type 0) → ℕ → ℕ → Type 0
NoEdge c d P u v = (p q : ℕ) → Joins c d u v p q → P (far d c p) (far d c q) → ⊥

-- the pairs of depth above k
abbrev pub Above : List (List ℕ) → ℕ → ℕ → ℕ → Type 0
Above square k s t = k < at square s t

-- what `seek` asks: its arrays are those of the coder in some direction, and it begins at an edge of some pair
pub record SeekAsked (c : Coder) (chain : Chain) (far' : List ℕ) (square : List (List ℕ)) (k : ℕ) (v : ℕ) (e : Edge) : Type 0 where
  pub d : Direction
  pub u : ℕ
  pub arrays : ArraysOf c d chain far'
  pub seeking : Seeking c d (Above square k) u v e.x e.y

-- what `seek` does, whatever direction its arrays are of and whatever first state its edge is of
abbrev pub SeekDone : Coder → Chain → List ℕ → List (List ℕ) → ℕ → ℕ → Edge → Option Edge → Type 0
SeekDone c chain far' square k v from r =
    (d : Direction) (u : ℕ) → ArraysOf c d chain far' → Seeking c d (Above square k) u v from.x from.y →
    MatchOption r (NoEdge c d (Above square k) u v) (Sought c d (Above square k) u v)

-- The depth x of a pair is right up to level k: at each of these levels the pair stands exactly below x, and x is above k only
-- as `endless`.
pub record RightTo (P : ℕ → Type 0) (k x : ℕ) : Type 0 where
  pub stands : (m : ℕ) → m ≤ k → m < x → P m
  pub below : (m : ℕ) → m ≤ k → P m → m < x
  pub shape : x < endless → x ≤ k
  pub high : x ≤ endless

-- the level sets of the coder c with the start states of the word
abbrev pub CoderLevel : Coder → Direction → ℕ → ℕ → ℕ → ℕ → Type 0
CoderLevel c d starts = LevelOf (machine_of_coder c) (StartIn c.states starts) d

-- the edge kept for a pair
abbrev pub edge_at : List (List Edge) → ℕ → ℕ → Edge
edge_at edges u v = get_or (get_or edges u []) v (record { x = 0; y = 0 })

-- Before round k: every depth is right up to level k, and the search for an edge of each pair that stands has passed over no edge to
-- a pair of level k.
pub record Before (c : Coder) (d : Direction) (starts : ℕ) (k : ℕ) (square : List (List ℕ)) (edges : List (List Edge)) : Type 0 where
  pub shape : Square square
  pub kept : Square edges
  pub right : (u v : ℕ) → u < 16 → v < 16 → RightTo (λ m. CoderLevel c d starts m u v) k (at square u v)
  pub seeking :
      (u v : ℕ) → u < 16 → v < 16 → at square u v ≡ endless →
      Seeking c d (CoderLevel c d starts k) u v (edge_at edges u v).x (edge_at edges u v).y

-- After it: every depth is right up to level k + 1, and the search has still passed over no edge to a pair of level k.
pub record After (c : Coder) (d : Direction) (starts : ℕ) (k : ℕ) (square : List (List ℕ)) (edges : List (List Edge)) : Type 0 where
  pub shape : Square square
  pub kept : Square edges
  pub right : (u v : ℕ) → u < 16 → v < 16 → RightTo (λ m. CoderLevel c d starts m u v) (suc k) (at square u v)
  pub seeking :
      (u v : ℕ) → u < 16 → v < 16 → at square u v ≡ endless →
      Seeking c d (CoderLevel c d starts k) u v (edge_at edges u v).x (edge_at edges u v).y

-- some pair has the depth x
pub record Some (square : List (List ℕ)) (x : ℕ) : Type 0 where
  pub u : ℕ
  pub v : ℕ
  pub row : u < 16
  pub column : v < 16
  pub is : at square u v ≡ x

-- whether a round gave some pair its depth
pub record Changed (square : List (List ℕ)) (k : ℕ) (r : Bool) : Type 0 where
  pub yes' : r ≡ true → Some square (suc k)
  pub no' : r ≡ false → Some square (suc k) → ⊥

pub record RoundAsked (c : Coder) (chain : Chain) (far' : List ℕ) (k : ℕ) (square : List (List ℕ)) (edges : List (List Edge)) : Type 0 where
  pub d : Direction
  pub starts : ℕ
  pub arrays : ArraysOf c d chain far'
  pub before : Before c d starts k square edges
  pub level : suc k < endless

-- what a round does
pub record Rounded (c : Coder) (d : Direction) (starts : ℕ) (k : ℕ) (square : List (List ℕ)) (edges : List (List Edge)) (r : Bool) : Type 0 where
  pub after : After c d starts k square edges
  pub changed : Changed square k r

-- the same, whatever direction and start states the arrays are of
abbrev pub RoundDone :
    Coder → Chain → List ℕ → ℕ → List (List ℕ) → List (List Edge) → List (List ℕ) → List (List Edge) → Bool → Type 0
RoundDone c chain far' k square edges square' edges' r =
    (d : Direction) (starts : ℕ) → ArraysOf c d chain far' → Before c d starts k square edges →
    Rounded c d starts k square' edges' r

-- Before the first round: the pairs of start states are endless, the others have depth 0.
pub record Started (n starts : ℕ) (square : List (List ℕ)) : Type 0 where
  pub shape : Square square
  pub start : (u v : ℕ) → u < 16 → v < 16 → BothStart n starts u v → at square u v ≡ endless
  pub other : (u v : ℕ) → u < 16 → v < 16 → (BothStart n starts u v → ⊥) → at square u v ≡ 0

-- the first edge of each pair whose first state is below n
pub record FirstEdges (last : List ℕ) (n : ℕ) (edges : List (List Edge)) : Type 0 where
  pub kept : Square edges
  pub first : (u v : ℕ) → u < n → v < 16 → edge_at edges u v ≡ record { x = get_or last u 0; y = get_or last v 0 }

pub record AlongAsked (c : Coder) (near' far' : List ℕ) : Type 0 where
  pub d : Direction
  pub sound : Sound c
  pub near_is : near' ≡ near_ends d c
  pub far_is : far' ≡ far_ends d c
