-- What it is of runs that k letters lead into a set of pairs; walks one after the other.
use mathlib.Core.Path.{◌≡◌, refl}
use mathlib.Core.Logic.{◌↔◌}
use mathlib.Core.List.{List, [], ◌∷◌}
use Prim.Native.Nat.{ℕ, zero, suc, ◌+◌, ◌*◌}
use native.Mathlib.Omega.{arith}
use lib.ListN.{length}
use Rattle.mealy.specs.Machine.{Machine, end}
use Rattle.mealy.specs.Window.{EqualOutputs}
use Rattle.mealy.specs.Product.{Edge, forward, Neighbour}
use Rattle.mealy.proofs.Edges.{equal_nil, equal_cons, equal_edge, equal_tail, neighbour_map}
use Rattle.first_pair.specs.Reach.{Pairs, Reach, At, Into}
use Rattle.first_pair.specs.Lowest.{BytesLead, none, letter}

-- ---- in terms of runs

-- two runs of k letters with equal outputs, from u and from v, end in a pair of P
pub record RunsInto (M : Machine) (P : Pairs) (k u v : ℕ) : Type 0 where
  pub xs : List ℕ
  pub ys : List ℕ
  pub equal : EqualOutputs M k u v xs ys
  pub within : P (end M u xs) (end M v ys)

module _ (M : Machine) (P : Pairs) where
  pub reach→runs : (k u v : ℕ) → Reach M P k u v → RunsInto M P k u v
  reach→runs zero u v h = record { xs = []; ys = []; equal = equal_nil; within = h }
  reach→runs (suc k) u v h =
      let r = reach→runs k h.s h.t h.within in
      let e = h.step in
      record {
        xs = h.i ∷ r.xs;
        ys = h.j ∷ r.ys;
        equal = equal_cons e r.equal;
        within = rw (e.to₁, e.to₂) r.within;
      }

  along : (k u v : ℕ) (xs ys : List ℕ) → EqualOutputs M k u v xs ys → P (end M u xs) (end M v ys) → Reach M P k u v
  along zero u v [] [] w h = h
  along zero u v [] (y ∷ ys) w h = absurd (omega arith)
  along zero u v (x ∷ xs) ys w h = absurd (omega arith)
  along (suc k) u v [] ys w h = absurd (omega arith)
  along (suc k) u v (x ∷ xs) [] w h = absurd (omega arith)
  along (suc k) u v (x ∷ xs) (y ∷ ys) w h =
      record { s = _; t = _; i = x; j = y; step = equal_edge w; within = along k _ _ xs ys (equal_tail w) h }

  pub reach↔runs : (k u v : ℕ) → Reach M P k u v ↔ RunsInto M P k u v
  reach↔runs k u v = (reach→runs k u v, λ r. along k u v r.xs r.ys r.equal r.within)

-- ---- one edge

module _ {M : Machine} {P : Pairs} {u v : ℕ} where
  pub into_neighbour : {i j : ℕ} → Into M P u v i j → Neighbour M forward P u v
  into_neighbour {i} {j} e = record { s = _; t = _; i = i; j = j; step = e.edge; within = e.within }

  pub edge_into : {i j x y : ℕ} → Edge M u v i j x y → P x y → Into M P u v i j
  edge_into e h = record {
    edge = record { below₁ = e.below₁; below₂ = e.below₂; output = e.output; to₁ = refl; to₂ = refl };
    within = rw (e.to₁, e.to₂) h;
  }

  pub neighbour_into : (h : Neighbour M forward P u v) → Into M P u v h.i h.j
  neighbour_into h = edge_into h.step h.within

-- ---- larger sets, and walks one after the other

pub reach_map : (M : Machine) (P Q : Pairs) → ((x y : ℕ) → P x y → Q x y) → (k u v : ℕ) → Reach M P k u v → Reach M Q k u v
reach_map M P Q f zero u v h = f u v h
reach_map M P Q f (suc k) u v h = neighbour_map (reach_map M P Q f k) h

pub reach_append :
    (M : Machine) (P : Pairs) (m n k u v x y : ℕ) → m + n ≡ k → Reach M (At x y) m u v → Reach M P n x y → Reach M P k u v
reach_append M P zero n k u v x y e h r =
    let f : n ≡ k = omega arith in
    rw (h.0, h.1, ← f) r
reach_append M P (suc m) n zero u v x y e h r = absurd (omega arith)
reach_append M P (suc m) n (suc k) u v x y e h r =
    neighbour_map (λ s t z. reach_append M P m n k s t x y (omega arith) z r) h

pub reach_end : (M : Machine) (P : Pairs) (k u v x y : ℕ) → Reach M (At x y) k u v → P x y → Reach M P k u v
reach_end M P k u v x y h p = reach_append M P k 0 k u v x y (omega arith) h p

-- ---- walks with their bytes

module _ {M : Machine} where
  pub leads_reach : (P : Pairs) {k u v x y : ℕ} {bytes : List ℕ} → BytesLead M k u v bytes x y → P x y → Reach M P k u v
  leads_reach P none h = h
  leads_reach P (letter e r) h = record { s = _; t = _; i = _; j = _; step = e; within = leads_reach P r h }

  pub leads_length : {k u v x y : ℕ} {bytes : List ℕ} → BytesLead M k u v bytes x y → length bytes ≡ 2 * k
  leads_length none = refl
  leads_length (letter e r) = omega (arith, leads_length r)

  -- the same bytes lead to the same pair
  pub leads_same : {k u v x y x' y' : ℕ} {bytes : List ℕ} → BytesLead M k u v bytes x y → BytesLead M k u v bytes x' y' → (x ≡ x') × (y ≡ y')
  leads_same none none = (refl, refl)
  leads_same (letter e r) (letter f q) = leads_same r q
