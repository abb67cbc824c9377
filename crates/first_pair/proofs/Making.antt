-- Walks with their bytes where letters lead into a set; and where lengths are possible, a valid pair with them.
use mathlib.Core.Path.{◌≡◌, refl, sym, ◌∙◌}
use mathlib.Core.List.{List, [], ◌∷◌}
use Prim.Native.Nat.{ℕ, zero, suc, ◌+◌}
use Rattle.mealy.specs.Machine.{Machine}
use Rattle.mealy.specs.Setting.{Setting}
use Rattle.mealy.specs.LoopedPair.{LoopedPair, letters, Valid}
use Rattle.mealy.proofs.PairWalks.{WalkOf, PairWalks, pair_of_walks, walks→valid}
use Rattle.first_pair.specs.Reach.{Pairs, Reach, At, Cycle, SomeConflictInto}
use Rattle.first_pair.specs.Lowest.{BytesLead, none, letter}
use Rattle.first_pair.proofs.Reaching.{reach→runs, neighbour_into}

-- ---- walks with their bytes

-- k letters in the bytes lead from (u, v) into P
pub record LeadsInto (M : Machine) (P : Pairs) (k u v : ℕ) : Type 0 where
  pub bytes : List ℕ
  pub x : ℕ
  pub y : ℕ
  pub leads : BytesLead M k u v bytes x y
  pub within : P x y

pub reach_leads : (M : Machine) (P : Pairs) (k u v : ℕ) → Reach M P k u v → LeadsInto M P k u v
reach_leads M P zero u v h = record { bytes = []; x = u; y = v; leads = none; within = h }
reach_leads M P (suc k) u v h =
    let e = neighbour_into h in
    let r = reach_leads M P k _ _ e.within in
    record { bytes = h.i ∷ h.j ∷ r.bytes; x = r.x; y = r.y; leads = letter e.edge r.leads; within = r.within }

-- ---- valid pairs

-- a walk of k letters from (u, v) into P
pub record WalkInto (M : Machine) (P : Pairs) (k u v : ℕ) : Type 0 where
  pub x : ℕ
  pub y : ℕ
  pub walk : WalkOf M k u v x y
  pub within : P x y

pub reach_walk : (M : Machine) (P : Pairs) (k u v : ℕ) → Reach M P k u v → WalkInto M P k u v
reach_walk M P k u v h =
    let r = reach→runs M P k u v h in
    let e = r.equal in
    record {
      x = _;
      y = _;
      walk = record {
        xs = r.xs;
        ys = r.ys;
        size = e.length₁;
        walk = record {
          equal = record {
            letters₁ = e.letters₁;
            letters₂ = e.letters₂;
            length₁ = refl;
            length₂ = e.length₂ ∙ sym e.length₁;
            outputs = e.outputs;
          };
          end₁ = refl;
          end₂ = refl;
        };
      };
      within = r.within;
    }

pub closed_walk : (M : Machine) (k u v : ℕ) → Reach M (At u v) k u v → WalkOf M k u v u v
closed_walk M k u v h =
    let w = reach_walk M (At u v) k u v h in
    rw (w.within.0, w.within.1) at w.walk

-- a valid pair with n letters and these starts
pub record ValidOf (S : Setting) (s t n : ℕ) : Type 0 where
  pub pair : LoopedPair
  pub valid : Valid S pair
  pub all : letters pair ≡ n

module _ (S : Setting) where
  open S use {M}

  pub possible_valid :
      (s t bl li lo fl n : ℕ) → bl + li + 1 + lo + fl ≡ n → S.Start s → S.Start t → Cycle M bl s t →
      Reach M (SomeConflictInto S (Reach M (Cycle M fl) lo)) li s t → ValidOf S s t n
  possible_valid s t bl li lo fl n sum st₁ st₂ c r =
      let w = reach_walk M (SomeConflictInto S (Reach M (Cycle M fl) lo)) li s t r in
      let e = w.within.edge in
      let z = reach_walk M (Cycle M fl) lo _ _ e.into.within in
      let walks : PairWalks S s t bl li lo fl = record {
        u = z.x;
        v = z.y;
        start₁ = st₁;
        start₂ = st₂;
        back_letter = c.letter;
        forward_letter = z.within.letter;
        back = closed_walk M bl s t c.closed;
        between = record {
          s = w.x;
          t = w.y;
          i = w.within.i;
          j = w.within.j;
          u = _;
          v = _;
          from = w.walk;
          edge = e.into.edge;
          conflict = e.conflict;
          to = z.walk;
        };
        forward = closed_walk M fl z.x z.y z.within.closed;
      } in
      record { pair = pair_of_walks S walks; valid = walks→valid S walks; all = sum }
