-- Sets of states along the letters, by the words that hold them.
use mathlib.Core.Path.{◌≡◌}
use mathlib.Core.List.{List, [], ◌∷◌}
use Prim.Native.Nat.{ℕ, suc, ◌+◌, ◌<◌, ◌≤◌}
use native.Mathlib.Numerals.{add-one}
use native.Mathlib.Omega.{arith}
use lib.ListN.{length, get_or, drop, drop_of_length-le}
use lib.Seq.{drop-cons}
use Rattle.mealy.specs.Word.{Has, Holds}
use Rattle.mealy.specs.Image.{Image, Transitions, Following, FarIn}
use Rattle.mealy.proofs.Words.{holds_map, holds_none, holds_empty, has_empty}
use Rattle.mealy.proofs.Members.{holds_member, holds_itself}
use Rattle.mealy.proofs.Images.{following_same, following_none}
use Rattle.mealy.proofs.Possible.{far_none, far_later, far_states}

-- the first k letters of w lead from `set` to `to`: what follows the others from there follows all of them
pub record Followed (R : Transitions) (w : List ℕ) (set k to : ℕ) : Type 0 where
  pub bound : to < 65536
  pub rest : (u : ℕ) → Holds (Following R (Has to) (drop k w)) u → Holds (Following R (Has set) w) u

pub followed_none : {R : Transitions} {w : List ℕ} {set : ℕ} → set < 65536 → Followed R w set 0 set
followed_none l = record { bound = l; rest = λ u h. h }

module _ {R : Transitions} {w : List ℕ} {set k to : ℕ} (a : Followed R w set k to) where
  pub followed_more :
      {o to' : ℕ} → k < length w → o ≡ get_or w k 0 → Holds (Image (R o) (Has to)) to' → Followed R w set (k + 1) to'
  followed_more {o} {to'} l e h =
      record {
        bound = h.bound;
        rest = λ u f.
            a.rest u
            (rw (drop-cons w k 0 l, ← e)
            (holds_map
            (following_same R (drop (suc k) w) {P = Has to'} {P' = Image (R o) (Has to)} (holds_member h))
            (following_same R (drop (suc k) w) {P = Image (R o) (Has to)} {P' = Has to'} h.has)
            (rw add-one at f)));
      }

  -- none is left, or no state is
  pub followed_all : length w ≤ k → Holds (Following R (Has set) w) to
  followed_all l = a.rest to (rw (drop_of_length-le w l) (holds_itself a.bound))

  pub followed_empty : to ≡ 0 → Holds (Following R (Has set) w) 0
  followed_empty e = a.rest 0 (holds_none (following_none R (drop k w) (λ s h. has_empty s (rw e at h))))

-- ---- how far letters lead

-- the first k letters of w lead from `set` to `to`, which is not empty: as far as the others lead from there, and k letters more
pub record StillLeads (R : Transitions) (w : List ℕ) (set k to : ℕ) : Type 0 where
  pub bound : to < 65536
  pub some : to ≡ 0 → ⊥
  pub leads : (n m : ℕ) → k + n ≡ m → FarIn R (Has to) (drop k w) n → FarIn R (Has set) w m

pub still_none : {R : Transitions} {w : List ℕ} {set : ℕ} → set < 65536 → (set ≡ 0 → ⊥) → StillLeads R w set 0 set
still_none l some = record { bound = l; some = some; leads = λ n m e h. let q : n ≡ m = omega arith in rw q at h }

module _ {R : Transitions} {w : List ℕ} {set k to : ℕ} (a : StillLeads R w set k to) where
  module _ {o to' : ℕ} (l : k < length w) (e : o ≡ get_or w k 0) (h : Holds (Image (R o) (Has to)) to') where
    -- the next letter leads to some state
    pub still_more : (to' ≡ 0 → ⊥) → StillLeads R w set (k + 1) to'
    still_more some =
        record {
          bound = h.bound;
          some = some;
          leads = λ n m q f.
              a.leads (suc n) m (omega arith)
              (rw (drop-cons w k 0 l, ← e) (far_later (far_states R (drop (suc k) w) (holds_member h) h.has (rw add-one at f))));
        }

    -- or to none
    pub still_stops : to' ≡ 0 → FarIn R (Has set) w k
    still_stops z =
        a.leads 0 k (omega arith)
        (rw (drop-cons w k 0 l, ← e) (far_none R (o ∷ drop (suc k) w) to a.bound a.some (λ m r. holds_empty h z r.t r.is)))

  -- none is left
  pub still_all : k ≡ length w → FarIn R (Has set) w (length w)
  still_all e = let l : length w ≤ k = omega arith in a.leads 0 (length w) (omega arith) (rw (drop_of_length-le w l) (far_none R [] to a.bound a.some (λ m r. absurd (omega arith))))
