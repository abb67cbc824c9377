-- Damage does not travel.
use mathlib.Core.Path.{◌≡◌}
use mathlib.Core.List.{List, [], ◌++◌, append_assoc}
use Prim.Native.Nat.{ℕ, ◌+◌, ◌≤◌, ◌<◌}
use native.Mathlib.Omega.{arith}
use lib.ListN.{length, get_or, take, drop}
use Rattle.fitting.proofs.Answers.{right_byte_unique}
use Rattle.values.specs.Window.{size}
use Rattle.values.specs.declared.Window.{Window}
use Rattle.decoder.specs.Window.{window_setting}
use Rattle.decoder.specs.Places.{ByteAt}
use Rattle.theorems_damage.specs.Change.{Change, sent_of, received_of, sent, received, Keeps, InPlace, Each, KeptFrom}
use Rattle.theorems_damage.specs.Damage.{Calls, StringDecoded, StringDecodedFromC, WindowKept, SettledKept, Shifted}
use Rattle.theorems_damage.specs.Damage.{AsUndamaged, Undamaged, DamageDoesNotTravel}
use Rattle.theorems_damage.proofs.Changes.{length_string, in_place, each_map, length_sent, length_received}
use Rattle.theorems_damage.proofs.Changes.{SamePart, same_part, kept_behind, kept_ahead, each_at, unaltered_at}
use Rattle.theorems_damage.proofs.Bytes.{RightCalls, own_call, call_from_C, decoded, decoded_from_C}
use Rattle.theorems_damage.proofs.NotRefused.{not_refused, not_refused_from_C}

-- the right byte for the same letters at another place, and in another string
moved :
    (f : List ℕ) (w : Window) (letters letters' : List ℕ) (k k' v : ℕ) →
    take (size w) (drop k' letters') ≡ take (size w) (drop k letters) → ByteAt f letters' w k' v → ByteAt f letters w k v
moved f w letters letters' k k' v e h = rw e at h

module _ (f : List ℕ) (w : Window) (D : Calls) (right : RightCalls f w D) where
  -- the string received has at k' the byte that is right at k for the string sent
  pub received_byte :
      (cs : List Change) (k k' : ℕ) → SamePart cs (size w) k k' → (v : ℕ) → ByteAt f (sent cs) w k v → (count : ℕ) (after : List ℕ) →
      D (received cs) count after → (k' < count) × (get_or after k' 0 ≡ v)
  received_byte cs k k' h v byte count after call =
      let r = right (received cs) count after call in
      let l : k' < count = omega (arith, r.all, h.inside') in (
        l,
        right_byte_unique (window_setting f w) (take (size w) (drop k (sent cs))) w.before
            (moved f w (sent cs) (received cs) k k' (get_or after k' 0) h.same (r.each k' l)) byte,
      )

  same_byte : (cs : List Change) (k k' : ℕ) → SamePart cs (size w) k k' → AsUndamaged D cs k k'
  same_byte cs k k' h count count' after after' call call' =
      let r = right (sent cs) count after call in
      let l : k < count = omega (arith, r.all, h.inside) in
      let z = received_byte cs k k' h (get_or after k 0) (r.each k l) count' after' call' in
      record { written = omega arith; written' = omega (arith, z.0); same = z.1 }

-- ---- where the letters of a window were kept

module _ (w : Window) where
  pub altered_kept : (cs : List Change) → Each InPlace cs → (k : ℕ) → WindowKept cs w k → KeptFrom cs (size w) k k
  altered_kept cs places k keeps =
      kept_behind [] cs k (size w) k k (omega arith) places (λ i l m. keeps i l (omega arith)) (omega arith) (omega arith)

  pub unsettled_kept :
      (front rest : List Change) → Each InPlace rest → (j : ℕ) → WindowKept rest w j →
      Shifted (λ cs k k'. KeptFrom cs (size w) k k') front rest j
  unsettled_kept front rest places j keeps =
      kept_behind front rest j (size w) _ _ (omega arith) places (λ i l m. keeps i l (omega arith)) (omega arith) (omega arith)

  -- a window with its settle count ahead of it
  pub settled_window : (cs : List Change) (j : ℕ) → SettledKept cs w j → WindowKept cs w j
  settled_window cs j keeps i l m = keeps.kept i (omega arith) m

  each_window : (cs : List Change) → Each Keeps cs → (k : ℕ) → k + size w ≤ length cs → WindowKept cs w k
  each_window cs keeps k l i m n = each_at cs keeps i (omega arith)

  ahead_kept :
      (front rest : List Change) → Each Keeps front → (k : ℕ) → k + size w ≤ length front → KeptFrom (front ++ rest) (size w) k k
  ahead_kept front rest keeps k l =
      kept_ahead front rest (size w) k k (altered_kept front (each_map in_place front keeps) k (each_window front keeps k l))

  behind_kept :
      (front cut rest : List Change) → Each Keeps front → Each Keeps rest → (j : ℕ) → j + size w ≤ length rest →
      KeptFrom (front ++ (cut ++ rest)) (size w) (length front + length (sent cut) + j) (length front + length (received cut) + j)
  behind_kept front cut rest keeps keeps' j l =
      let places = each_map in_place front keeps in
      rw (← (append_assoc front cut rest))
      (kept_behind (front ++ cut) rest j (size w) _ _ (omega arith) (each_map in_place rest keeps') (each_window rest keeps' j l)
      (omega (arith, length_string sent_of front cut, length_sent front places))
      (omega (arith, length_string received_of front cut, length_received front places)))

-- ---- for all calls that decode rightly

undamaged : (f : List ℕ) (w : Window) (D : Calls) → RightCalls f w D → Undamaged w D
undamaged f w D right = record {
  altered = λ cs places k keeps. at cs k k (altered_kept w cs places k keeps);
  lost_or_added = λ front rest places j keeps. after_last front rest places j (settled_window w rest j keeps);
  unsettled = after_last;
  anywhere = at;
  ahead = λ front cut rest keeps k l. at (front ++ (cut ++ rest)) k k (ahead_kept w front (cut ++ rest) keeps k l);
  behind = λ front cut rest keeps keeps' j l. at (front ++ (cut ++ rest)) _ _ (behind_kept w front cut rest keeps keeps' j l);
}
  where
    at : (cs : List Change) (k k' : ℕ) → KeptFrom cs (size w) k k' → AsUndamaged D cs k k'
    at cs k k' h = same_byte f w D right cs k k' (same_part cs (size w) k k' h)

    after_last : (front rest : List Change) → Each InPlace rest → (j : ℕ) → WindowKept rest w j → Shifted (AsUndamaged D) front rest j
    after_last front rest places j keeps = at (front ++ rest) _ _ (unsettled_kept w front rest places j keeps)

pub damage_does_not_travel : DamageDoesNotTravel
damage_does_not_travel = record {
  own = λ f w. undamaged f w (StringDecoded f w) (decoded f w);
  from_C = λ f w. undamaged f w (StringDecodedFromC f w) (decoded_from_C f w);
  accepted = λ f w cs count after d below before' r' after' room.
      not_refused f w cs (length d.before) (own_call f w (sent cs) count after d).accepted below before' room r' after';
  accepted_from_C = λ f w cs count after d below before' result result' r' after' room.
      let none = (call_from_C f w (sent cs) count after d).accepted in
      not_refused_from_C f w cs (length d.before) none below before' room result result' r' after';
  every_place = λ w cs places k l none i m n.
      unaltered_at cs places i (omega (arith, length_sent cs places)) (none i m n);
  every_place_behind = λ w front rest places j inside l none.
      let long = length_string sent_of front rest in
      record {
        inside = omega arith;
        kept = λ i m n. unaltered_at rest places i (omega (arith, length_sent rest places)) (none i (omega arith) n);
      };
}
