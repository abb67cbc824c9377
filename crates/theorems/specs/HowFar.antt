-- How far a window was possible (document 02, 9/13), over the promise of the call for one window, own and from C.
use Rattle.std.specs.Prelude.{ℕ, suc, ◌+◌, ◌≤◌, ◌≡◌, ◌↔◌, ◌≢◌, List, take, drop}
use Rattle.mealy.specs.HowFar.{SomeRunAfter}
use Rattle.coder.specs.File.{machine_of}
use Rattle.values.specs.Window as values
use Rattle.values.specs.declared.Window.{Window}
use Rattle.fitting.specs.declared.Answer.{Answer}
use Rattle.fitting.specs.declared.Answer.TheVariants.{None}
use Rattle.decoder.specs.Window.{WindowPromise}
use Rattle.decoder_host.specs.Laid.{WindowFromHost}
use Rattle.layout.specs.Layout.{field_at}
use Rattle.std.specs.Prelude.{Ok}

-- Some run can produce these letters, seen as a window with the settle count of w sees them: it begins so many letters ahead in a reachable
-- state, and what it puts out there is unseen.
abbrev pub CanProduce : List ℕ → Window → List ℕ → Type 0
CanProduce f w letters = SomeRunAfter (machine_of f) w.settle letters

-- Second sentence: k of the received letters, from the first on, some run can produce; with one more no run can, nor with any more; and k
-- is 0 to b + a.
pub record CountOf (f : List ℕ) (w : Window) (received : List ℕ) (k : ℕ) : Type 0 where
  pub high : k ≤ w.before + w.after
  pub possible : CanProduce f w (take k received)
  pub no_further : CanProduce f w (take (suc k) received) → ⊥
  pub longest : (m : ℕ) → CanProduce f w (take m received) → m ≤ k

pub record CountsOfNone : Type 0 where
  -- what "none" carries, and that no other number is such a count
  pub carried :
      (f : List ℕ) (w : Window) (received : List ℕ) (k : ℕ) → WindowPromise f w received (Ok (None k)) → CountOf f w received k
  pub one : (f : List ℕ) (w : Window) (received : List ℕ) (k j : ℕ) → CountOf f w received k → CountOf f w received j → k ≡ j
  -- the answer is "none" with some count exactly where no run can produce all letters
  pub exactly :
      (f : List ℕ) (w : Window) (received : List ℕ) (v : Answer) → WindowPromise f w received (Ok v) →
      ((k : ℕ) × (v ≡ None k)) ↔ (CanProduce f w received → ⊥)
  -- whichever of the letters is the present one
  pub any_place :
      (f received : List ℕ) (p b a b' a' : ℕ) (k : ℕ) (v : Answer) → WindowPromise f (values.window b a p) received (Ok (None k)) →
      WindowPromise f (values.window b' a' p) received (Ok v) → v ≡ None k
  -- from C: the call returned 0; where field 0 is 254 the host reads the count from field 1, and the other fields stay; where it is not,
  -- all but field 0 stay
  pub carried_from_C :
      (f : List ℕ) (w : Window) (received result result' : List ℕ) → WindowFromHost f w received result 0 result' →
      field_at result' 0 ≡ 254 → CountOf f w received (field_at result' 1) × (drop 16 result' ≡ drop 16 result)
  pub others_from_C :
      (f : List ℕ) (w : Window) (received result result' : List ℕ) → WindowFromHost f w received result 0 result' →
      field_at result' 0 ≢ 254 → drop 8 result' ≡ drop 8 result
