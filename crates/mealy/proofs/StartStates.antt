-- The start states of a settle count: with 0 the reachable states, each further letter takes the image; they fall, are closed and never
-- empty, and from N - 1 letters on they no longer change.
use mathlib.Core.Path.{◌≡◌, refl, ap, ◌∙◌}
use mathlib.Core.Logic.{◌↔◌, ◌≢◌}
use mathlib.Core.List.{List, [], ◌∷◌, ◌++◌}
use Prim.Native.Nat.{ℕ, zero, suc, ◌+◌, ◌≤◌, ◌<◌}
use native.Mathlib.Omega.{arith}
use native.Mathlib.Decide.{map_dec, le_ind}
use lib.ListN.{length, replicate, take, length-append, length-replicate}
use lib.Seq.{length-take-le}
use Rattle.mealy.specs.Machine.{Machine, end, Letters, Total}
use Rattle.mealy.specs.Reachable.{Reachable, StartAfter, EntryTo}
use Rattle.mealy.specs.Setting.{Closed, Bounded, Same, from_reachable, after_letters}
use Rattle.mealy.specs.Image.{Image}
use Rattle.mealy.proofs.Levels.{down, always}
use Rattle.mealy.proofs.Sums.{stops_shrinking}
use Rattle.mealy.proofs.RunParts.{letters_take}
use Rattle.mealy.proofs.Images.{image_within}
use Rattle.mealy.proofs.SameSettings.{same_starts}
use Rattle.mealy.proofs.ReachableStates.{end_append, letters_both, dec_image, reachable_zero, reachable_along, reachable_closed, reachable_bounded, dec_reachable}

-- a run of p + 1 letters from r to t, split before its last letter
record Last (M : Machine) (r p t : ℕ) : Type 0 where
  xs : List ℕ
  i : ℕ
  letters : Letters M.inputs xs
  count : length xs ≡ p
  below : i < M.inputs
  ends : M.next (end M r xs) i ≡ t

last : (M : Machine) (p r t : ℕ) (xs : List ℕ) → Letters M.inputs xs → length xs ≡ suc p → end M r xs ≡ t → Last M r p t
last M p r t [] l n e = absurd (omega arith)
last M zero r t (x ∷ []) l n e = record { xs = []; i = x; letters = tt; count = refl; below = l.0; ends = e }
last M zero r t (x ∷ (y ∷ xs)) l n e = absurd (omega arith)
last M (suc p) r t (x ∷ xs) l n e =
    let z = last M p (M.next r x) t xs l.1 (omega arith) e in
    record { xs = x ∷ z.xs; i = z.i; letters = (l.0, z.letters); count = ap suc z.count; below = z.below; ends = z.ends }

letters_zero : (n k : ℕ) → 0 < n → Letters n (replicate k 0)
letters_zero n zero l = tt
letters_zero n (suc k) l = (l, letters_zero n k l)

module _ (M : Machine) where
  -- ---- with 0 the reachable states

  pub start_reachable : (p s : ℕ) → StartAfter M p s → Reachable M s
  start_reachable p s h = rw h.ends at (reachable_along M h.from h.xs h.reachable h.letters)

  pub start_zero : (s : ℕ) → StartAfter M 0 s ↔ Reachable M s
  start_zero s = (start_reachable 0 s, λ r. record { from = s; reachable = r; xs = []; letters = tt; count = refl; ends = refl })

  pub same_zero : Same (from_reachable M) (after_letters M 0)
  same_zero = same_starts M (λ i j. i ≢ j) (reachable_closed M) (λ s. (start_zero s).1) (λ s. (start_zero s).0)

  -- ---- further letters

  pub start_along :
      (p n s : ℕ) (ys : List ℕ) → StartAfter M p s → Letters M.inputs ys → p + length ys ≡ n → StartAfter M n (end M s ys)
  start_along p n s ys h l e =
      record {
        from = h.from;
        reachable = h.reachable;
        xs = h.xs ++ ys;
        letters = letters_both M.inputs h.xs ys h.letters l;
        count = length-append h.xs ys ∙ omega (arith, h.count);
        ends = end_append M h.from h.xs ys ∙ ap (λ z. end M z ys) h.ends;
      }

  start_step : (p s i : ℕ) → StartAfter M p s → i < M.inputs → StartAfter M (suc p) (M.next s i)
  start_step p s i h l = start_along p (suc p) s (i ∷ []) h (l, tt) (omega arith)

  -- the first of the letters led to a reachable state too
  pub start_fall : (p s : ℕ) → StartAfter M (suc p) s → StartAfter M p s
  start_fall p s h = go h.from h.xs h.reachable h.letters h.count h.ends
    where
      go : (r : ℕ) (xs : List ℕ) → Reachable M r → Letters M.inputs xs → length xs ≡ suc p → end M r xs ≡ s → StartAfter M p s
      go r [] a l n e = absurd (omega arith)
      go r (x ∷ xs) a l n e =
          record {
            from = M.next r x;
            reachable = reachable_closed M r x a l.0;
            xs = xs;
            letters = l.1;
            count = omega arith;
            ends = e;
          }

  pub start_down : (p q s : ℕ) → p ≤ q → StartAfter M q s → StartAfter M p s
  start_down p q s l = down (λ k. StartAfter M k s) (λ k. start_fall k s) l

  -- after p letters or more a run from a reachable state is in a start state
  pub start_take :
      (p k s : ℕ) (xs : List ℕ) → p ≤ k → k ≤ length xs → Reachable M s → Letters M.inputs xs → StartAfter M p (end M s (take k xs))
  start_take p k s xs m n r l =
      start_down p k _ m
      (record { from = s; reachable = r; xs = take k xs; letters = letters_take M.inputs k xs l; count = length-take-le k xs n; ends = refl })

  -- one letter more is one image more
  pub start_suc : (p s : ℕ) → StartAfter M (suc p) s ↔ Image (EntryTo M) (StartAfter M p) s
  start_suc p s = (
    (λ h.
        let z = last M p h.from s h.xs h.letters h.count h.ends in
        record {
          s = end M h.from z.xs;
          from = record { from = h.from; reachable = h.reachable; xs = z.xs; letters = z.letters; count = z.count; ends = refl };
          step = record { x = z.i; letter = z.below; to = z.ends };
        }),
    (λ h. rw h.step.to at (start_step p h.s h.step.x h.from h.step.letter)),
  )

  -- an entry leads from a start state to a start state
  pub after_closed : (p : ℕ) → Closed (after_letters M p)
  after_closed p s i h l = start_fall p (M.next s i) (start_step p s i h l)

  pub start_some : 0 < M.inputs → (p : ℕ) → (s : ℕ) × StartAfter M p s
  start_some l p = (
    end M 0 (replicate p 0),
    record {
      from = 0;
      reachable = reachable_zero M;
      xs = replicate p 0;
      letters = letters_zero M.inputs p l;
      count = length-replicate p 0;
      ends = refl;
    },
  )

  -- a reachable state to which some letters lead back is a start state for every settle count
  pub start_loop :
      (s : ℕ) (ys : List ℕ) → 0 < length ys → Letters M.inputs ys → end M s ys ≡ s → Reachable M s → (p : ℕ) → StartAfter M p s
  start_loop s ys n l e r zero = (start_zero s).1 r
  start_loop s ys n l e r (suc p) =
      let h = start_along p (p + length ys) s ys (start_loop s ys n l e r p) l refl in
      rw e at (start_down (suc p) (p + length ys) (end M s ys) (omega arith) h)

  -- where one letter more changes nothing, no further letter does
  start_keeps :
      (K : ℕ) → ((s : ℕ) → StartAfter M K s → StartAfter M (suc K) s) → (k : ℕ) → K ≤ k → (s : ℕ) → StartAfter M k s →
      StartAfter M (suc k) s
  start_keeps K settled =
      le_ind (λ k. (s : ℕ) → StartAfter M k s → StartAfter M (suc k) s) settled
      (λ k _ f s h.
      (start_suc (suc k) s).1
      (image_within {Q = EntryTo M} {Q' = EntryTo M} {P = StartAfter M k} {P' = StartAfter M (suc k)} (λ s t e. e) f s ((start_suc k s).0 h)))

  pub start_always :
      (K : ℕ) → ((s : ℕ) → StartAfter M K s → StartAfter M (suc K) s) → (s : ℕ) → StartAfter M K s → (p : ℕ) → StartAfter M p s
  start_always K settled s h = always (λ k. StartAfter M k s) (λ k. start_fall k s) K (λ k l. start_keeps K settled k l s) h

  module _ (total : Total M) (some : 0 < M.states) where
    pub after_bounded : (p : ℕ) → Bounded (after_letters M p)
    after_bounded p s h = reachable_bounded M total some s (start_reachable p s h)

    pub dec_start_after : (p s : ℕ) → Dec (StartAfter M p s)
    dec_start_after zero s = map_dec (start_zero s).1 (start_zero s).0 (dec_reachable M total some s)
    dec_start_after (suc p) s =
        map_dec (start_suc p s).1 (start_suc p s).0 (dec_image M (StartAfter M p) (dec_start_after p) (after_bounded p) s)

    -- ---- from N - 1 letters on the start states no longer change

    pub start_unchanged : 0 < M.inputs → (p : ℕ) → M.states ≤ suc p → (s : ℕ) → StartAfter M p s → (q : ℕ) → StartAfter M q s
    start_unchanged inputs p l =
        let z = stops_shrinking M.states (StartAfter M) dec_start_after after_bounded start_fall (start_some inputs) in
        start_always p (start_keeps z.0 z.2 p (omega arith))
