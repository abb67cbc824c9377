-- Spare states: other ones, or other entries of these, leave a coder's settings as they are; coders without them.
use mathlib.Core.Path.{sym, ◌∙◌}
use mathlib.Core.Logic.{◌≢◌}
use Prim.Native.Nat.{ℕ, ◌<◌}
use Rattle.mealy.specs.Machine.{Machine, Total}
use Rattle.mealy.specs.Reachable.{Reachable, WithSpare}
use Rattle.mealy.specs.Setting.{Closed, Same, from_reachable, after_letters, any_state}
use Rattle.mealy.proofs.ReachableStates.{reachable_zero, reachable_closed}
use Rattle.mealy.proofs.SameSettings.{starting, letters_same, end_same, same_sym, same_trans, same_starts}
use Rattle.mealy.proofs.StartStates.{start_zero, start_reachable, after_closed, after_bounded}

module _ {M M' : Machine} (h : WithSpare M M') where
  -- from reachable states of M the machine M' runs as M
  runs_as :
      {A : ℕ → Type 0} → Closed (starting M (λ i j. i ≢ j) A) → ((s : ℕ) → A s → Reachable M s) →
      Same (starting M (λ i j. i ≢ j) A) (starting M' (λ i j. i ≢ j) A)
  runs_as closed reachable =
      record {
        closed = closed;
        inputs = h.inputs;
        start = λ s r. r;
        start' = λ s r. r;
        next = λ s i r. h.next s i (reachable s r);
        out = λ s i r. h.out s i (reachable s r);
        conflict = λ i j l m d. d;
        conflict' = λ i j l m d. d;
      }

  as_reachable : Same (from_reachable M) (starting M' (λ i j. i ≢ j) (Reachable M))
  as_reachable = runs_as (reachable_closed M) (λ s r. r)

  -- the settings of looped pairs
  pub same_with_spare : Same (from_reachable M) (from_reachable M')
  same_with_spare =
      same_trans as_reachable
      (same_starts M' (λ i j. i ≢ j) (same_sym as_reachable).closed
      (λ s r.
      record {
        xs = r.xs;
        letters = letters_same as_reachable r.xs r.letters;
        ends = sym (end_same as_reachable 0 r.xs (reachable_zero M) r.letters) ∙ r.ends;
      })
      (λ s r.
      let l = letters_same (same_sym as_reachable) r.xs r.letters in
      record { xs = r.xs; letters = l; ends = end_same as_reachable 0 r.xs (reachable_zero M) l ∙ r.ends }))

  -- the settings of windows
  pub windows_with_spare : (p : ℕ) → Same (after_letters M p) (after_letters M' p)
  windows_with_spare p =
      let e = runs_as (after_closed M p) (start_reachable M p) in
      same_trans e
      (same_starts M' (λ i j. i ≢ j) (same_sym e).closed
      (λ s r.
      record {
        from = r.from;
        reachable = same_with_spare.start r.from r.reachable;
        xs = r.xs;
        letters = letters_same as_reachable r.xs r.letters;
        count = r.count;
        ends = sym (end_same as_reachable r.from r.xs r.reachable r.letters) ∙ r.ends;
      })
      (λ s r.
      let l = letters_same (same_sym as_reachable) r.xs r.letters in
      let a = same_with_spare.start' r.from r.reachable in
      record {
        from = r.from;
        reachable = a;
        xs = r.xs;
        letters = l;
        count = r.count;
        ends = end_same as_reachable r.from r.xs a l ∙ r.ends;
      }))

-- where every state is reachable and no letter is for settling, a run starts in any state, as in document 01
pub all_reachable :
    (M : Machine) → Total M → 0 < M.states → ((s : ℕ) → s < M.states → Reachable M s) → Same (after_letters M 0) (any_state M)
all_reachable M total some all =
    same_starts M (λ i j. i ≢ j) (after_closed M 0) (after_bounded M total some 0) (λ s l. (start_zero M s).1 (all s l))
