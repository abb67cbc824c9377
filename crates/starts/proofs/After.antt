-- The start states of a settle count, one letter after the other.
use mathlib.Core.Path.{◌≡◌}
use mathlib.Core.List.{List}
use Prim.Native.Nat.{ℕ, suc, ◌+◌, ◌≤◌, ◌<◌}
use native.Mathlib.Numerals.{add-one}
use Rattle.mealy.specs.Machine.{Machine, Total}
use Rattle.mealy.specs.Reachable.{Reachable, StartAfter, EntryTo}
use Rattle.mealy.specs.Image.{Image}
use Rattle.mealy.specs.Word.{Has, Holds}
use Rattle.mealy.proofs.Images.{image_within}
use Rattle.mealy.proofs.Members.{holds_member}
use Rattle.mealy.proofs.Words.{holds_map}
use Rattle.mealy.proofs.StartStates.{start_zero, start_down, start_suc, start_always, after_bounded}
use Rattle.fitting.specs.Tables.{Leads}
use Rattle.starts.specs.Steps.{StepsOf, AfterOf}
use Rattle.starts.proofs.Closure.{by_words}

-- none: the reachable states
pub after_none : {M : Machine} {u : ℕ} → Holds (Reachable M) u → Holds (StartAfter M 0) u
after_none {M} = holds_map (λ s. (start_zero M s).1) (λ s. (start_zero M s).0)

-- one more: what the entries lead to
pub after_more :
    {M : Machine} (p : ℕ) {u v : ℕ} → Holds (StartAfter M p) u → Holds (Image (EntryTo M) (Has u)) v → Holds (StartAfter M (suc p)) v
after_more {M} p {u} a =
    holds_map
    (λ s h.
    (start_suc M p s).1
    (image_within {Q = EntryTo M} {Q' = EntryTo M} {P = Has u} {P' = StartAfter M p} (λ s t e. e) (holds_member a) s h))
    (λ s h.
    image_within {Q = EntryTo M} {Q' = EntryTo M} {P = StartAfter M p} {P' = Has u} (λ s t e. e) a.has s ((start_suc M p s).0 h))

-- where it changes nothing, these are the start states of any larger settle count
after_same :
    {M : Machine} (p q : ℕ) {u v : ℕ} → p ≤ q → Holds (StartAfter M p) u → Holds (StartAfter M (suc p)) v → v ≡ u → Holds (StartAfter M q) u
after_same {M} p q l a b e =
    let settled : (s : ℕ) → StartAfter M p s → StartAfter M (suc p) s = λ s h. holds_member b s (rw e (a.has s h)) in
    holds_map (λ s h. start_always M p settled s h q) (λ s. start_down M p q s l) a

-- ---- the loop, turn by turn, for any machine with these steps

module _ {words : List ℕ} {reachable : ℕ} where
  pub settle_first : AfterOf words reachable 0 reachable
  settle_first M some total steps h = after_none h

  module _ (k : ℕ) {u : ℕ} (a : AfterOf words reachable k u) {v : ℕ} (b : Holds (Image (Leads words 0) (Has u)) v) where
    by_steps :
        (M : Machine) → 0 < M.states → Total M → StepsOf M words → Holds (Reachable M) reachable → Holds (Image (EntryTo M) (Has u)) v
    by_steps M some total steps h =
        by_words steps u (λ s q. after_bounded M total some k s (holds_member (a M some total steps h) s q)) b

    pub settle_more : AfterOf words reachable (k + 1) v
    settle_more M some total steps h = rw (add-one k) (after_more k (a M some total steps h) (by_steps M some total steps h))

    pub settle_same : v ≡ u → (p : ℕ) → k ≤ p → AfterOf words reachable p u
    settle_same e p l M some total steps h =
        after_same k p l (a M some total steps h) (after_more k (a M some total steps h) (by_steps M some total steps h)) e
