-- How far a window was possible: how many of its letters, from the first on, some run can produce.
use Rattle.std.specs.Prelude.{ℕ, suc, ◌+◌, ◌<◌, ◌≡◌, List, length, take, drop}
use Rattle.mealy.specs.Machine.{Machine, outs, Letters}
use Rattle.mealy.specs.Reachable.{Reachable}
use Rattle.mealy.specs.Setting.{Setting}

-- some run from a start state gives the outputs w
pub record SomeRun (S : Setting) (w : List ℕ) : Type 0 where
  pub s : ℕ
  pub xs : List ℕ
  pub start : S.Start s
  pub letters : Letters S.M.inputs xs
  pub outputs : outs S.M s xs ≡ w

-- no run does
abbrev pub NoRun : Setting → List ℕ → Type 0
NoRun S w = SomeRun S w → ⊥

-- Document 02, 9/13, second sentence, of a window w that no run gives: some run produces its first k letters, and no run one letter more.
-- So k is the number of letters, from its first on, that some run can produce, and at most that of all its letters but one.
pub record HowFar (S : Setting) (w : List ℕ) (k : ℕ) : Type 0 where
  pub inside : k < length w
  pub possible : SomeRun S (take k w)
  pub no_further : NoRun S (take (suc k) w)

-- The first of these for a coder's window with settle count p, said with no setting (6/13, third sentence): some run from a reachable state
-- has the outputs w from place p on, the ones before being unseen. `some_run↔after` of proofs/Unseen.antt shows that the two agree.
pub record SomeRunAfter (M : Machine) (p : ℕ) (w : List ℕ) : Type 0 where
  pub s : ℕ
  pub xs : List ℕ
  pub reachable : Reachable M s
  pub letters : Letters M.inputs xs
  pub count : length xs ≡ p + length w
  pub outputs : drop p (outs M s xs) ≡ w
