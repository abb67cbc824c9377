-- Following the two runs of a pair over some of its places.
use Rattle.std.specs.Prelude.{ℕ, ◌+◌, ◌*◌, ◌≤◌, ◌<◌, ◌≡◌, Bool, List, Option, MatchOption, length}
use Rattle.mealy.specs.Machine.{Machine, Letters}
use Rattle.mealy.specs.Setting.{worded}
use Rattle.mealy.specs.LoopedPair.{LoopedPair, letters, Valid}
use Rattle.mealy.specs.Walk.{Part, Parts}
use Rattle.coder.specs.Refusal.{Judges}
use Rattle.coder.specs.Table.{machine_of_coder, Sound}
use Rattle.coder.specs.declared.inner.tables.Coder.{Coder}

-- The tables are those of the coder c, and the bytes are those of the pair p and input letters of c.
pub record PairTables (c : Coder) (p : LoopedPair) (next output bytes : List ℕ) : Type 0 where
  pub sound : Sound c
  pub next_is : c.next ≡ next
  pub output_is : c.output ≡ output
  pub bytes_are : p.bytes ≡ bytes
  pub below : Letters c.inputs bytes

-- what is asked to follow n letters from `place` on, from the states s and t
pub record FollowAsked (next output bytes : List ℕ) (s t place n : ℕ) : Type 0 where
  pub c : Coder
  pub p : LoopedPair
  pub tables : PairTables c p next output bytes
  pub first : s < c.states
  pub second : t < c.states
  pub within : 2 * (place + n) ≤ length bytes

-- These letters are a walk to the two states of r, or they are no walk at all.
abbrev pub Follows : Machine → LoopedPair → ℕ → ℕ → ℕ → ℕ → Option (ℕ × ℕ) → Type 0
Follows M p s t place n r = MatchOption r ((u v : ℕ) → Part M p place n s t u v → ⊥) (λ w. Part M p place n s t w.0 w.1)

-- The tables are those of the coder c, and the pair is one that is not refused for c.
pub record CheckOf (c : Coder) (next output : List ℕ) (p : LoopedPair) : Type 0 where
  pub tables : PairTables c p next output p.bytes
  pub first : p.s < c.states
  pub second : p.t < c.states
  pub size : length p.bytes ≡ 2 * letters p

pub record CheckAsked (next output : List ℕ) (p : LoopedPair) : Type 0 where
  pub c : Coder
  pub of : CheckOf c next output p

-- r says, for each coder whose tables these are, whether the pair has its three parts, and whether it is valid in the setting of the
-- words.
abbrev pub JudgesParts : List ℕ → List ℕ → LoopedPair → Bool → Type 0
JudgesParts next output p r = (c : Coder) → CheckOf c next output p → Judges (Parts (machine_of_coder c) p) r

abbrev pub JudgesValid : List ℕ → List ℕ → ℕ → List ℕ → LoopedPair → Bool → Type 0
JudgesValid next output starts conflicts p r =
    (c : Coder) → CheckOf c next output p → Judges (Valid (worded (machine_of_coder c) starts conflicts) p) r
