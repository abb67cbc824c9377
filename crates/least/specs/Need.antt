-- The letters before that each lookahead needs, by the depths of the conflicting edges.
use Rattle.std.specs.Prelude.{cond, ltb, ℕ, ◌≤◌, ◌<◌, ◌≡◌, Bool, true, false, List, length, get_or, set, Option, MatchOption}
use Rattle.mealy.specs.Order.{Relation}
use Rattle.coder.specs.Limits.{max_side}
use Rattle.coder.specs.Table.{Sound}
use Rattle.coder.specs.declared.inner.tables.Coder.{Coder}
use Rattle.chains.specs.Chain.{is_entry, Chained}
use Rattle.chains.specs.declared.inner.Chain.{Chain}
use Rattle.product.specs.Depth.{endless}
use Rattle.product.specs.Conflict.{Conflicting, back_of, forward_of, BothEndless, EndlessConflict}
use Rattle.values.specs.declared.Window.{Window}

-- An edge that was counted: the table has at its depth forward at least its depth back, and it is not endless on both sides.
pub record Counted (c : Coder) (backs forwards : List (List ℕ)) (worst : List ℕ) (p q : ℕ) : Type 0 where
  pub least : back_of backs p q ≤ get_or worst (forward_of c.next forwards p q) 0
  pub finite : BothEndless c.next backs forwards p q → ⊥

-- what the table has was counted at some edge
pub record CountedAt (c : Coder) (conflicts : List ℕ) (backs forwards : List (List ℕ)) (f x : ℕ) : Type 0 where
  pub p : ℕ
  pub q : ℕ
  pub conflicting : Conflicting c conflicts p q
  pub forward_is : forward_of c.next forwards p q ≡ f
  pub back_is : back_of backs p q ≡ x

abbrev pub EachCounted : Coder → List ℕ → List (List ℕ) → List (List ℕ) → List ℕ → Type 0
EachCounted c conflicts backs forwards worst = (f : ℕ) → 0 < get_or worst f 0 → CountedAt c conflicts backs forwards f (get_or worst f 0)

-- the table with x taken in at f
abbrev pub raised : List ℕ → ℕ → ℕ → List ℕ
raised worst f x = cond (ltb (get_or worst f 0) x) (set worst f x) worst

-- `later` has at least what `worst` has
abbrev pub Grows : List ℕ → List ℕ → Type 0
Grows worst later = (f : ℕ) → get_or worst f 0 ≤ get_or later f 0

-- ---- what the functions ask and do

pub record CountAsked (next : List ℕ) (p q : ℕ) : Type 0 where
  pub first : p < 256
  pub second : q < 256
  pub next₁ : get_or next p 0 < 16
  pub next₂ : get_or next q 0 < 16

pub record CountedOne (next : List ℕ) (backs forwards : List (List ℕ)) (p q : ℕ) (before : List ℕ) (r : Bool) (after : List ℕ) : Type 0 where
  pub both : r ≡ true → BothEndless next backs forwards p q
  pub finite : r ≡ false → BothEndless next backs forwards p q → ⊥
  pub raises : r ≡ false → after ≡ raised before (forward_of next forwards p q) (back_of backs p q)
  pub stays : r ≡ true → after ≡ before
  pub high : forward_of next forwards p q < 256

-- the entry at place p of a coder whose entries are chained by output letter
pub record RowOf (c : Coder) (chain : Chain) (p : ℕ) : Type 0 where
  pub sound : Sound c
  pub chained : Chained c.output c.states c.inputs chain
  pub entry : is_entry c.states c.inputs p ≡ true

pub record RowDone (c : Coder) (conflicts : List ℕ) (backs forwards : List (List ℕ))
    (p : ℕ) (before : List ℕ) (r : Bool) (after : List ℕ) : Type 0 where
  pub size : length after ≡ 256
  pub grows : Grows before after
  pub sources : EachCounted c conflicts backs forwards before → EachCounted c conflicts backs forwards after
  pub none : r ≡ false → (q : ℕ) → Conflicting c conflicts p q → Counted c backs forwards after p q
  pub some : r ≡ true → (q : ℕ) × EndlessConflict c conflicts backs forwards p q

-- all conflicting edges are counted in a table that has nothing else, or one is endless on both sides
pub record AllCounted (c : Coder) (conflicts : List ℕ) (backs forwards : List (List ℕ)) (worst : List ℕ) : Type 0 where
  pub sources : EachCounted c conflicts backs forwards worst
  pub counted : (p q : ℕ) → Conflicting c conflicts p q → Counted c backs forwards worst p q

abbrev pub ConflictsDone : Coder → List ℕ → List (List ℕ) → List (List ℕ) → Option (List ℕ) → Type 0
ConflictsDone c conflicts backs forwards r =
    MatchOption r ((p : ℕ) × (q : ℕ) × EndlessConflict c conflicts backs forwards p q) (AllCounted c conflicts backs forwards)

-- x is the most that the table has past place a
pub record MostPast (worst : List ℕ) (a x : ℕ) : Type 0 where
  pub upper : (f : ℕ) → a < f → f < 256 → get_or worst f 0 ≤ x
  pub source : 0 < x → (f : ℕ) × (a < f) × (f < 256) × (get_or worst f 0 ≡ x)

-- For each lookahead the letters before that it needs: the greatest depth back of a conflicting edge to a pair that stands at that
-- level forward; `endless` where no number of letters is enough.
abbrev pub Needs : List ℕ → List ℕ → Type 0
Needs worst need = (a : ℕ) → a < endless → MostPast worst a (get_or need a 0)

-- the window is a candidate with the settle count p, and comes in R no later than any other candidate of lookahead up to max_side
pub record Chosen (R : Relation) (p : ℕ) (need : List ℕ) (w : Window) : Type 0 where
  pub settle : w.settle ≡ p
  pub lookahead : w.after ≤ max_side
  pub finite : get_or need w.after 0 < endless
  pub is : w.before ≡ get_or need w.after 0
  pub first : (a : ℕ) → a ≤ max_side → get_or need a 0 < endless → R w.before w.after (get_or need a 0) a
