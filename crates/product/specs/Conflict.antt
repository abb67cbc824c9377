-- Edges on conflicting letters, by the places of their entries; the depths at their ends.
use Rattle.std.specs.Prelude.{ℕ, ◌/◌, ◌%◌, ◌≡◌, true, List, get_or}
use Rattle.mealy.specs.Word.{Has}
use Rattle.coder.specs.declared.inner.tables.Coder.{Coder}
use Rattle.chains.specs.Chain.{is_entry}
use Rattle.product.specs.Depth.{at, endless}

-- The entries at places p and q are an edge on conflicting letters: word i of `conflicts` has the letters that conflict with i.
pub record Conflicting (c : Coder) (conflicts : List ℕ) (p q : ℕ) : Type 0 where
  pub entry₁ : is_entry c.states c.inputs p ≡ true
  pub entry₂ : is_entry c.states c.inputs q ≡ true
  pub output : get_or c.output p 0 ≡ get_or c.output q 0
  pub conflict : Has (get_or conflicts (p % 16) 0) (q % 16)

-- the depth back of the pair that the edge leaves, and the depth forward of the pair that it enters
abbrev pub back_of : List (List ℕ) → ℕ → ℕ → ℕ
back_of backs p q = at backs (p / 16) (q / 16)

abbrev pub forward_of : List ℕ → List (List ℕ) → ℕ → ℕ → ℕ
forward_of next forwards p q = at forwards (get_or next p 0) (get_or next q 0)

-- both are endless
pub record BothEndless (next : List ℕ) (backs forwards : List (List ℕ)) (p q : ℕ) : Type 0 where
  pub back_endless : back_of backs p q ≡ endless
  pub forward_endless : forward_of next forwards p q ≡ endless

-- a conflicting edge that is endless on both sides
pub record EndlessConflict (c : Coder) (conflicts : List ℕ) (backs forwards : List (List ℕ)) (p q : ℕ) : Type 0 where
  pub edge : Conflicting c conflicts p q
  pub ends : BothEndless c.next backs forwards p q
