-- Edges of the product machine as pairs of entries, in either direction.
use Rattle.std.specs.Prelude.{ℕ, ◌≡◌, true, false, List, get_or}
use Rattle.mealy.specs.Product.{Direction, back, forward}
use Rattle.coder.specs.Table.{Sound}
use Rattle.coder.specs.declared.inner.tables.Coder.{Coder}
use Rattle.chains.specs.Parts.{place_parts}
use Rattle.chains.specs.Chain.{is_entry, Chained}
use Rattle.chains.specs.declared.inner.Chain.{Chain}

-- the state of the entry at each place
abbrev pub sources : List ℕ
sources = place_parts false

-- The ends of an entry: followed forward it leads from its state, the near end, to its next state, the far end; followed back it
-- is the other way round.
abbrev pub near_ends : Direction → Coder → List ℕ
near_ends back c = c.next
near_ends forward c = sources

abbrev pub far_ends : Direction → Coder → List ℕ
far_ends back c = sources
far_ends forward c = c.next

abbrev pub near : Direction → Coder → ℕ → ℕ
near d c p = get_or (near_ends d c) p 0

abbrev pub far : Direction → Coder → ℕ → ℕ
far d c p = get_or (far_ends d c) p 0

-- the entries at places p and q are an edge of the pair (u, v)
pub record Joins (c : Coder) (d : Direction) (u v p q : ℕ) : Type 0 where
  pub entry₁ : is_entry c.states c.inputs p ≡ true
  pub entry₂ : is_entry c.states c.inputs q ≡ true
  pub near₁ : near d c p ≡ u
  pub near₂ : near d c q ≡ v
  pub output : get_or c.output p 0 ≡ get_or c.output q 0

-- the chain has the entries of the coder c by their near ends in the direction d, and `far` has their far ends
pub record ArraysOf (c : Coder) (d : Direction) (chain : Chain) (far : List ℕ) : Type 0 where
  pub sound : Sound c
  pub far_is : far ≡ far_ends d c
  pub chained : Chained (near_ends d c) c.states c.inputs chain
