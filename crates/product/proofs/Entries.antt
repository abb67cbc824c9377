-- The ends of entries, and edges of the product machine as pairs of entries.
use mathlib.Core.Path.{◌≡◌, sym, ◌∙◌}
use mathlib.Core.Bool.{true}
use Prim.Native.Nat.{ℕ, ◌+◌, ◌*◌, ◌/◌, ◌%◌, ◌<◌}
use native.Mathlib.Omega.{arith}
use lib.ListN.{get_or}
use Rattle.mealy.specs.Machine.{Machine}
use Rattle.mealy.specs.Product.{Edge, Direction, back, forward, Step}
use Rattle.coder.specs.Table.{machine_of_coder, Sound}
use Rattle.coder.specs.declared.inner.tables.Coder.{Coder}
use Rattle.coder.proofs.Fill.{get_or_table}
use Rattle.coder.proofs.Tables.{table_at_lem, table_place, next_high}
use Rattle.chains.specs.Chain.{is_entry}
use Rattle.chains.proofs.Entries.{entry_place, is_entry_lem}
use Rattle.product.specs.Entries.{sources, far, Joins}

-- ---- places of tables

pub source_at : (p : ℕ) → p < 256 → get_or sources p 0 ≡ p / 16
source_at p l = get_or_table 256 (λ p. p / 16) p l

module _ (c : Coder) (sound : Sound c) where
  abbrev M : Machine
  M = machine_of_coder c

  abbrev Entry : ℕ → Type 0
  Entry p = is_entry c.states c.inputs p ≡ true

  pub entry_below : (p : ℕ) → Entry p → p < 256
  entry_below p e = omega (arith, sound.states_high, entry_place _ _ p e)

  source_below : (p : ℕ) → Entry p → get_or sources p 0 < c.states
  source_below p e = rw (source_at p (entry_below p e)) (entry_place _ _ p e).state

  pub far_below : (d : Direction) (p : ℕ) → Entry p → far d c p < c.states
  far_below back p e = source_below p e
  far_below forward p e = next_high c sound p

  -- ---- edges

  -- two entries with one output letter are an edge from their states
  pub entries_edge : (p q : ℕ) → Entry p → Entry q → get_or c.output p 0 ≡ get_or c.output q 0
      → Edge M (get_or sources p 0) (get_or sources q 0) (p % 16) (q % 16) (get_or c.next p 0) (get_or c.next q 0)
  entries_edge p q e f o =
      rw (source_at p (entry_below p e), source_at q (entry_below q f))
      record {
        below₁ = (entry_place _ _ p e).letter;
        below₂ = (entry_place _ _ q f).letter;
        output = table_at_lem c.output p ∙ o ∙ sym (table_at_lem c.output q);
        to₁ = table_at_lem c.next p;
        to₂ = table_at_lem c.next q;
      }

  pub joins_step : (d : Direction) (u v p q : ℕ) → Joins c d u v p q → Step M d u v (p % 16) (q % 16) (far d c p) (far d c q)
  joins_step back u v p q j = rw (← j.near₁, ← j.near₂) (entries_edge p q j.entry₁ j.entry₂ j.output)
  joins_step forward u v p q j = rw (← j.near₁, ← j.near₂) (entries_edge p q j.entry₁ j.entry₂ j.output)

  -- the entries of an edge from states
  pub record EntriesOf (s t i j u v : ℕ) : Type 0 where
    pub p : ℕ
    pub q : ℕ
    pub entry₁ : Entry p
    pub entry₂ : Entry q
    pub source₁ : get_or sources p 0 ≡ s
    pub source₂ : get_or sources q 0 ≡ t
    pub letter₁ : p % 16 ≡ i
    pub letter₂ : q % 16 ≡ j
    pub next₁ : get_or c.next p 0 ≡ u
    pub next₂ : get_or c.next q 0 ≡ v
    pub output : get_or c.output p 0 ≡ get_or c.output q 0

  pub edge_entries : (s t i j u v : ℕ) → s < c.states → t < c.states → Edge M s t i j u v → EntriesOf s t i j u v
  edge_entries s t i j u v l m e =
      let n = sound.states_high in
      let h = sound.inputs_high in
      let a = e.below₁ in
      let b = e.below₂ in
      let ps : (16 * s + i) / 16 ≡ s = omega arith in
      let pi : (16 * s + i) % 16 ≡ i = omega arith in
      let qs : (16 * t + j) / 16 ≡ t = omega arith in
      let qi : (16 * t + j) % 16 ≡ j = omega arith in
      record {
        p = 16 * s + i;
        q = 16 * t + j;
        entry₁ = is_entry_lem _ _ (16 * s + i) (rw ps l) (rw pi a);
        entry₂ = is_entry_lem _ _ (16 * t + j) (rw qs m) (rw qi b);
        source₁ = source_at (16 * s + i) (omega arith) ∙ ps;
        source₂ = source_at (16 * t + j) (omega arith) ∙ qs;
        letter₁ = pi;
        letter₂ = qi;
        next₁ = table_place c.next s i (omega arith) ∙ e.to₁;
        next₂ = table_place c.next t j (omega arith) ∙ e.to₂;
        output = table_place c.output s i (omega arith) ∙ e.output ∙ sym (table_place c.output t j (omega arith));
      }

  -- a neighbour is reached by a pair of entries
  pub record Joined (d : Direction) (u v s t : ℕ) : Type 0 where
    pub p : ℕ
    pub q : ℕ
    pub joins : Joins c d u v p q
    pub far₁ : far d c p ≡ s
    pub far₂ : far d c q ≡ t

  pub step_joins : (d : Direction) (u v i j s t : ℕ) → u < c.states → v < c.states → s < c.states → t < c.states
      → Step M d u v i j s t → Joined d u v s t
  step_joins back u v i j s t a b l m e =
      let x = edge_entries s t i j u v l m e in
      record { p = x.p; q = x.q; joins = record { entry₁ = x.entry₁; entry₂ = x.entry₂; near₁ = x.next₁; near₂ = x.next₂; output = x.output }; far₁ = x.source₁; far₂ = x.source₂ }
  step_joins forward u v i j s t a b l m e =
      let x = edge_entries u v i j s t a b e in
      record { p = x.p; q = x.q; joins = record { entry₁ = x.entry₁; entry₂ = x.entry₂; near₁ = x.source₁; near₂ = x.source₂; output = x.output }; far₁ = x.next₁; far₂ = x.next₂ }
