-- The costs of conflicting edges: from the arrays to the machine.
use mathlib.Core.Path.{◌≡◌, refl, sym, subst, ◌∙◌}
use mathlib.Core.Bool.{true, false}
use mathlib.Core.List.{List}
use Prim.Native.Nat.{ℕ, ◌+◌, ◌-◌, ◌*◌, ◌/◌, ◌%◌, ◌<◌, ◌≤◌}
use native.Mathlib.Omega.{arith}
use lib.Bits.{bit_and}
use lib.ListN.{length, get_or, set, length-set}
use lib.Seq.{get_or-set_same, get_or-set_other}
use borrow.Author.Count.{below_more}
use Rattle.mealy.specs.Word.{Has}
use Rattle.mealy.specs.Machine.{Machine}
use Rattle.mealy.specs.Setting.{Setting, worded}
use Rattle.mealy.specs.Image.{Image}
use Rattle.mealy.proofs.Members.{holds_member}
use Rattle.coder.specs.Table.{machine_of_coder}
use Rattle.coder.specs.declared.inner.tables.Coder.{Coder}
use Rattle.coder.proofs.Fill.{get_or_table}
use Rattle.coder.proofs.Tables.{table_place, table_at_lem, next_high, output_high}
use Rattle.chains.specs.Parts.{place_part}
use Rattle.first_pair.specs.Reach.{SomeConflictInto}
use Rattle.first_pair.specs.Cost.{Capped, LeastCosts, Tail, Marked, entry, letter_cost, no_cost}
use Rattle.costs.specs.Marked.{OnLetters, OnConflict, EdgesAsked, MarkedAsked, MarkedDone}
use Rattle.mealy.proofs.Words.{has_and, has_both}
use Rattle.first_pair.proofs.Capping.{capped_map}

-- the costs on the letters of a row, as those of its members
pub on_letters :
    {next t : List ℕ} {x v row cap r : ℕ} → Capped (Image (λ j n. entry t x (get_or next (16 * v + j) 0) ≡ n) (Has row)) cap r →
    Capped (OnLetters next t x v row) cap r
on_letters =
    capped_map (λ n i. record { j = i.s; within = i.from; is = i.step }) (λ n o. record { s = o.j; from = o.within; step = o.is })

-- what the conflicting letter i of the first state leads to
abbrev pub OnFirst : List ℕ → List ℕ → List ℕ → List ℕ → List ℕ → ℕ → ℕ → ℕ → ℕ → Type 0
OnFirst next output letters conflicts t u v i =
    OnLetters next t (get_or next (16 * u + i) 0) v (bit_and (get_or letters (16 * get_or output (16 * u + i) 0 + v) 0) (get_or conflicts i 0))

-- as the code reads it
pub on_first :
    (next output letters conflicts t : List ℕ) (u v i : ℕ) {x o cap r : ℕ} →
    x ≡ get_or next (16 * u + i) 0 → o ≡ get_or output (16 * u + i) 0 →
    Capped (OnLetters next t x v (bit_and (get_or letters (16 * o + v) 0) (get_or conflicts i 0))) cap r →
    Capped (OnFirst next output letters conflicts t u v i) cap r
on_first next output letters conflicts t u v i e f a = rw (e, f) at a

pub on_conflict :
    {next output letters conflicts t : List ℕ} {inputs u v cap r : ℕ} →
    Capped (Image (OnFirst next output letters conflicts t u v) (λ i. i < inputs)) cap r →
    Capped (OnConflict next output letters conflicts t inputs u v) cap r
on_conflict {next} {output} {letters} {conflicts} {t} {inputs} {u} {v} =
    capped_map
    (λ n i.
    let h = has_and (row i.s) (get_or conflicts i.s 0) i.step.j i.step.within in
    record { i = i.s; below = i.from; j = i.step.j; letter = h.0; conflict = h.1; is = i.step.is })
    (λ n o.
    record {
      s = o.i;
      from = o.below;
      step = record { j = o.j; within = has_both (row o.i) (get_or conflicts o.i 0) o.j o.letter o.conflict; is = o.is };
    })
  where
    row : ℕ → ℕ
    row i = get_or letters (16 * get_or output (16 * u + i) 0 + v) 0

module _ {c : Coder} {letters : List ℕ} (a : MarkedAsked c letters) where
  abbrev M : Machine
  M = machine_of_coder c

  -- what the tables are to be
  pub edges_asked : EdgesAsked c.next c.output c.inputs
  edges_asked =
      record {
        inputs_high = a.sound.inputs_high;
        next_high = λ p. omega (arith, next_high c a.sound p, a.sound.states_high);
        output_high = λ p. omega (arith, output_high c a.sound p, a.sound.outputs_high);
      }

  -- the letters of the entries of state v with output letter o
  module _ (v j o : ℕ) (l : o < 64) (m : v < c.states) where
    low : v < 16
    low = let h = a.sound.states_high in omega arith

    letter_below : Has (get_or letters (16 * o + v) 0) j → j < c.inputs
    letter_below h =
        let g = holds_member (a.letters_are.holds o v l low) j h in
        let b = a.sound.states_high in
        let k = g.below in
        let f : g.p % 16 ≡ j = sym (get_or_table 256 (place_part true) g.p (omega arith)) ∙ g.gives.1 in
        rw f at g.gives.0

    letter_output : Has (get_or letters (16 * o + v) 0) j → M.out v j ≡ o
    letter_output h =
        let g = holds_member (a.letters_are.holds o v l low) j h in
        let b = a.sound.states_high in
        let k = g.below in
        let e : g.p / 16 ≡ v = sym (get_or_table 256 (place_part false) g.p (omega arith)) ∙ g.key in
        let f : g.p % 16 ≡ j = sym (get_or_table 256 (place_part true) g.p (omega arith)) ∙ g.gives.1 in
        rw (e, f) at (table_at_lem c.output g.p ∙ g.out)

    output_letter : j < c.inputs → M.out v j ≡ o → Has (get_or letters (16 * o + v) 0) j
    output_letter i e =
        let b = a.sound.states_high in
        let k = a.sound.inputs_high in
        let q : (16 * v + j) % 16 ≡ j = omega arith in
        let p : (16 * v + j) / 16 ≡ v = omega arith in
        (a.letters_are.holds o v l low).has j
        (record {
          p = 16 * v + j;
          below = omega arith;
          key = get_or_table 256 (place_part false) (16 * v + j) (omega arith) ∙ p;
          out = table_place c.output v j (omega arith) ∙ e;
          gives = (rw q i, get_or_table 256 (place_part true) (16 * v + j) (omega arith) ∙ q);
        })

  module _ (conflicts : List ℕ) {t : List ℕ} (starts : ℕ) (costs : LeastCosts c.states (Tail M) t) (u v : ℕ)
      (l : u < c.states) (m : v < c.states) where
    abbrev S : Setting
    S = worded M starts conflicts

    out_low : (i : ℕ) → M.out u i < 64
    out_low i = omega (arith, a.sound.output_letter u i, a.sound.outputs_high)

    small : {i : ℕ} → i < c.inputs → i < 16
    small i = let h = a.sound.inputs_high in omega arith

    -- the cost of the pair that an edge leads to
    target : (i j : ℕ) → Capped (λ n. Tail M n (M.next u i) (M.next v j)) no_cost (entry t (M.next u i) (M.next v j))
    target i j = costs.at (M.next u i) (M.next v j) (a.sound.next_state u i) (a.sound.next_state v j)

    -- a cost on a conflicting edge in the arrays is the cost of a tail behind that edge, and the other way round
    cost_edge :
        {n : ℕ} → n < no_cost → OnConflict c.next c.output letters conflicts t c.inputs u v n → SomeConflictInto S (Tail M n) u v
    cost_edge {n} k o =
        let i = o.i in
        let j = o.j in
        let e : get_or c.output (16 * u + i) 0 ≡ M.out u i = table_place c.output u i (small o.below) in
        let h : Has (get_or letters (16 * M.out u i + v) 0) j = rw e at o.letter in
        let b = letter_below v j (M.out u i) (out_low i) m h in
        let is : entry t (M.next u i) (M.next v j) ≡ n =
        rw (table_place c.next u i (small o.below), table_place c.next v j (small b)) at o.is in
        record {
          i = i;
          j = j;
          edge = record {
            conflict = o.conflict;
            into = record {
              edge = record {
                below₁ = o.below;
                below₂ = b;
                output = sym (letter_output v j (M.out u i) (out_low i) m h);
                to₁ = refl;
                to₂ = refl;
              };
              within = subst (λ (k : ℕ). Tail M k (M.next u i) (M.next v j)) is ((target i j).holds (omega arith));
            };
          };
        }

    edge_cost : {n : ℕ} (e : SomeConflictInto S (Tail M n) u v) →
        OnConflict c.next c.output letters conflicts t c.inputs u v (entry t (M.next u e.i) (M.next v e.j))
    edge_cost e =
        let i = e.i in
        let j = e.j in
        let d = e.edge.into.edge in
        let h = output_letter v j (M.out u i) (out_low i) m d.below₂ (sym d.output) in
        record {
          i = i;
          below = d.below₁;
          j = j;
          letter = rw (table_place c.output u i (small d.below₁)) h;
          conflict = e.edge.conflict;
          is = rw (table_place c.next u i (small d.below₁), table_place c.next v j (small d.below₂));
        }

    pub marked_cost : {r : ℕ} → Capped (OnConflict c.next c.output letters conflicts t c.inputs u v) (no_cost - letter_cost) r →
        Capped (λ k. Marked S k u v) no_cost (letter_cost + r)
    marked_cost {r} o =
        let h = o.high in
        record {
          high = omega arith;
          holds = λ k. record { n = r; all = refl; edge = cost_edge (omega arith) (o.holds (omega arith)) };
          least = λ n k.
              let e = k.edge in
              let all = k.all in
              omega (arith, o.least _ (edge_cost e), (target e.i e.j).least k.n e.edge.into.within);
        }

-- ---- the table, place by place

-- the cost at the place k of the table, as the code makes it
pub record PlaceCost (c : Coder) (letters conflicts t : List ℕ) (k n : ℕ) : Type 0 where
  pub r : ℕ
  pub capped : Capped (OnConflict c.next c.output letters conflicts t c.inputs (k / 16) (k % 16)) (no_cost - letter_cost) r
  pub is : letter_cost + r ≡ n

-- the first a places have it
pub record CostsBelow (Q : ℕ → ℕ → Type 0) (a : ℕ) (table : List ℕ) : Type 0 where
  pub size : length table ≡ 256
  pub at : (k : ℕ) → k < a → Q k (get_or table k 0)

pub costs_none : {Q : ℕ → ℕ → Type 0} {table : List ℕ} → length table ≡ 256 → CostsBelow Q 0 table
costs_none e = record { size = e; at = λ k l. absurd (omega arith) }

pub costs_more : {Q : ℕ → ℕ → Type 0} {a n : ℕ} {table : List ℕ} → CostsBelow Q a table → a < 256 → Q a n →
    CostsBelow Q (a + 1) (set table a n)
costs_more {Q} {a} {n} {table} b l q =
    let s = b.size in
    record {
      size = length-set table a n ∙ s;
      at =
          below_more (λ k. Q k (get_or (set table a n) k 0)) a
          (λ k m. rw (get_or-set_other table a k n 0 (λ (z : k ≡ a). omega arith)) (b.at k m))
          (rw (get_or-set_same table a n 0 (omega arith)) q);
    }

module _ {c : Coder} {letters conflicts t : List ℕ} (asked : MarkedAsked c letters) where
  place_cost :
      (starts : ℕ) → LeastCosts c.states (Tail (machine_of_coder c)) t → (u v : ℕ) → u < c.states → v < c.states → {k n : ℕ} →
      PlaceCost c letters conflicts t k n → k / 16 ≡ u → k % 16 ≡ v →
      Capped (λ m. Marked (worded (machine_of_coder c) starts conflicts) m u v) no_cost n
  place_cost starts costs u v l m p e f =
      subst (λ (n : ℕ). Capped (λ m. Marked (worded (machine_of_coder c) starts conflicts) m u v) no_cost n) p.is
      (marked_cost asked conflicts starts costs u v l m (rw (e, f) at p.capped))

  pub marked_done :
      {a : ℕ} {r : List ℕ} → CostsBelow (PlaceCost c letters conflicts t) a r → 16 * c.states ≤ a → MarkedDone c conflicts t r
  marked_done b e starts costs =
      record {
        size = b.size;
        at = λ u v l m.
            let h = asked.sound.states_high in
            place_cost starts costs u v l m (b.at (16 * u + v) (omega arith)) (omega arith) (omega arith);
      }
