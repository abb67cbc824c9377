-- The words that are filled for a coder are the successors of its pairs of states.
use mathlib.Core.Path.{◌≡◌, sym, ◌∙◌}
use mathlib.Core.Bool.{false}
use mathlib.Core.List.{List}
use Prim.Native.Nat.{ℕ, ◌+◌, ◌*◌, ◌/◌, ◌%◌, ◌<◌}
use native.Mathlib.Omega.{arith}
use lib.ListN.{get_or}
use Rattle.mealy.specs.Product.{Edge}
use Rattle.mealy.specs.Word.{Holds}
use Rattle.mealy.proofs.Members.{holds_member}
use Rattle.coder.specs.Table.{machine_of_coder, Sound}
use Rattle.coder.specs.declared.inner.tables.Coder.{Coder}
use Rattle.coder.proofs.Fill.{get_or_table}
use Rattle.coder.proofs.Tables.{table_at_lem, table_place, output_high}
use Rattle.chains.specs.Parts.{place_part, place_parts}
use Rattle.fitting.specs.Tables.{GivenBelow, ByOutput}
use Rattle.fitting.proofs.Meaning.{next_low}
use Rattle.first_pair.specs.Reach.{Joined}
use Rattle.cycles.specs.Successors.{SuccessorsAsked, StateJoins, SuccessorsFilled, SuccessorsOf}

module _ {c : Coder} (s : Sound c) {to : List ℕ}
    (b : ByOutput (place_parts false) c.next c.output c.states c.inputs to) where
  -- what filling asks
  pub fill_asked : SuccessorsAsked c.next c.output to c.states
  fill_asked =
      record {
        states_high = s.states_high;
        next_high = next_low s;
        output_high = λ p. omega (arith, output_high c s p, s.outputs_high);
        words = λ o t l m. (b.holds o t l m).bound;
      }

  module _ (u v x y : ℕ) (lu : u < c.states) (lv : v < c.states) where
    -- the entries of v with the output of the entry at place p
    entries :
        (p : ℕ) →
        Holds (GivenBelow (place_parts false) c.next c.output c.inputs (16 * c.states) (get_or c.output p 0) v)
        (get_or to (16 * get_or c.output p 0 + v) 0)
    entries p = let h = s.states_high in b.holds (get_or c.output p 0) v (fill_asked.output_high p) (omega arith)

    edge_joins : (i j : ℕ) → Edge (machine_of_coder c) u v i j x y → StateJoins c.next c.output to c.inputs u v x y
    edge_joins i j e =
        let h = s.states_high in
        let k = s.inputs_high in
        let li : i < 16 = omega (arith, e.below₁) in
        let lj : j < 16 = omega (arith, e.below₂) in
        let m : (16 * u + i) % 16 ≡ i = omega arith in
        let n : (16 * v + j) % 16 ≡ j = omega arith in
        let q : (16 * v + j) / 16 ≡ v = omega arith in
        record {
          i = i;
          below = li;
          first = table_place c.next u i li ∙ e.to₁;
          second = (
            rw m e.below₁,
            (entries (16 * u + i)).has y
                (record {
                  p = 16 * v + j;
                  below = omega arith;
                  key = get_or_table 256 (place_part false) (16 * v + j) (omega arith) ∙ q;
                  out = table_place c.output v j lj ∙ sym e.output ∙ sym (table_place c.output u i li);
                  gives = (rw n e.below₂, table_place c.next v j lj ∙ e.to₂);
                }),
          );
        }

    joins_joined : StateJoins c.next c.output to c.inputs u v x y → Joined (machine_of_coder c) u v x y
    joins_joined k =
        let g = holds_member (entries (16 * u + k.i)) y k.second.1 in
        let h = s.states_high in
        let l = g.below in
        let q : g.p / 16 ≡ v = sym (get_or_table 256 (place_part false) g.p (omega arith)) ∙ g.key in
        let m : (16 * u + k.i) % 16 ≡ k.i = omega (arith, k.below) in
        record {
          i = k.i;
          j = g.p % 16;
          edge = record {
            below₁ = rw m at k.second.0;
            below₂ = g.gives.0;
            output = sym (table_place c.output u k.i k.below) ∙ sym g.out ∙ sym (rw q at (table_at_lem c.output g.p));
            to₁ = sym (table_place c.next u k.i k.below) ∙ k.first;
            to₂ = rw q at (table_at_lem c.next g.p) ∙ g.gives.1;
          };
        }

  pub filled_successors :
      {words : List ℕ} → SuccessorsFilled c.next c.output to c.states c.inputs words →
      SuccessorsOf (machine_of_coder c) words
  filled_successors f =
      let h = s.states_high in
      record {
        shape = f.shape;
        few = h;
        total = λ t i l m. s.next_state t i;
        has = λ u v x y lu lv j.
            let e = j.edge in
            let lx : x < c.states = rw e.to₁ at (s.next_state u j.i) in
            f.has u v x y lu (omega arith) (omega arith) (edge_joins u v x y lu lv j.i j.j e);
        only = λ u v x y lu lv lx w. joins_joined u v x y lu lv (f.only u v x y lu (omega arith) lx w);
      }
