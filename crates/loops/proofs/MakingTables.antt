-- From what the calls give one after the other to the tables of costs.
use mathlib.Core.Path.{refl}
use mathlib.Core.List.{List}
use Prim.Native.Nat.{ℕ}
use Rattle.coder.specs.Table.{machine_of_coder}
use Rattle.coder.specs.declared.inner.tables.Coder.{Coder}
use Rattle.first_pair.specs.Cost.{CostTable, LeastCosts, Looped, Tail, Marked, in_cost, out_cost}
use Rattle.first_pair.specs.Successors.{SuccessorsOf}
use Rattle.first_pair.proofs.Costs.{least_seeds}
use Rattle.cycles.specs.Successors.{LoopsFound}
use Rattle.costs.specs.Lowering.{LoweringDone}
use Rattle.costs.specs.Marked.{MarkedDone}
use Rattle.loops.specs.Parts.{CostTablesOf, setting_in}

-- `marks` has the costs of a conflicting letter and what follows it
pub tables_made :
    (c : Coder) (words conflicts loops tails marks heads : List ℕ) → SuccessorsOf (machine_of_coder c) words →
    CostTable loops × LoopsFound words c.states loops → LoweringDone words c.states out_cost loops tails →
    MarkedDone c conflicts tails marks → CostTable heads × LoweringDone words c.states in_cost marks heads →
    CostTablesOf c conflicts loops tails heads
tables_made c words conflicts loops tails marks heads s back after mark before =
    let M = machine_of_coder c in
    let looped : LeastCosts c.states (Looped M) loops = back.1 M s refl in
    let tail : LeastCosts c.states (Tail M) tails = least_seeds M s.total out_cost (Looped M) loops tails looped (after M s refl) in
    record {
      loops_table = back.0;
      heads_table = before.0;
      loops_are = looped;
      tails_are = tail;
      heads_are = λ starts.
          least_seeds M s.total in_cost (Marked (setting_in c starts conflicts)) marks heads (mark starts tail) (before.1 M s refl);
    }
