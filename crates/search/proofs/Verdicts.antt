-- From the least window or none, and the first looped pair, to what the verdict says.
use mathlib.Core.Path.{refl}
use mathlib.Core.List.{List}
use Prim.Native.Nat.{ℕ, ◌*◌}
use native.Mathlib.Nat.{mul-le-mul}
use native.Mathlib.Omega.{arith}
use Rattle.mealy.specs.Setting.{Setting, Closed, worded}
use Rattle.mealy.specs.Order.{Relation}
use Rattle.mealy.specs.Product.{Ambiguous}
use Rattle.mealy.proofs.LoopedPairs.{turned_runs, excludes}
use Rattle.coder.specs.Table.{machine_of_coder, Sound}
use Rattle.coder.specs.declared.inner.tables.Coder.{Coder}
use Rattle.values.specs.Pair.{pair_of}
use Rattle.values.specs.declared.Window.{Window}
use Rattle.values.specs.declared.LoopedPair.{LoopedPair}
use Rattle.least.specs.Report.{LeastReport}
use Rattle.loops.specs.Pair.{SomeValid, FoundPair}
use Rattle.first_pair.proofs.Endless.{endless_valid}
use Rattle.search.specs.Search.{Says}
use Rattle.search.specs.declared.Verdict.TheVariants.{Least, NoDecoder}

module _ (c : Coder) (starts : ℕ) (conflicts : List ℕ) (R : Relation) (p : ℕ) where
  abbrev S : Setting
  S = worded (machine_of_coder c) starts conflicts

  pub window_says : {w : Window} (letters : List ℕ) → LeastReport R p S w → Says R S S p (Least w) letters letters
  window_says letters l =
      record { settle = l.settle; least = l.least; before_small = l.before_small; after_small = l.after_small; stays = refl }

  -- where a conflicting edge joins the levels of every window, some pair is valid
  pub some_valid : Sound c → Closed S → ((b a : ℕ) → Ambiguous S b a) → SomeValid S
  some_valid sound closed ambiguous =
      let n = c.states in
      let q = endless_valid S closed (λ s p. p.0) (ambiguous (n * n) (n * n)) in
      record { pair = q.0; valid = q.1; few = omega (arith, q.2, mul-le-mul sound.states_high sound.states_high) }

  pub pair_says :
      Closed S → (q : LoopedPair) (letters after : List ℕ) → FoundPair c starts conflicts q letters after →
      Says R S S p (NoDecoder q) letters after
  pair_says closed q letters after f = record {
    none = excludes S (pair_of q after) f.first.valid closed;
    first = f.first;
    turned = turned_runs S (pair_of q after) f.first.valid;
    size = f.size;
    rest = f.rest;
  }
