-- The edges to pairs of a cost: the test of their cost, and the edges in the arrays of a coder as those of its machine.
use mathlib.Core.Path.{◌≡◌, refl}
use mathlib.Core.List.{List}
use Prim.Native.Nat.{ℕ, ◌+◌, ◌*◌, ◌<◌}
use native.Mathlib.Omega.{arith}
use lib.Dec.{eqb}
use lib.ListN.{length, get_or, replicate, get_or-replicate}
use Rattle.mealy.specs.Word.{Has}
use Rattle.coder.specs.Refusal.{Judges}
use Rattle.coder.specs.Table.{table_at, machine_of_coder}
use Rattle.coder.specs.declared.inner.tables.Coder.{Coder}
use Rattle.coder.proofs.Judging.{judges_map, equal_judges}
use Rattle.coder.proofs.Tables.{table_place}
use Rattle.setting.proofs.Numbers.{holds_all}
use Rattle.first_pair.specs.Reach.{Into}
use Rattle.first_pair.specs.Lowest.{LowestOf}
use Rattle.first_pair.specs.Cost.{entry}
use Rattle.letters.specs.Walk.{EdgeTo, SomeEdgeTo, CoderArrays, CostOf, SomeInto}

-- what is left of an edge when all but its cost is known
pub cost_judged :
    {next output : List ℕ} {inputs : ℕ} {allowed : List ℕ} (t : List ℕ) {u v : ℕ} (want : ℕ) {i j : ℕ} (x y : ℕ) →
    i < inputs → j < inputs → get_or output (16 * u + i) 0 ≡ get_or output (16 * v + j) 0 → Has (get_or allowed i 0) j →
    x ≡ get_or next (16 * u + i) 0 → y ≡ get_or next (16 * v + j) 0 →
    Judges (EdgeTo next output inputs allowed t u v want i j) (eqb (entry t x y) want)
cost_judged t want x y l m same within p q =
    judges_map (λ e. record { below₁ = l; below₂ = m; same = same; within = within; cost = cc }) (λ h. cc h.cost)
    (equal_judges (entry t x y) want)

-- ---- the edges in the arrays are those of the machine

-- what a table holds, by its list
pub table_is : {xs ys : List ℕ} → xs ≡ ys → (s i : ℕ) → i < 16 → get_or xs (16 * s + i) 0 ≡ table_at ys s i
table_is {xs} {ys} e s i l = rw e (table_place ys s i l)

module _ {c : Coder} {next output : List ℕ} {inputs : ℕ} (arrays : CoderArrays c next output inputs) (allowed t : List ℕ) (u v want i j : ℕ) where
  -- the entries of letters are those of the machine
  entries :
      i < 16 → j < 16 →
      (get_or next (16 * u + i) 0 ≡ table_at c.next u i) × (get_or next (16 * v + j) 0 ≡ table_at c.next v j) ×
      (get_or output (16 * u + i) 0 ≡ table_at c.output u i) × (get_or output (16 * v + j) 0 ≡ table_at c.output v j)
  entries l m =
      let n = arrays.next_is in
      let o = arrays.output_is in
      (table_is n u i l, table_is n v j m, table_is o u i l, table_is o v j m)

  pub edge_into : EdgeTo next output inputs allowed t u v want i j → Into (machine_of_coder c) (λ x y. entry t x y ≡ want) u v i j
  edge_into e =
      let high = arrays.sound.inputs_high in
      let is = arrays.inputs_is in
      let q = entries (omega arith) (omega arith) in
      record {
        edge = record { below₁ = omega arith; below₂ = omega arith; output = cc; to₁ = refl; to₂ = refl };
        within = cc;
      }

  pub into_edge :
      Has (get_or allowed i 0) j → Into (machine_of_coder c) (λ x y. entry t x y ≡ want) u v i j →
      EdgeTo next output inputs allowed t u v want i j
  into_edge h e =
      let high = arrays.sound.inputs_high in
      let is = arrays.inputs_is in
      let q = entries (omega arith) (omega arith) in
      record { below₁ = omega arith; below₂ = omega arith; same = cc; within = h; cost = cc }

-- ---- all letters allowed

-- word i has all letters
abbrev pub AllLetters : List ℕ → Type 0
AllLetters all = (length all ≡ 16) × ((i : ℕ) → i < 16 → get_or all i 0 ≡ 65535)

pub all_letters : AllLetters (replicate 16 65535)
all_letters = (refl, λ i l. get_or-replicate {A = ℕ} 16 i 65535 0 l)

all_has : (all : List ℕ) → AllLetters all → (i j : ℕ) → i < 16 → j < 16 → Has (get_or all i 0) j
all_has all a i j l m = rw (a.1 i l) (holds_all.has j m)

module _ {c : Coder} {next output : List ℕ} {inputs : ℕ} (arrays : CoderArrays c next output inputs) (all : List ℕ) (a : AllLetters all)
    (t : List ℕ) (step base k u v : ℕ) where
  any_edge :
      (i j : ℕ) → Into (machine_of_coder c) (CostOf t step base k) u v i j → EdgeTo next output inputs all t u v (step * k + base) i j
  any_edge i j e =
      let high = arrays.sound.inputs_high in
      into_edge arrays all t u v (step * k + base) i j (all_has all a i j (omega arith) (omega arith)) e

  pub some_edge : SomeInto c (CostOf t step base k) u v → SomeEdgeTo next output inputs all t u v (step * k + base)
  some_edge e = record { i = e.i; j = e.j; edge = any_edge e.i e.j e.into }

  pub lowest_into :
      {i j : ℕ} → LowestOf (EdgeTo next output inputs all t u v (step * k + base)) i j →
      LowestOf (Into (machine_of_coder c) (CostOf t step base k) u v) i j
  lowest_into {i} {j} e = record {
    holds = edge_into arrays all t u v (step * k + base) i j e.holds;
    lowest = λ i' j' h. e.lowest i' j' (any_edge i' j' h);
  }
