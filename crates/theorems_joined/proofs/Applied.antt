-- The theorem applied to the scrambler ahead of differential coding, whose windows are 3 0 and 1 0: a search of the joined file reports a
-- window with no lookahead and with at most four letters before the present one.
use mathlib.Core.Path.{◌≡◌, refl, subst}
use mathlib.Core.Bool.{true}
use mathlib.Core.List.{List}
use Prim.Native.Nat.{ℕ, ◌≤◌}
use native.Mathlib.Omega.{arith}
use lib.ListN.{replicate, take}
use lib.Dec.{lit≤}
use Rattle.values.specs.Order.{default_order}
use Rattle.values.specs.Window.{window}
use Rattle.values.specs.declared.Window.{Window}
use Rattle.search.specs.Search.{SearchPromise}
use Rattle.search.specs.declared.Verdict.{Verdict}
use Rattle.search.specs.declared.Verdict.TheVariants.{Least}
use Rattle.joining.specs.Join.{JoinPromise}
use Rattle.theorems.specs.Starred as starred
use Rattle.theorems.proofs.Starred.{starred_hold}
use Rattle.theorems.proofs.Exists.{outcomes_exist}
use Rattle.theorems_joined.specs.InRow.{InRow}
use Rattle.published.specs.Alphabet.{parity}
use Rattle.theorems_joined.specs.Examples.{scrambler, scrambled}
use Rattle.theorems_joined.proofs.InRow.{coders_in_row}
use Rattle.theorems_joined.proofs.Examples.{examples_hold}
use Rattle.std.specs.Prelude.{Result, Ok}
use Rattle.coder.specs.declared.refusal.Refusal.{Refusal}

-- the file that the call writes, of which all is said
joined_scrambler : InRow scrambler (parity 2) scrambled
joined_scrambler =
    let j = examples_hold.2.2.2.2.1.0 in
    let x = outcomes_exist.join scrambler (parity 2) (replicate 70 0) true in
    let w = j.own (replicate 70 0) x.0 x.1 (lit≤ tt) x.2 in
    let p : JoinPromise scrambler (parity 2) (replicate 70 0) (Ok 70) x.1 =
    subst (λ (r : Result ℕ Refusal). JoinPromise scrambler (parity 2) (replicate 70 0) r x.1) w.result x.2 in
    let file : take 70 x.1 ≡ scrambled = rw w.bytes refl in
    subst (InRow scrambler (parity 2)) file (coders_in_row.own scrambler (parity 2) (replicate 70 0) 70 x.1 p)

-- some outcome of a search whose every outcome is this window
searched_window :
    (f : List ℕ) (b a : ℕ) → starred.Holds f (starred.window default_order b a 0) →
    (after : List ℕ) × SearchPromise default_order f 0 (replicate 1026 0) (Ok (Least (window b a 0))) after
searched_window f b a h =
    let x = outcomes_exist.search default_order f 0 (replicate 1026 0) true in
    let r = h (replicate 1026 0) x.0 x.1 (lit≤ tt) x.2 in
    (x.1, subst (λ (y : Result Verdict Refusal). SearchPromise default_order f 0 (replicate 1026 0) y x.1) r.0 x.2)

pub scrambled_search :
    (before : List ℕ) (v : Verdict) (after : List ℕ) → SearchPromise default_order scrambled 0 before (Ok v) after →
    (u : Window) × (v ≡ Least u) × (u.after ≡ 0) × (u.before ≤ 4)
scrambled_search before v after p =
    let f = searched_window scrambler 3 0 examples_hold.2.2.2.1.0 in
    let g = searched_window (parity 2) 1 0 starred_hold.1.1.1.0 in
    let u =
    joined_scrambler.searched default_order default_order default_order (replicate 1026 0) (window 3 0 0) f.0 (replicate 1026 0)
    (window 1 0 0) g.0 before v after f.1 g.1 p in
    let none : u.0.after ≡ 0 = omega (arith, u.2.0) in
    (u.0, u.1, none, u.2.1 none)
