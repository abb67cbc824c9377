-- An array that holds g j at each place j.
use mathlib.Core.Path.{◌≡◌, refl}
use mathlib.Core.List.{List}
use Prim.Native.Nat.{ℕ, ◌<◌}
use native.Mathlib.Omega.{arith}
use lib.ListN.{length, get_or}
use Rattle.coder.specs.Table.{table}
use Rattle.coder.proofs.Fill.{Filled, filled_all}

pub is_table :
    {n : ℕ} {g : ℕ → ℕ} {l : List ℕ} → length l ≡ n → ((j : ℕ) → j < n → get_or l j 0 ≡ g j) → l ≡ table n g
is_table {n} {g} {l} e h =
    let f : Filled n g l n l = record { size = e; is = h; left = λ j q. refl } in
    filled_all f (λ j q m. absurd (omega arith))
