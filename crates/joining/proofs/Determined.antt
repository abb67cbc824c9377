-- The promise leaves one outcome: two that meet it for the same arguments are equal, whatever other buffers are lent.
use mathlib.Core.Path.{◌≡◌}
use mathlib.Core.Bool.{Bool}
use mathlib.Core.List.{List}
use Prim.Native.Nat.{ℕ}
use Rattle.std.specs.Prelude.{Result}
use Rattle.coder.specs.declared.refusal.Refusal.{Refusal}
use Rattle.writer.proofs.Determined.{file_determined}
use Rattle.joining.specs.Join.{JoinWith}

pub join_determined :
    (f g before : List ℕ) (others : Bool) (r r' : Result ℕ Refusal) (after after' : List ℕ) → JoinWith f g before others r after →
    JoinWith f g before others r' after' → (r ≡ r') × (after ≡ after')
join_determined f g before others r r' after after' = file_determined
