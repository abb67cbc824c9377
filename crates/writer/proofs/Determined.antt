-- The writer's promise leaves one outcome: two that meet it for the same arguments are equal, whatever other buffers are lent.
use mathlib.Core.Path.{◌≡◌, sym, ◌∙◌}
use mathlib.Core.Bool.{Bool}
use mathlib.Core.List.{List}
use Prim.Native.Nat.{ℕ}
use Rattle.std.specs.Prelude.{Result}
use Rattle.coder.specs.declared.refusal.Refusal.{Refusal}
use Rattle.writer.specs.Write.{FilePromise, WriteWith}

-- any call that writes a file
pub file_determined :
    {k : ℕ} {file before : List ℕ} {r r' : Result ℕ Refusal} {after after' : List ℕ} → FilePromise k file before r after →
    FilePromise k file before r' after' → (r ≡ r') × (after ≡ after')
file_determined p q = (p.result ∙ sym q.result, p.bytes ∙ sym q.bytes)

pub write_determined :
    (n i o : ℕ) (entries before : List ℕ) (others : Bool) (r r' : Result ℕ Refusal) (after after' : List ℕ) →
    WriteWith n i o entries before others r after → WriteWith n i o entries before others r' after' → (r ≡ r') × (after ≡ after')
write_determined n i o entries before others r r' after after' = file_determined
