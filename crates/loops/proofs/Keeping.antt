-- Letters written one part after the other: what stays of the buffer.
use mathlib.Core.Path.{◌≡◌, ◌∙◌}
use mathlib.Core.List.{List}
use Prim.Native.Nat.{ℕ, ◌+◌}
use native.Mathlib.Omega.{arith}
use Rattle.letters.specs.Walk.{StaysOutside}

pub kept_then :
    {place m n at : ℕ} {b₀ b₁ b₂ : List ℕ} → place + m ≡ at → StaysOutside place m b₀ b₁ → StaysOutside at n b₁ b₂ → StaysOutside place (m + n) b₀ b₂
kept_then e h k =
    record {
      size = k.size ∙ h.size;
      earlier = λ p l. k.earlier p (omega arith) ∙ h.earlier p l;
      later = λ p l. k.later p (omega arith) ∙ h.later p (omega arith);
    }
