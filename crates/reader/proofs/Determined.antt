-- Each reading call's promise leaves one outcome: two that meet it for the same arguments are equal.
use mathlib.Core.Path.{◌≡◌, sym, ◌∙◌}
use mathlib.Core.List.{List}
use Prim.Native.Nat.{ℕ}
use Rattle.reader.specs.Read.{header_of, EntriesPart}
use Rattle.std.specs.Prelude.{Result}
use Rattle.coder.specs.declared.refusal.Refusal.{Refusal}
use Rattle.reader.specs.declared.Header.{Header}

pub counts_determined : (f : List ℕ) (r r' : Result Header Refusal) → r ≡ header_of f → r' ≡ header_of f → r ≡ r'
counts_determined f r r' p q = p ∙ sym q

pub entries_determined :
    (f : List ℕ) (file : ℕ × ℕ) (r r' : List ℕ) (p p' : ℕ × ℕ) → EntriesPart f file r p → EntriesPart f file r' p' →
    (r ≡ r') × (p.0 ≡ p'.0) × (p.1 ≡ p'.1)
entries_determined f file r r' p p' a b =
    (a.bytes ∙ sym b.bytes, a.block ∙ sym b.block, a.offset ∙ sym b.offset)
