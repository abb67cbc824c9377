-- The letters that fit one window as a computation. The laws that an outcome exists and the worked examples compute with it.
use Rattle.std.specs.Prelude.{ℕ, zero, suc, pred, List, [], ◌∷◌, get_or, eqb}
use Rattle.std.specs.Int.Bits.{bit_or}
use Rattle.coder.specs.declared.inner.tables.Coder.{Coder}
use Rattle.filling.specs.Sets.{advance, start_sets}

-- the sets after all letters of w, of which letter p, counted from 1, is the present one
unfoldable pub pass : Coder → List ℕ → List ℕ → List ℕ → ℕ → List ℕ
pass c next v [] p = v
pass c next v (o ∷ w) p = pass c next (advance c next v o (eqb p 1)) w (pred p)

-- the union over the first n states
unfoldable pub union_of : ℕ → List ℕ → ℕ
union_of zero v = 0
union_of (suc n) v = bit_or (union_of n v) (get_or v n 0)

-- the word of the letters that fit
unfoldable pub fitting_word : Coder → ℕ → List ℕ → ℕ → ℕ
fitting_word c starts w b = union_of c.states (pass c c.next (start_sets starts) w (suc b))
