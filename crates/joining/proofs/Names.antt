-- The joined machine's entries name every output letter.
use mathlib.Core.Path.{ap, ◌∙◌}
use Prim.Native.Nat.{ℕ}
use lib.Arith.{digits_lt}
use Rattle.mealy.specs.Machine.{Machine}
use Rattle.coder.specs.Alphabet.{NamesAlphabet}
use Rattle.joined.specs.Joined.{joined_state, joined, Joinable}
use Rattle.joined.proofs.Runs.{joined_out}

pub joined_names : (A B : Machine) → Joinable A B → (o : ℕ) → NamesAlphabet A B.inputs → NamesAlphabet B o → NamesAlphabet (joined A B) o
joined_names A B j o named₁ named₂ y l =
    let u = named₂ y l in
    let v = named₁ u.1 u.3 in (
      joined_state B v.0 u.0,
      v.1,
      digits_lt v.2 u.2,
      v.3,
      joined_out A B j v.0 u.0 v.1 u.2 ∙ ap (B.out u.0) v.4 ∙ u.4,
    )
