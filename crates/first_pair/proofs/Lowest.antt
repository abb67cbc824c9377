-- Taking the lowest letter at each step gives the lowest bytes of all that lead into a set.
use mathlib.Core.List.{List}
use Prim.Native.Nat.{ℕ}
use Rattle.mealy.specs.Machine.{Machine}
use Rattle.mealy.specs.First.{Lexicographic}
use Rattle.first_pair.specs.Reach.{Pairs, Reach}
use Rattle.first_pair.specs.Lowest.{BytesLead, none, letter, Lowest, there, lowest}
use Rattle.first_pair.proofs.Reaching.{leads_reach}

module _ {M : Machine} {L : ℕ → Pairs} where
  pub lowest_leads : {k u v x y : ℕ} {bytes : List ℕ} → Lowest M L k u v bytes x y → BytesLead M k u v bytes x y
  lowest_leads (there h) = none
  lowest_leads (lowest e r) = letter e.holds.edge (lowest_leads r)

  pub lowest_within : {k u v x y : ℕ} {bytes : List ℕ} → Lowest M L k u v bytes x y → L 0 x y
  lowest_within (there h) = h
  lowest_within (lowest e r) = lowest_within r

-- no later than any other bytes that lead into the set
pub lowest_least :
    {M : Machine} (P : Pairs) {k u v x y x' y' : ℕ} {bytes bytes' : List ℕ} → Lowest M (Reach M P) k u v bytes x y →
    BytesLead M k u v bytes' x' y' → P x' y' → Lexicographic bytes bytes'
lowest_least P (there h) none g = tt
lowest_least P (lowest {i = i} {j = j} e r) (letter {i = i'} {j = j'} f q) g =
    let l = e.lowest i' j' (record { edge = f; within = leads_reach P q g }) in
    (l.0, λ a. (l.1 a, λ b. lowest_least P r (rw (← a, ← b) at q) g))
