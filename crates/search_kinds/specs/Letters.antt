-- Which letters a try of the search for kinds tells apart.
use Rattle.std.specs.Prelude.{ℕ, ◌<◌, ◌≡◌, Bool, true, ◌⊎◌, ◌≢◌}
use Rattle.coder.specs.Limits.{max_inputs}
use Rattle.kinds.specs.Kinds.{DifferentKinds}

-- j is a letter of the kind κ
abbrev pub OfKind : (ℕ → ℕ) → ℕ → ℕ → Type 0
OfKind kind κ j = (j < max_inputs) × (kind j ≡ κ)

-- j is another letter of the kind of i, and that kind is in C
abbrev pub SameKind : (ℕ → ℕ) → (ℕ → Type 0) → ℕ → ℕ → Type 0
SameKind kind C i j = (kind i ≡ kind j) × C (kind i) × (i ≢ j)

-- Different letters of one kind in C and, where `across`, letters of different kinds. With `across` it is `DifferentCarried kind C`;
-- without it, where C has the kind κ alone, `DifferentWithin kind κ` (`apart_carried`, `apart_within` of proofs/Apart.antt).
abbrev pub ToldApart : Bool → (ℕ → ℕ) → (ℕ → Type 0) → ℕ → ℕ → Type 0
ToldApart across kind C i j = SameKind kind C i j ⊎ ((across ≡ true) × DifferentKinds kind i j)
