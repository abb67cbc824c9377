-- A table of worked examples: coder files, and what is claimed of each. C are the claims, and Holds says what one says of a file.
use Rattle.std.specs.Prelude.{ℕ, ◌≡◌, List, [], ◌∷◌}
use Rattle.coder.specs.File.{file_refusal}

pub record Case (C : Type 0) : Type 0 where
  pub file : List ℕ
  pub claims : List C

-- all claims hold of the file
abbrev pub AllHold : {C : Type 0} → (List ℕ → C → Type 0) → List ℕ → List C → Type 0
AllHold Holds f [] = Unit {0}
AllHold Holds f (c ∷ cs) = Holds f c × AllHold Holds f cs

-- The file is accepted and all its claims hold; and so for each case of a list.
abbrev pub AllCases : {C : Type 0} → (List ℕ → C → Type 0) → List (Case C) → Type 0
AllCases Holds [] = Unit {0}
AllCases Holds (c ∷ cs) = (file_refusal c.file ≡ 0) × AllHold Holds c.file c.claims × AllCases Holds cs
