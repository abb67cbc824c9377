-- One computed test over a table of worked examples: where each claim has a test that shows it, all cases hold.
use mathlib.Core.Path.{◌≡◌}
use mathlib.Core.Bool.{Bool, true, ◌&&◌}
use mathlib.Core.List.{List, [], ◌∷◌}
use Prim.Native.Nat.{ℕ}
use lib.Dec.{eqb}
use borrow.Author.Tests.{eqb-true}
use Rattle.coder.specs.File.{file_refusal}
use Rattle.coder.proofs.Refusals.{both_true}
use Rattle.theorems.specs.Cases.{Case, AllHold, AllCases}

module _ {C : Type 0} (test : List ℕ → C → Bool) where
  abbrev pub test_claims : List ℕ → List C → Bool
  test_claims f [] = true
  test_claims f (c ∷ cs) = test f c && test_claims f cs

  abbrev pub test_cases : List (Case C) → Bool
  test_cases [] = true
  test_cases (c ∷ cs) = eqb (file_refusal c.file) 0 && (test_claims c.file c.claims && test_cases cs)

  module _ (Holds : List ℕ → C → Type 0) (shown : (f : List ℕ) → file_refusal f ≡ 0 → (c : C) → test f c ≡ true → Holds f c) where
    claims_hold : (f : List ℕ) → file_refusal f ≡ 0 → (cs : List C) → test_claims f cs ≡ true → AllHold Holds f cs
    claims_hold f z [] e = tt
    claims_hold f z (c ∷ cs) e = let t = both_true (test f c) (test_claims f cs) e in (shown f z c t.0, claims_hold f z cs t.1)

    pub cases_hold : (cs : List (Case C)) → test_cases cs ≡ true → AllCases Holds cs
    cases_hold [] e = tt
    cases_hold (c ∷ cs) e =
        let t = both_true (eqb (file_refusal c.file) 0) (test_claims c.file c.claims && test_cases cs) e in
        let u = both_true (test_claims c.file c.claims) (test_cases cs) t.1 in
        let z = eqb-true (file_refusal c.file) 0 t.0 in
        (z, claims_hold c.file z c.claims u.0, cases_hold cs u.1)
