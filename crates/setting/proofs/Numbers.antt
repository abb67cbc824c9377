-- The two words that are written as numbers: all numbers below 16, and all but one, by computed tests.
use mathlib.Core.Path.{◌≡◌, refl}
use mathlib.Core.List.{List}
use mathlib.Core.Bool.{Bool, true, cond}
use mathlib.Core.Logic.{◌≢◌}
use Prim.Native.Nat.{ℕ, ◌-◌, ◌/◌, ◌%◌, ◌^◌, ◌<◌}
use native.Mathlib.Omega.{arith}
use lib.Dec.{eqb}
use lib.ListN.{length, get_or}
use borrow.Author.Tests.{eqb-true, eq-eqb, ne_eqb}
use Rattle.mealy.specs.Word.{Has, Holds}
use Rattle.mealy.proofs.Words.{full_has}
use Rattle.coder.specs.Refusal.{all_below}
use Rattle.coder.proofs.Refusals.{all_at}
use Rattle.setting.specs.Words.{ConflictsOf}

-- ---- all numbers below 16

pub holds_all : Holds (λ x. x < 16) 65535
holds_all =
    record {
      bound = omega arith;
      below = λ x p. p;
      has = full_has 16;
      only = λ x m h. m;
    }

-- ---- all numbers below 16 but i

abbrev but_test : ℕ → Bool
but_test i = all_below 16 (λ x. eqb ((65535 - 2 ^ i) / 2 ^ x % 2) (cond (eqb i x) 0 1))

but_tested : all_below 16 but_test ≡ true
unfolding all_below
but_tested = refl

module _ (i x : ℕ) (l : i < 16) (m : x < 16) where
  bit_but : (65535 - 2 ^ i) / 2 ^ x % 2 ≡ cond (eqb i x) 0 1
  bit_but = eqb-true _ _ (all_at 16 (λ x. eqb ((65535 - 2 ^ i) / 2 ^ x % 2) (cond (eqb i x) 0 1)) (all_at 16 but_test but_tested i l) x m)

  pub has_but : i ≢ x → Has (65535 - 2 ^ i) x
  has_but n = rw (ne_eqb i x n) at bit_but

  pub but_has : Has (65535 - 2 ^ i) x → i ≢ x
  but_has h e = let z : (65535 - 2 ^ i) / 2 ^ x % 2 ≡ 0 = rw (eq-eqb i x e) at bit_but in omega arith

-- ---- all of them, in an array

pub made_all : {words : List ℕ} → length words ≡ 16 → ((i : ℕ) → i < 16 → get_or words i 0 ≡ 65535 - 2 ^ i) → ConflictsOf (λ i j. i ≢ j) words
made_all size is =
    record {
      size = size;
      conflict = λ i j l m n. rw (is i l) (has_but i j l m n);
      conflict' = λ i j l m h. but_has i j l m (rw (is i l) at h);
    }
