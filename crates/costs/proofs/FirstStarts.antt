-- The first pair of start states with the fewest letters: of the pairs passed so far, and of all.
use mathlib.Core.Path.{◌≡◌, ◌∙◌}
use mathlib.Core.List.{List}
use Prim.Native.Nat.{ℕ, ◌+◌, ◌*◌, ◌<◌, ◌≤◌}
use native.Mathlib.Decide.{ℕ_discrete}
use native.Mathlib.Omega.{arith}
use Rattle.first_pair.specs.Cost.{too_long}
use Rattle.costs.specs.Starts.{total_of, StartPair, FirstStart}

-- of the numbers below a with P: the least total, and the first number that has it, where one is below the cap
pub record FirstBelow (P : ℕ → Type 0) (total : ℕ → ℕ) (cap fewest first a : ℕ) : Type 0 where
  pub high : fewest ≤ cap
  pub least : (b : ℕ) → b < a → P b → fewest ≤ total b
  pub is : fewest < cap → P first
  pub has : fewest < cap → total first ≡ fewest
  pub before : fewest < cap → (b : ℕ) → b < a → P b → total b ≡ fewest → first ≤ b
  pub passed : fewest < cap → first < a

pub start_none : {P : ℕ → Type 0} {total : ℕ → ℕ} {cap first : ℕ} → FirstBelow P total cap cap first 0
start_none =
    record {
      high = omega arith;
      least = λ b l p. absurd (omega arith);
      is = λ l. absurd (omega arith);
      has = λ l. absurd (omega arith);
      before = λ l b m p e. absurd (omega arith);
      passed = λ l. absurd (omega arith);
    }

module _ {P : ℕ → Type 0} {total : ℕ → ℕ} {cap fewest first a : ℕ} (f : FirstBelow P total cap fewest first a) where
  -- a does not change it: it has not P, or no lower total
  pub start_kept : (P a → fewest ≤ total a) → FirstBelow P total cap fewest first (a + 1)
  start_kept h =
      record {
        high = f.high;
        least = λ b l p. elim (ℕ_discrete b a) [
          | yes e ↦ rw e (h (rw e at p))
          | no n ↦ f.least b (omega arith) p
        ];
        is = f.is;
        has = f.has;
        before = λ l b m p e. elim (ℕ_discrete b a) [
          | yes q ↦ omega (arith, f.passed l)
          | no n ↦ f.before l b (omega arith) p e
        ];
        passed = λ l. omega (arith, f.passed l);
      }

  -- a has P and a lower total
  pub start_lower : {n : ℕ} → P a → n ≡ total a → n < fewest → FirstBelow P total cap n a (a + 1)
  start_lower {n} p e l =
      let h = f.high in
      record {
        high = omega arith;
        least = λ b m q. elim (ℕ_discrete b a) [
          | yes z ↦ rw z (omega arith)
          | no z ↦ omega (arith, f.least b (omega arith) q)
        ];
        is = λ m. p;
        has = λ m. omega arith;
        before = λ m b k q z. elim (ℕ_discrete b a) [
          | yes y ↦ omega arith
          | no y ↦ absurd (omega (arith, f.least b (omega arith) q))
        ];
        passed = λ m. omega arith;
      }

-- every pair of states is passed: of all pairs of start states
pub start_found :
    {states starts fewest first a : ℕ} {loops heads : List ℕ} →
    FirstBelow (StartPair states starts) (total_of loops heads) too_long fewest first a → 16 * states ≤ a →
    (b : ℕ) → StartPair states starts b → total_of loops heads b < too_long → FirstStart states starts loops heads first
start_found {states} {starts} {fewest} {first} {a} {loops} {heads} f l b s m =
    let k : fewest < too_long = omega (arith, f.least b (omega (arith, s.0.0)) s) in
    let e : total_of loops heads first ≡ fewest = f.has k in
    record {
      start = f.is k;
      fewest = λ d p. rw e (f.least d (omega (arith, p.0.0)) p);
      first = λ d p q. f.before k d (omega (arith, p.0.0)) p (q ∙ e);
    }
