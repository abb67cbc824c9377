-- Places that hold an entry, and entries with a key.
use mathlib.Core.Path.{◌≡◌, refl, ◌∙◌}
use mathlib.Core.Bool.{Bool, true, false, ◌&&◌}
use mathlib.Core.List.{List}
use Prim.Native.Nat.{ℕ, ◌*◌, ◌/◌, ◌%◌, ◌≤◌, ◌<◌}
use native.Mathlib.Omega.{arith}
use lib.ListN.{get_or}
use lib.Dec.{ltb, eqb}
use borrow.Author.Tests.{lt-ltb, le-ltb, ltb-true, eq-eqb, eqb-true}
use Rattle.coder.proofs.Refusals.{both_true}
use Rattle.coder.specs.Table.{Sound}
use Rattle.coder.specs.declared.inner.tables.Coder.{Coder}
use Rattle.coder.proofs.Tables.{output_high}
use Rattle.chains.specs.Chain.{is_entry, has_key, Keys}

pub is_entry_lem : (n i p : ℕ) → p / 16 < n → p % 16 < i → is_entry n i p ≡ true
unfolding is_entry
is_entry_lem n i p l m = rw (lt-ltb (p / 16) n l, lt-ltb (p % 16) i m)

pub past_inputs : (n i p : ℕ) → i ≤ p % 16 → is_entry n i p ≡ false
unfolding is_entry
past_inputs n i p l = rw (le-ltb (p % 16) i l) (go (ltb (p / 16) n))
  where
    go : (b : Bool) → (b && false) ≡ false
    go true = refl
    go false = refl

pub past_states : (n i p : ℕ) → 16 * n ≤ p → is_entry n i p ≡ false
unfolding is_entry
past_states n i p l = rw (le-ltb (p / 16) n (omega arith))

-- what is known of an entry
pub record EntryPlace (n i p : ℕ) : Type 0 where
  pub state : p / 16 < n
  pub letter : p % 16 < i

pub entry_place : (n i p : ℕ) → is_entry n i p ≡ true → EntryPlace n i p
unfolding is_entry
entry_place n i p e =
    let b = both_true _ _ e in
    record { state = ltb-true _ _ b.0; letter = ltb-true _ _ b.1 }

module _ (keys : List ℕ) (n i : ℕ) where
  pub no_key : (k p : ℕ) → is_entry n i p ≡ false → has_key keys n i k p ≡ false
  unfolding has_key
  no_key k p e = rw e

  pub key_test : (k p : ℕ) → is_entry n i p ≡ true → has_key keys n i k p ≡ eqb (get_or keys p 0) k
  unfolding has_key
  key_test k p e = rw e

  pub has_key_lem : (k p : ℕ) → is_entry n i p ≡ true → get_or keys p 0 ≡ k → has_key keys n i k p ≡ true
  has_key_lem k p e f = key_test k p e ∙ eq-eqb _ _ f

  pub key_entry : (k p : ℕ) → has_key keys n i k p ≡ true → (is_entry n i p ≡ true) × (get_or keys p 0 ≡ k)
  unfolding has_key
  key_entry k p e = let b = both_true _ _ e in (b.0, eqb-true _ _ b.1)

-- the output letters of a sound coder are keys
pub output_keys : (c : Coder) → Sound c → Keys c.output c.states c.inputs
output_keys c s =
    record {
      states = s.states_high;
      inputs = s.inputs_high;
      below = λ p. omega (arith, output_high c s p, s.outputs_high);
    }
