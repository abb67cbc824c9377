-- Chains of entries: the last entry with a key, and the entry before each with the same key.
use Rattle.std.specs.Prelude.{ℕ, zero, suc, ◌/◌, ◌%◌, ◌<◌, ◌≤◌, ◌≡◌, Bool, true, ◌&&◌, cond, List, get_or, ltb, eqb}
use Rattle.chains.specs.declared.inner.Chain.{Chain}

-- place p of the tables of a coder with n states and i input letters holds an entry
unfoldable pub is_entry : ℕ → ℕ → ℕ → Bool
is_entry n i p = ltb (p / 16) n && ltb (p % 16) i

-- an entry with the key k
unfoldable pub has_key : List ℕ → ℕ → ℕ → ℕ → ℕ → Bool
has_key keys n i k p = is_entry n i p && eqb (get_or keys p 0) k

-- the number of the last place below p that passes the test, counted from 1; 0 where none does
unfoldable pub last_below : (ℕ → Bool) → ℕ → ℕ
last_below test zero = 0
last_below test (suc p) = cond (test p) (suc p) (last_below test p)

-- what `by_key` asks of its keys
pub record Keys (keys : List ℕ) (n i : ℕ) : Type 0 where
  pub states : n ≤ 16
  pub inputs : i ≤ 16
  pub below : (p : ℕ) → get_or keys p 0 < 64

-- what it makes of them
pub record Chained (keys : List ℕ) (n i : ℕ) (c : Chain) : Type 0 where
  pub last : (k : ℕ) → k < 64 → get_or c.last k 0 ≡ last_below (has_key keys n i k) 256
  pub previous : (p : ℕ) → p < 256 → is_entry n i p ≡ true → get_or c.previous p 0 ≡ last_below (has_key keys n i (get_or keys p 0)) p

-- from the last place below p to the first: f is applied at each place that passes the test
unfoldable pub over : {A : Type 0} → (ℕ → Bool) → (A → ℕ → A) → A → ℕ → A
over test f acc zero = acc
over test f acc (suc p) = over test f (cond (test p) (f acc p) acc) p
