-- Rows of entries: the entries with one key side by side.
use Rattle.std.specs.Prelude.{ℕ, suc, ◌+◌, ◌<◌, ◌≤◌, ◌≡◌, Bool, cond, List, get_or, ltb}
use Rattle.chains.specs.Chain.{has_key, last_below}
use Rattle.chains.specs.declared.inner.Rows.{Rows}

-- the number of the entry at place j of a row that ends before place e, counted from 1; q at the row's end
abbrev pub ahead : List ℕ → ℕ → ℕ → ℕ → ℕ
ahead entries e q j = cond (ltb j e) (suc (get_or entries j 0)) q

-- From place b to the one before e stand the places that pass the test, the last first, down to the one with number q; all of them
-- where q is 0.
pub record Row (test : ℕ → Bool) (entries : List ℕ) (b e q : ℕ) : Type 0 where
  pub first : ahead entries e q b ≡ last_below test 256
  pub more : (j : ℕ) → b ≤ j → j < e → ahead entries e q (j + 1) ≡ last_below test (get_or entries j 0)

-- what `rows_by_key` makes of its keys
pub record Rowed (keys : List ℕ) (n i : ℕ) (r : Rows) : Type 0 where
  pub bound : (k : ℕ) → k ≤ 64 → get_or r.start k 0 ≤ 256
  pub row : (k : ℕ) → k < 64 → Row (has_key keys n i k) r.entries (get_or r.start k 0) (get_or r.start (k + 1) 0) 0
