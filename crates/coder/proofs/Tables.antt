-- The places of entries, their tables, and the machine in them.
use mathlib.Core.Path.{◌≡◌, refl, sym, ◌∙◌, fun_ext}
use mathlib.Core.Bool.{Bool, true, false}
use mathlib.Core.List.{List}
use Prim.Native.Nat.{ℕ, ◌+◌, ◌*◌, ◌/◌, ◌%◌, ◌<◌, ◌≤◌}
use native.Mathlib.Decide.{dec_lt}
use native.Mathlib.Omega.{arith}
use lib.ListN.{get_or, get_or-eq_default}
use lib.Dec.{ltb}
use borrow.Author.Tests.{ltb-true, ltb-false, lt-ltb, le-ltb}
use Rattle.mealy.specs.Machine.{Total}
use Rattle.mealy.specs.Setting.{Bounded}
use Rattle.mealy.proofs.ReachableStates.{reachable_bounded, dec_reachable}
use Rattle.coder.specs.File.{outputs_of, entry_of, machine_of_entries, machine_of, setting_of}
use Rattle.coder.specs.Table.{table_of, coder_of_entries, coder_of, table_at, machine_of_coder, Sound}
use Rattle.coder.specs.declared.inner.tables.Coder.{Coder}
use Rattle.coder.specs.Accepted.{IsCoder}
use Rattle.coder.proofs.Accepted.{Accepted}
use Rattle.coder.proofs.EntryPlaces.{place}
use Rattle.coder.proofs.Fill.{length_table, get_or_table}

-- A byte of an entry is one of the bytes, or 0.
pub entry_cases :
    (P : ℕ → Type 0) (n m : ℕ) (entries : List ℕ) (b s i : ℕ) →
    (s < n → i < m → P (get_or entries (2 * (m * s + i) + b) 0)) →
    ((s < n → i < m → ⊥) → P 0) → P (entry_of n m entries b s i)
unfolding entry_of
entry_cases P n m entries b s i h z = go (ltb s n) (ltb i m) refl refl
  where
    go : (x y : Bool) → ltb s n ≡ x → ltb i m ≡ y → P (entry_of n m entries b s i)
    go false y e g = let l = ltb-false s n e in rw e (z (λ p q. omega arith))
    go true false e g = let l = ltb-false i m g in rw (e, g) (z (λ p q. omega arith))
    go true true e g = rw (e, g) (h (ltb-true _ _ e) (ltb-true _ _ g))

module _ (n m : ℕ) (entries : List ℕ) (b : ℕ) where
  pub no_entry : (s i : ℕ) → (s < n → i < m → ⊥) → entry_of n m entries b s i ≡ 0
  no_entry s i h = entry_cases (λ v. v ≡ 0) n m entries b s i (λ p q. absurd (h p q)) (λ z. refl)

  -- a table holds 0 from place 16 N on
  pub no_entry_from : (k : ℕ) → 16 * n ≤ k → entry_of n m entries b (k / 16) (k % 16) ≡ 0
  no_entry_from k l = no_entry (k / 16) (k % 16) (λ p q. omega arith)

  at_place : (s i : ℕ) → i < 16 → entry_of n m entries b ((16 * s + i) / 16) ((16 * s + i) % 16) ≡ entry_of n m entries b s i
  at_place s i l =
      let p : (16 * s + i) / 16 ≡ s = omega arith in
      let q : (16 * s + i) % 16 ≡ i = omega arith in
      rw (p, q)

-- the place of a table by its state and letter, and the other way round
pub table_at_lem : (t : List ℕ) (p : ℕ) → table_at t (p / 16) (p % 16) ≡ get_or t p 0
unfolding table_at
table_at_lem t p =
    let e : 16 * (p / 16) + p % 16 ≡ p = omega arith in
    rw (lt-ltb (p % 16) 16 (omega arith), e)

pub table_place : (t : List ℕ) (s i : ℕ) → i < 16 → get_or t (16 * s + i) 0 ≡ table_at t s i
unfolding table_at
table_place t s i l = rw (lt-ltb i 16 l)

-- what stands at any place of sound tables
pub next_high : (c : Coder) → Sound c → (p : ℕ) → get_or c.next p 0 < c.states
next_high c s p = rw (table_at_lem c.next p) at (s.next_state (p / 16) (p % 16))

pub output_high : (c : Coder) → Sound c → (p : ℕ) → get_or c.output p 0 < c.outputs
output_high c s p = rw (table_at_lem c.output p) at (s.output_letter (p / 16) (p % 16))

-- the tables of counts within the limits hold the entries, at every state and letter
module _ (n m : ℕ) (entries : List ℕ) (b : ℕ) (ln : n ≤ 16) (lm : m ≤ 16) (s i : ℕ) where
  entry_at : i < 16 → get_or (table_of n m entries b) (16 * s + i) 0 ≡ entry_of n m entries b s i
  entry_at l =
      let g : ℕ → ℕ = λ k. entry_of n m entries b (k / 16) (k % 16) in
      elim (dec_lt s 16) [
        | yes p ↦ get_or_table 256 g (16 * s + i) (omega arith) ∙ at_place n m entries b s i l
        | no p ↦
            get_or-eq_default (table_of n m entries b) 0 (omega (arith, length_table 256 g))
            ∙ sym (no_entry n m entries b s i (λ q r. omega arith))
      ]

  pub table_entry : table_at (table_of n m entries b) s i ≡ entry_of n m entries b s i
  unfolding table_at
  table_entry =
      elim (dec_lt i 16) [
        | yes p ↦ rw (lt-ltb i 16 p) (entry_at p)
        | no p ↦ rw (le-ltb i 16 (omega arith)) (sym (no_entry n m entries b s i (λ q r. omega arith)))
      ]

-- a byte of an entry is below k, at every state and letter
entry_below :
    (n m : ℕ) (entries : List ℕ) (b k : ℕ) → ((j : ℕ) → j < n * m → get_or entries (2 * j + b) 0 < k) → 0 < k →
    (s i : ℕ) → entry_of n m entries b s i < k
entry_below n m entries b k h z s i =
    entry_cases (λ v. v < k) n m entries b s i (λ p q. h (m * s + i) (place p q)) (λ n. z)

module _ {n m o : ℕ} {entries : List ℕ} (a : IsCoder n m o entries) where
  pub table_same : (b : ℕ) → table_at (table_of n m entries b) ≡ entry_of n m entries b
  table_same b =
      let l = a.limits in
      fun_ext (λ s. fun_ext (λ i. table_entry n m entries b l.states_high l.inputs_high s i))

  pub entries_machine : machine_of_coder (coder_of_entries n m o entries) ≡ machine_of_entries n m entries
  entries_machine =
      let x = table_same 0 in
      let y = table_same 1 in
      λ t. record { states = n; inputs = m; next = x t; out = y t }

  -- a next state is a state and an output letter is below O
  pub next_entry_below : (s i : ℕ) → entry_of n m entries 0 s i < n
  next_entry_below =
      entry_below n m entries 0 n (λ j l. let e : 2 * j + 0 ≡ 2 * j = omega arith in rw e (a.next_state j l)) a.limits.states_low

  pub output_entry_below : (s i : ℕ) → entry_of n m entries 1 s i < o
  output_entry_below = entry_below n m entries 1 o a.output_letter a.limits.outputs_low

  pub sound_entries : Sound (coder_of_entries n m o entries)
  sound_entries =
      let l = a.limits in
      record {
        states_low = l.states_low;
        states_high = l.states_high;
        inputs_low = l.inputs_low;
        inputs_high = l.inputs_high;
        outputs_low = l.outputs_low;
        outputs_high = l.outputs_high;
        next_state = λ s i. rw (table_same 0) (next_entry_below s i);
        output_letter = λ s i. rw (table_same 1) (output_entry_below s i);
      }

module _ (f : List ℕ) (a : Accepted f) where
  pub machine_same : machine_of_coder (coder_of f) ≡ machine_of f
  unfolding machine_of coder_of
  machine_same = entries_machine a.entries

  pub output_below : (s i : ℕ) → (machine_of f).out s i < outputs_of f
  unfolding machine_of
  output_below = output_entry_below a.entries

  pub total : Total (machine_of f)
  unfolding machine_of
  total s i p q = next_entry_below a.entries s i

  pub some_state : 0 < (machine_of f).states
  unfolding machine_of
  some_state = a.entries.limits.states_low

  -- a reachable state is a state, and whether a number is one can be decided
  pub file_bounded : Bounded (setting_of f)
  file_bounded = reachable_bounded (machine_of f) total some_state

  pub dec_start : (s : ℕ) → Dec ((setting_of f).Start s)
  dec_start = dec_reachable (machine_of f) total some_state

  pub sound_coder : Sound (coder_of f)
  unfolding coder_of
  sound_coder = sound_entries a.entries
