-- Reading the entry bytes of a machine gives its entries; so its file is accepted where its counts are within the limits and its letters
-- are the whole alphabet, runs as the machine, and has the same working windows.
use mathlib.Core.Path.{◌≡◌, refl, sym, ap, ◌∙◌}
use Prim.Native.Nat.{ℕ, ◌+◌, ◌*◌, ◌/◌, ◌%◌, ◌<◌}
use native.Mathlib.Nat.{mul_comm}
use native.Mathlib.Omega.{arith}
use lib.ListN.{get_or}
use lib.Arith.{digits_div, digits_mod}
use Rattle.mealy.specs.Machine.{Machine, Total}
use Rattle.mealy.specs.Reachable.{WithSpare}
use Rattle.mealy.specs.Setting.{Same, any_state}
use Rattle.mealy.proofs.ReachableStates.{reachable_bounded}
use Rattle.coder.specs.Alphabet.{NamesAlphabet}
use Rattle.coder.specs.Accepted.{InLimits, IsCoder}
use Rattle.coder.specs.File.{machine_of_entries}
use Rattle.coder.proofs.EntryPlaces.{place, placed}
use Rattle.coder.proofs.Fill.{length_table, get_or_table}
use Rattle.coder.proofs.Tables.{entry_cases}
use Rattle.joined.specs.Joined.{OutputsBelow}
use Rattle.joining.specs.EntryBytes.{entry_byte_of, entry_bytes_of}

module _ (M : Machine) where
  open M use {states, inputs, next, out}

  -- the machine that is read from the bytes
  abbrev pub read_in : Machine
  read_in = machine_of_entries states inputs (entry_bytes_of M)

  -- the two bytes of entry j
  pub next_byte : (j : ℕ) → entry_byte_of M (2 * j) ≡ next (j / inputs) (j % inputs)
  next_byte j = let e : 2 * j % 2 ≡ 0 = omega arith in let h : 2 * j / 2 ≡ j = omega arith in rw (e, h)

  pub output_byte : (j : ℕ) → entry_byte_of M (2 * j + 1) ≡ out (j / inputs) (j % inputs)
  output_byte j = let e : (2 * j + 1) % 2 ≡ 1 = omega arith in let h : (2 * j + 1) / 2 ≡ j = omega arith in rw (e, h)

  next_at : (j : ℕ) → j < states * inputs → get_or (entry_bytes_of M) (2 * j) 0 ≡ next (j / inputs) (j % inputs)
  next_at j l = get_or_table _ (entry_byte_of M) (2 * j) (omega arith) ∙ next_byte j

  output_at : (j : ℕ) → j < states * inputs → get_or (entry_bytes_of M) (2 * j + 1) 0 ≡ out (j / inputs) (j % inputs)
  output_at j l = get_or_table _ (entry_byte_of M) (2 * j + 1) (omega arith) ∙ output_byte j

  -- the entry of state s and letter i
  module _ (s i : ℕ) (l : s < states) (m : i < inputs) where
    at : inputs * s + i < states * inputs
    at = place l m

    state : (inputs * s + i) / inputs ≡ s
    state = let e : inputs * s + i ≡ s * inputs + i = ap (λ k. k + i) (mul_comm inputs s) in rw e (digits_div s m)

    letter : (inputs * s + i) % inputs ≡ i
    letter = let e : inputs * s + i ≡ s * inputs + i = ap (λ k. k + i) (mul_comm inputs s) in rw e (digits_mod s m)

    pub same_next : next s i ≡ read_in.next s i
    same_next =
        entry_cases (λ v. next s i ≡ v) states inputs (entry_bytes_of M) 0 s i
        (λ _ _.
        let e : 2 * (inputs * s + i) + 0 ≡ 2 * (inputs * s + i) = omega arith in
        sym (rw e (next_at (inputs * s + i) at ∙ rw (state, letter))))
        (λ z. absurd (z l m))

    pub same_out : out s i ≡ read_in.out s i
    same_out =
        entry_cases (λ v. out s i ≡ v) states inputs (entry_bytes_of M) 1 s i
        (λ _ _. sym (output_at (inputs * s + i) at ∙ rw (state, letter)))
        (λ z. absurd (z l m))

  module _ (total : Total M) where
    -- runs from any state
    pub entries_same : Same (any_state M) (any_state read_in)
    entries_same = record {
      closed = total;
      inputs = refl;
      start = λ s l. l;
      start' = λ s l. l;
      next = same_next;
      out = same_out;
      conflict = λ i j l m d. d;
      conflict' = λ i j l m d. d;
    }

    -- runs from reachable states
    pub entries_spare : 0 < states → WithSpare M read_in
    entries_spare some = record {
      inputs = refl;
      next = λ s i r. same_next s i (reachable_bounded M total some s r);
      out = λ s i r. same_out s i (reachable_bounded M total some s r);
    }

    -- the bytes are those of a coder
    pub entries_coder :
        (o : ℕ) → InLimits states inputs o → OutputsBelow M o → NamesAlphabet M o → IsCoder states inputs o (entry_bytes_of M)
    entries_coder o limits below named = record {
      limits = limits;
      size = length_table _ (entry_byte_of M);
      next_state = λ j l. let p = placed states inputs j l in rw (next_at j l) (total _ _ p.state p.letter);
      output_letter = λ j l. let p = placed states inputs j l in rw (output_at j l) (below _ _ p.state p.letter);
      alphabet = λ y l. let h = named y l in (h.0, h.1, h.2, h.3, sym (same_out h.0 h.1 h.2 h.3) ∙ h.4);
    }
