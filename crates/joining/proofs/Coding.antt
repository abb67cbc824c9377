-- The entry bytes of two coders in a row, entry by entry.
use mathlib.Core.Path.{◌≡◌, refl, sym, ap₂, ◌∙◌}
use mathlib.Core.List.{List}
use Prim.Native.Nat.{ℕ, ◌+◌, ◌*◌, ◌/◌, ◌%◌, ◌≤◌, ◌<◌}
use native.Mathlib.Nat.{mul-le-mul, div-le_self}
use native.Mathlib.Omega.{arith}
use lib.ListN.{length, set, take}
use lib.Seq.{length-take-le, get_or-take, ext_get_or}
use lib.Arith.{digits_lt, digits_div, digits_mod}
use Rattle.mealy.specs.Machine.{Machine}
use Rattle.coder.specs.File.{file_of}
use Rattle.coder.specs.Limits.{max_states}
use Rattle.coder.specs.Table.{table, coder_of}
use Rattle.coder.specs.declared.inner.tables.Coder.{Coder}
use Rattle.coder.proofs.Accepted.{accepted}
use Rattle.coder.proofs.Tables.{machine_same, sound_coder}
use Rattle.coder.proofs.EntryPlaces.{placed}
use Rattle.coder.proofs.Fill.{Filled, length_table, get_or_table, filled_more}
use Rattle.writer.specs.Write.{WriteAsked, FileWritten}
use Rattle.joined.specs.Joined.{joined}
use Rattle.joining.specs.EntryBytes.{entry_byte_of, entry_bytes_of}
use Rattle.joining.specs.Join.{joined_entries, joined_file, JoinAsked}
use Rattle.joining.specs.Tables.{EntryAsked, joined_entry, StandsAt, PlaceAsked, CodersMatch, joined_coders, EntriesFirst}
use Rattle.joining.specs.declared.inner.EntryBytes.{EntryBytes}
use Rattle.joining.specs.declared.inner.Place.{Place}
use Rattle.joining.proofs.Entries.{next_byte, output_byte}
use Rattle.joining.proofs.Files.{joined_entries_lem}

-- the first k places of an array that is filled that far
filled_front : {n : ℕ} {g : ℕ → ℕ} {s : List ℕ} {k : ℕ} {l : List ℕ} → Filled n g s k l → k ≤ n → take k l ≡ table k g
filled_front {n} {g} {s} {k} {l} f m =
    let long : length (take k l) ≡ k = length-take-le k l (omega (arith, f.size)) in
    ext_get_or 0 (take k l) (table k g) (long ∙ sym (length_table k g))
    (λ j lt.
    let q : j < k = omega (arith, long) in
    get_or-take k l j 0 q ∙ f.is j q ∙ sym (get_or_table k g j q))

module _ (c d : Coder) (m : CodersMatch c d) where
  pub entries_few : c.states * d.states * c.inputs ≤ 256
  entries_few = mul-le-mul m.states m.sound₁.inputs_high

  pub place_none : StandsAt d.states c.inputs 0 (record { first = 0; second = 0; letter = 0 })
  place_none =
      record {
        place = omega arith;
        second = omega (arith, m.sound₂.states_low);
        letter = omega (arith, m.sound₁.inputs_low);
      }

  module _ (j : ℕ) (p : Place) (at : StandsAt d.states c.inputs j p) where
    -- the entry at this place is entry j of the joined machine
    state : j / c.inputs ≡ p.first * d.states + p.second
    state = rw at.place (digits_div (p.first * d.states + p.second) at.letter)

    letter : j % c.inputs ≡ p.letter
    letter = rw at.place (digits_mod (p.first * d.states + p.second) at.letter)

    first_of : (j / c.inputs) / d.states ≡ p.first
    first_of = rw state (digits_div p.first at.second)

    second_of : (j / c.inputs) % d.states ≡ p.second
    second_of = rw state (digits_mod p.first at.second)

    module _ (l : j < c.states * d.states * c.inputs) where
      first_small : p.first < max_states
      first_small =
          let q = placed (c.states * d.states) c.inputs j l in
          omega (arith, first_of, div-le_self (j / c.inputs) d.states, q.state, m.states)

      pub entry_asked : EntryAsked c.next c.output d.next d.states p.first p.second p.letter
      entry_asked =
          record {
            first = first_small;
            second = omega (arith, at.second, m.sound₂.states_high);
            letter = omega (arith, at.letter, m.sound₁.inputs_high);
            letters = λ s i. omega (arith, m.sound₁.output_letter s i, m.letters, m.sound₂.inputs_high);
            next_state = λ s i t y. omega (arith, digits_lt (m.sound₁.next_state s i) (m.sound₂.next_state t y), m.states);
          }

      pub place_asked : PlaceAsked p
      place_asked =
          record {
            first = first_small;
            second = omega (arith, at.second, m.sound₂.states_high);
            letter = omega (arith, at.letter, m.sound₁.inputs_high);
          }

    -- it is written
    pub entries_more :
        {s l : List ℕ} {e : EntryBytes} → Filled 512 (entry_byte_of (joined_coders c d)) s (2 * j) l → 2 * j + 1 < 512 →
        e ≡ joined_entry c.next c.output d.next d.output d.states p.first p.second p.letter →
        Filled 512 (entry_byte_of (joined_coders c d)) s (2 * (j + 1)) (set (set l (2 * j) e.next) (2 * j + 1) e.output)
    entries_more {s} {l} {e} f small is =
        let M = joined_coders c d in
        let next : M.next (j / c.inputs) (j % c.inputs) ≡ e.next = rw (first_of, second_of, letter, is) refl in
        let output : M.out (j / c.inputs) (j % c.inputs) ≡ e.output = rw (first_of, second_of, letter, is) refl in
        let one = filled_more f (omega arith) (sym (next_byte M j ∙ next)) in
        let two = filled_more one small (sym (output_byte M j ∙ output)) in
        let k : 2 * j + 1 + 1 ≡ 2 * (j + 1) = omega arith in
        rw k at two

  pub entries_all :
      {s l : List ℕ} (j : ℕ) → Filled 512 (entry_byte_of (joined_coders c d)) s (2 * j) l → j ≡ c.states * d.states * c.inputs →
      EntriesFirst c d l
  entries_all {s} {l} j f e = rw e at (filled_front f (omega (arith, entries_few)))

-- ---- the tables of two files

module _ {f g before : List ℕ} (q : JoinAsked f g before) {c d : Coder} (first : c ≡ coder_of f) (second : d ≡ coder_of g) where
  pub coders_match : CodersMatch c d
  unfolding coder_of
  coders_match =
      rw (first, second)
      (record {
        sound₁ = sound_coder f (accepted f q.matches.first);
        sound₂ = sound_coder g (accepted g q.matches.second);
        letters = q.matches.letters;
        states = q.matches.states;
      })

  module _ (bytes : List ℕ) (h : EntriesFirst c d bytes) where
    abbrev front : List ℕ
    front = take (2 * (c.states * d.states * c.inputs)) bytes

    front_is : front ≡ joined_entries f g
    unfolding joined_entries
    front_is =
        h
        ∙ ap₂ (λ (x y : Coder). entry_bytes_of (joined_coders x y)) first second
        ∙ ap₂ (λ (x y : Machine). entry_bytes_of (joined x y)) (machine_same f (accepted f q.matches.first))
        (machine_same g (accepted g q.matches.second))

    pub write_asked : WriteAsked (c.states * d.states) c.inputs d.outputs front before
    unfolding coder_of
    write_asked = rw (front_is, first, second) (record { none = joined_entries_lem f g q.matches; room = q.room })

    -- what the writer made is the joined file
    pub joined_written :
        {count : ℕ} {after : List ℕ} →
        FileWritten (file_of (c.states * d.states) c.inputs d.outputs front) before count after →
        FileWritten (joined_file f g) before count after
    unfolding coder_of
    joined_written {count} {after} w = rw (front_is, first, second) at w
