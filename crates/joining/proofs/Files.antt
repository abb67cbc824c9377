-- The joined file: it is accepted, its machine has the entries of the joined machine of both files, and so it runs as they do in a row, and
-- their windows add up.
use mathlib.Core.Path.{◌≡◌, refl, sym, ap, ◌∙◌}
use mathlib.Core.List.{List}
use Prim.Native.Nat.{ℕ, ◌+◌, ◌*◌, ◌<◌}
use native.Mathlib.Nat.{mul-le-mul}
use lib.ListN.{length}
use lib.Arith.{digits_lt}
use Rattle.mealy.specs.Machine.{Machine, Total, outs, end, Letters}
use Rattle.mealy.specs.Setting.{Same, any_state}
use Rattle.mealy.specs.Window.{Works}
use Rattle.mealy.proofs.SameSettings.{outs_same, end_same, works_same}
use Rattle.mealy.proofs.SpareStates.{windows_with_spare}
use Rattle.coder.specs.BigEndian.{big_endian}
use Rattle.coder.specs.Accepted.{IsCoder}
use Rattle.coder.specs.File.{states_of, inputs_of, outputs_of, file_refusal, machine_of, setting_after, entries_refusal}
use Rattle.coder.proofs.Accepted.{accepted, coder_accepted, file_named}
use Rattle.coder.proofs.Inverse.{written_read}
use Rattle.coder.proofs.Tables.{total, some_state, output_below}
use Rattle.coder.proofs.Fill.{length_table}
use Rattle.writer.proofs.Writing.{length_file}
use Rattle.joined.specs.Joined.{joined_state, joined, Joinable}
use Rattle.joining.specs.Join.{joined_entries, joined_file, Matching}
use Rattle.joined.proofs.Runs.{letters_outs, joined_total, joined_outs, joined_end}
use Rattle.joining.proofs.Names.{joined_names}
use Rattle.joined.proofs.Windows.{windows_add}
use Rattle.joining.proofs.Entries.{read_in, entries_same, entries_spare, entries_coder}

-- how many bytes it has
pub joined_size : (f g : List ℕ) → length (joined_file f g) ≡ 6 + 2 * (states_of f * states_of g * inputs_of f)
unfolding machine_of joined_entries
joined_size f g = length_file _ _ _ (joined_entries f g) ∙ ap (λ k. 6 + k) (length_table _ _)

module _ (f g : List ℕ) (h : Matching f g) where
  abbrev A : Machine
  A = machine_of f

  abbrev B : Machine
  B = machine_of g

  pub joinable : Joinable A B
  unfolding machine_of
  joinable =
      let a = accepted f h.first in
      let b = accepted g h.second in
      record {
        states₁ = some_state f a;
        states₂ = some_state g b;
        total₁ = total f a;
        total₂ = total g b;
        outputs = λ s i l m. rw h.letters at (output_below f a s i);
      }

  whole : Total (joined A B)
  whole = joined_total A B joinable

  joined_coder : IsCoder (states_of f * states_of g) (inputs_of f) (outputs_of g) (joined_entries f g)
  unfolding machine_of joined_entries
  joined_coder =
      let a = (accepted f h.first).entries.limits in
      let b = (accepted g h.second).entries.limits in
      entries_coder (joined A B) whole (outputs_of g)
      (record {
        states_low = mul-le-mul a.states_low b.states_low;
        states_high = h.states;
        inputs_low = a.inputs_low;
        inputs_high = a.inputs_high;
        outputs_low = b.outputs_low;
        outputs_high = b.outputs_high;
      })
      (λ q i l m. output_below g (accepted g h.second) _ _)
      (joined_names A B joinable (outputs_of g) (rw h.letters at (file_named f h.first)) (file_named g h.second))

  pub joined_entries_lem : entries_refusal (states_of f * states_of g) (inputs_of f) (outputs_of g) (joined_entries f g) ≡ 0
  joined_entries_lem = coder_accepted _ _ _ _ joined_coder

  -- First: the written file is itself accepted.
  pub joined_accepted : file_refusal (joined_file f g) ≡ 0
  joined_accepted = (written_read _ _ _ _ joined_entries_lem).none

  -- its machine is that of the entry bytes
  joined_machine : machine_of (joined_file f g) ≡ read_in (joined A B)
  unfolding machine_of joined_entries big_endian
  joined_machine = refl

  joined_same : Same (any_state (joined A B)) (any_state (machine_of (joined_file f g)))
  joined_same = rw joined_machine (entries_same (joined A B) whole)

  -- Second: running it equals running the second coder on what the first one wrote, end states included.
  module _ (s t : ℕ) (xs : List ℕ) (l : s < states_of f) (m : t < states_of g) (k : Letters (inputs_of f) xs) where
    joined_start : joined_state B s t < (joined A B).states
    unfolding machine_of
    joined_start = digits_lt l m

    pub file_outs : outs (machine_of (joined_file f g)) (s * states_of g + t) xs ≡ outs B t (outs A s xs)
    unfolding machine_of
    file_outs = sym (outs_same joined_same (joined_state B s t) xs joined_start k) ∙ joined_outs A B joinable s t xs l m k

    pub file_end : end (machine_of (joined_file f g)) (s * states_of g + t) xs ≡ end A s xs * states_of g + end B t (outs A s xs)
    unfolding machine_of
    file_end = sym (end_same joined_same (joined_state B s t) xs joined_start k) ∙ joined_end A B joinable s t xs l m k

    -- what the first one writes, the second one takes
    pub file_letters : Letters (inputs_of g) (outs A s xs)
    unfolding machine_of
    file_letters = letters_outs A B joinable s xs l k

  -- Third: windows add up.
  pub file_windows :
      (b a c d : ℕ) → Works (setting_after f 0) b a → Works (setting_after g 0) c d → Works (setting_after (joined_file f g) 0) (b + c) (a + d)
  file_windows b a c d works₁ works₂ =
      let some : 0 < (joined A B).states = mul-le-mul joinable.states₁ joinable.states₂ in
      rw joined_machine
      (works_same (windows_with_spare (entries_spare (joined A B) whole some) 0) (b + c) (a + d)
      (windows_add A B joinable b a c d works₁ works₂))
