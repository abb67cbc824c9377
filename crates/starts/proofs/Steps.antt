-- The steps of a coder from state to state, in words: its entries by output letter, with output letter 0 for all.
use mathlib.Core.Path.{◌≡◌, refl}
use mathlib.Core.Bool.{Bool, true, false, cond}
use mathlib.Core.List.{List}
use Prim.Native.Nat.{ℕ, ◌+◌, ◌*◌, ◌≤◌}
use native.Mathlib.Omega.{arith}
use native.Mathlib.Decide.{dec_lt}
use lib.Dec.{ltb}
use lib.ListN.{length, get_or, replicate, length-replicate, get_or-replicate, get_or-eq_default}
use Rattle.coder.specs.Table.{table_at, machine_of_coder, Sound}
use Rattle.coder.specs.declared.inner.tables.Coder.{Coder}
use Rattle.chains.specs.Parts.{place_parts}
use Rattle.fitting.specs.Tables.{ByOutput, EntriesAsked}
use Rattle.fitting.proofs.Meaning.{leads_successor, successor_leads, entries_asked, parts_high, next_low}
use Rattle.starts.specs.Steps.{StepsOf}

-- the output letters of the steps: 0 at every place
abbrev zero_outputs : List ℕ
zero_outputs = replicate 256 0

zero_output : (p : ℕ) → get_or zero_outputs p 0 ≡ 0
zero_output p =
    elim (dec_lt p 256) [
      | yes l ↦ get_or-replicate {A = ℕ} 256 p 0 0 l
      | no l ↦ let m : length zero_outputs ≤ p = omega (arith, length-replicate {A = ℕ} 256 0) in get_or-eq_default {A = ℕ} zero_outputs 0 m
    ]

module _ {c : Coder} (sound : Sound c) where
  -- the coder with these output letters
  abbrev zeroed : Coder
  zeroed = record { states = c.states; inputs = c.inputs; outputs = c.outputs; next = c.next; output = zero_outputs }

  out_zero : (s x : ℕ) → table_at zero_outputs s x ≡ 0
  unfolding table_at
  out_zero s x = go (ltb x 16)
    where
      go : (b : Bool) → cond b (get_or zero_outputs (16 * s + x) 0) 0 ≡ 0
      go true = zero_output (16 * s + x)
      go false = refl

  zero_sound : Sound zeroed
  zero_sound =
      record {
        states_low = sound.states_low;
        states_high = sound.states_high;
        inputs_low = sound.inputs_low;
        inputs_high = sound.inputs_high;
        outputs_low = sound.outputs_low;
        outputs_high = sound.outputs_high;
        next_state = sound.next_state;
        output_letter = λ s x. rw (out_zero s x) sound.outputs_low;
      }

  pub steps_asked : EntriesAsked (place_parts false) c.next zero_outputs c.states
  steps_asked = entries_asked zero_sound (place_parts false) c.next (parts_high false) (next_low sound)

  pub steps_of :
      {words : List ℕ} → ByOutput (place_parts false) c.next zero_outputs c.states c.inputs words →
      StepsOf (machine_of_coder c) words
  steps_of {words} are =
      record {
        each = λ o s l m. (are.holds o s l m).bound;
        to = λ s t h.
            let e = leads_successor zeroed zero_sound are 0 s t (omega arith) h in
            record { x = e.x; letter = e.entry.letter; to = e.entry.to };
        from = λ s t l e.
            successor_leads zeroed zero_sound are 0 s t (omega arith)
            (record { x = e.x; entry = record { state = omega arith; letter = e.letter; output = out_zero s e.x; to = e.to } });
      }
