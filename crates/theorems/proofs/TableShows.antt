-- A decoder table shows whether its window works: it does exactly where no byte of the table is 255.
use mathlib.Core.Path.{◌≡◌, refl, sym, ap, subst, ◌∙◌}
use mathlib.Core.Logic.{◌≢◌}
use mathlib.Core.Bool.{Bool, true}
use mathlib.Core.List.{List}
use Prim.Native.Nat.{ℕ, ◌+◌, ◌<◌, ◌≤◌}
use native.Mathlib.Omega.{arith}
use lib.ListN.{length, get_or}
use Rattle.mealy.specs.Machine.{outs}
use Rattle.mealy.specs.Setting.{Setting}
use Rattle.mealy.specs.Window.{Works}
use Rattle.mealy.specs.Answer.{Answer, letter, none, several, Two, Answers, byte_of}
use Rattle.mealy.specs.Index.{index_of, window_at}
use Rattle.mealy.proofs.Indices.{length_window, index_below, index_window}
use Rattle.mealy.proofs.Answers.{answer_unique}
use Rattle.mealy.proofs.RunParts.{length_outs}
use Rattle.coder.specs.File.{outputs_of, machine_of}
use Rattle.coder.proofs.Accepted.{Accepted, accepted}
use Rattle.coder.proofs.Tables.{output_below}
use Rattle.values.specs.Window.{size}
use Rattle.values.specs.declared.Window.{Window}
use Rattle.decoder_refusal.specs.Refusal.{table_size, table_refusal_in}
use Rattle.decoder.specs.Window.{window_setting}
use Rattle.decoder.specs.Table.{EntryOf}
use Rattle.layout.specs.Layout.{field_at}
use Rattle.decoder_refusal.proofs.Accepting.{table_accepted, table_others}
use Rattle.theorems.proofs.Answered.{letter_small}
use Rattle.theorems.proofs.Counted.{Counted, counted, counted_from_C}
use Rattle.theorems.specs.TableShows.{Shows, TableShows}
use Rattle.theorems.proofs.RoundTrip.{outs_letters}

-- 255 is the byte of "several" alone, where letters are below 16
several_byte :
    (S : Setting) (w : List ℕ) (b : ℕ) → S.M.inputs ≤ 16 → (v : Answer) → Answers S w b v → byte_of v ≡ 255 → Two S w b
several_byte S w b l (letter x) h e = absurd (omega (arith, letter_small S w b x l h))
several_byte S w b l (none k) h e = absurd (omega arith)
several_byte S w b l several h e = h

-- two runs with the outputs of a window that works have one letter at its present place
never_two :
    (S : Setting) → ((i j : ℕ) → i ≢ j → S.Conflict i j) → (b a : ℕ) → Works S b a → (w : List ℕ) → length w ≡ b + 1 + a →
    Two S w b → ⊥
never_two S different b a works w long t =
    let f = t.fits₁ in
    let g = t.fits₂ in
    works f.s g.s f.xs g.xs f.start g.start
    (record {
      letters₁ = f.letters;
      letters₂ = g.letters;
      length₁ = sym (length_outs S.M f.s f.xs) ∙ ap length f.outputs ∙ long;
      length₂ = sym (length_outs S.M g.s g.xs) ∙ ap length g.outputs ∙ long;
      outputs = f.outputs ∙ sym g.outputs;
    })
    (different _ _ (λ e. t.differ (sym f.letter ∙ e ∙ g.letter)))

-- a table that was filled: the call was not refused, and each of its n bytes is right
abbrev Filled : List ℕ → Window → ℕ → ℕ → List ℕ → Type 0
Filled f w room n after = Counted (table_refusal_in f w room true) (table_size (outputs_of f) w) (EntryOf f w) n after

module _ (f : List ℕ) (w : Window) (room n : ℕ) (after : List ℕ) (t : Filled f w room n after) where
  file : Accepted f
  file = accepted f (table_accepted f w _ t.accepted).limits.file

  inputs_high : (machine_of f).inputs ≤ 16
  unfolding machine_of
  inputs_high = file.entries.limits.inputs_high

  none_several : Works (window_setting f w) w.before w.after → (k : ℕ) → k < n → get_or after k 0 ≢ 255
  none_several works k l e =
      let part = window_at (outputs_of f) (size w) k in
      let r = t.each k l in
      never_two (window_setting f w) (λ i j d. d) w.before w.after works part (length_window (outputs_of f) (size w) k)
      (several_byte (window_setting f w) part w.before inputs_high r.answer r.right (sym r.byte ∙ e))

  shows_works : ((k : ℕ) → k < n → get_or after k 0 ≢ 255) → Works (window_setting f w) w.before w.after
  shows_works never s u xs ys start₁ start₂ equal differ =
      let S = window_setting f w in
      let b = w.before in
      let o = outs (machine_of f) s xs in
      let long : length o ≡ size w = length_outs (machine_of f) s xs ∙ equal.length₁ in
      let below = outs_letters (machine_of f) (outputs_of f) (output_below f file) s xs in
      let k = index_of (outputs_of f) o in
      let small : k < table_size (outputs_of f) w = rw long at (index_below (outputs_of f) o below) in
      let l : k < n = rw t.count small in
      let part : window_at (outputs_of f) (size w) k ≡ o =
      ap (λ (m : ℕ). window_at (outputs_of f) m k) (sym long) ∙ index_window (outputs_of f) o below in
      let two : Two S o b =
      record {
        x = get_or xs b 0;
        y = get_or ys b 0;
        fits₁ =
            record {
              s = s;
              xs = xs;
              start = start₁;
              letters = equal.letters₁;
              outputs = refl;
              inside = omega (arith, equal.length₁);
              letter = refl;
            };
        fits₂ =
            record {
              s = u;
              xs = ys;
              start = start₂;
              letters = equal.letters₂;
              outputs = sym equal.outputs;
              inside = omega (arith, equal.length₂);
              letter = refl;
            };
        differ = differ;
      } in
      let r = t.each k l in
      let right : Answers S o b r.answer = subst (λ (x : List ℕ). Answers S x b r.answer) part r.right in
      never k l (r.byte ∙ ap byte_of (answer_unique S o b r.answer several right two))

  shows : Shows f w n after
  shows = (none_several, shows_works)

pub table_shows : TableShows
table_shows =
    record {
      own = λ f w before n after p. shows f w (length before) n after (counted _ _ _ before n after p);
      from_C = λ f w before result after result' h.
          let refusal : Bool → ℕ = λ others. table_refusal_in f w (length before) others in
          let t =
          counted_from_C refusal (table_size (outputs_of f) w) (EntryOf f w) before after (table_others f w (length before))
          (λ z. omega (arith, (table_accepted f w _ z).small)) h in
          shows f w (length before) (field_at result' 0) after t;
    }
