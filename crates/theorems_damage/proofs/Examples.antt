-- The worked examples hold: one computed test over them, and a law from the test to what is claimed.
use mathlib.Core.Path.{◌≡◌, refl, ap, ◌∙◌}
use mathlib.Core.Bool.{Bool, true, ◌&&◌}
use mathlib.Core.List.{List, [], ◌∷◌, ◌++◌, append-nil}
use Prim.Native.Nat.{ℕ}
use native.Mathlib.Omega.{arith}
use lib.ListN.{length, drop}
use lib.Seq.{drop-length}
use lib.Dec.{eqb, ltb}
use borrow.Author.Tests.{eqb-true, ltb-true}
use lib.Count.{count_leading_zeros}
use Rattle.mealy.specs.Machine.{outs}
use Rattle.mealy.proofs.ImageWords.{entries_word, image_word, far_word}
use Rattle.coder.specs.Refusal.{all_below, some_below}
use Rattle.coder.specs.Alphabet.{named}
use Rattle.coder.specs.File.{within, in_range, entry_in_range, entries_refusal, file_refusal, entry_of, machine_of}
use Rattle.coder.specs.Table.{table, coder_of, table_at}
use Rattle.coder.proofs.Refusals.{both_true}
use Rattle.chains.specs.Chain.{is_entry, has_key, over}
use Rattle.fitting.specs.Answer.{answer_of}
use Rattle.filling.specs.Sets.{contribution, gather, add, added}
use Rattle.filling.specs.Window.{pass, union_of, fitting_word}
use Rattle.starts.proofs.Computed.{in_steps_word, starts_word}
use Rattle.window_limits.specs.Refusal.{sides_refusal, settle_refusal}
use Rattle.decoder_refusal.specs.Refusal.{limits_refusal, string_refusal}
use Rattle.values.specs.declared.Window.{Window}
use Rattle.decoder.specs.Places.{StringPromise}
use Rattle.decoder.proofs.Determined.{string_exists}
use Rattle.theorems.specs.RoundTrip.{FieldHolds}
use Rattle.theorems.specs.Starred as starred
use Rattle.theorems.proofs.Starred.{test, claim_holds}
use Rattle.theorems.proofs.Tests.{same_list, same_list_lem}
use Rattle.theorems_damage.specs.Change.{sent, received}
use Rattle.theorems_damage.specs.Damage.{StringDecoded}
use Rattle.theorems_damage.specs.Examples.{Example, Holds, EachHolds, examples}
use Rattle.theorems_damage.proofs.Bytes.{host_decodes}
use Rattle.std.specs.Prelude.{Result}
use Rattle.coder.specs.declared.refusal.Refusal.{Refusal}

-- ---- the test of an example

string_decoded :
    (f : List ℕ) (w : Window) (letters bytes : List ℕ) → file_refusal f ≡ 0 →
    test f (starred.string w.before w.after w.settle letters bytes) ≡ true → StringDecoded f w letters (length bytes) bytes
string_decoded f w letters bytes z e =
    let h = claim_holds f z (starred.string w.before w.after w.settle letters bytes) e in
    let x = string_exists f w letters bytes true in
    let r = h bytes x.0 x.1 (omega arith) x.2 in
    let all : bytes ++ drop (length bytes) bytes ≡ bytes = ap (λ l. bytes ++ l) (drop-length bytes) ∙ append-nil bytes in
    record { before = bytes; call = as_called r.0 (r.1 ∙ all) x.2 }
  where
    as_called :
        {r r' : Result ℕ Refusal} {after after' : List ℕ} → r ≡ r' → after ≡ after' → StringPromise f w letters bytes r after →
        StringPromise f w letters bytes r' after'
    as_called d d' p = rw d' at (rw d at p)

-- the bytes of one string of an example, for a string that a field can count
abbrev string_test : Example → List ℕ → List ℕ → Bool
string_test e letters bytes =
    let w = e.window in
    (ltb (length letters) 18446744073709551616 && test e.file (starred.string w.before w.after w.settle letters bytes))

abbrev example_test : Example → Bool
example_test e =
    (eqb (file_refusal e.file) 0 && (same_list (outs (machine_of e.file) 0 e.inputs) e.sends &&
    (same_list (sent e.changes) e.sends && (same_list (received e.changes) e.arrives &&
    (string_test e e.sends e.bytes && string_test e e.arrives e.bytes')))))

module _ (e : Example) where
  string_holds :
      (letters bytes : List ℕ) → file_refusal e.file ≡ 0 → string_test e letters bytes ≡ true →
      StringDecoded e.file e.window letters (length bytes) bytes × FieldHolds (length letters)
  string_holds letters bytes z t =
      let w = e.window in
      let u =
      both_true (ltb (length letters) 18446744073709551616)
      (test e.file (starred.string w.before w.after w.settle letters bytes)) t in
      (string_decoded e.file w letters bytes z u.1, ltb-true _ _ u.0)

  example_holds : example_test e ≡ true → Holds e
  example_holds t =
      let f = e.file in
      let w = e.window in
      let b = string_test e e.sends e.bytes in
      let b' = string_test e e.arrives e.bytes' in
      let r = same_list (received e.changes) e.arrives in
      let s = same_list (sent e.changes) e.sends in
      let o = same_list (outs (machine_of f) 0 e.inputs) e.sends in
      let t₁ = both_true (eqb (file_refusal f) 0) (o && (s && (r && (b && b')))) t in
      let t₂ = both_true o (s && (r && (b && b'))) t₁.1 in
      let t₃ = both_true s (r && (b && b')) t₂.1 in
      let t₄ = both_true r (b && b') t₃.1 in
      let t₅ = both_true b b' t₄.1 in
      let z = eqb-true _ _ t₁.0 in
      let d = string_holds e.sends e.bytes z t₅.0 in
      let d' = string_holds e.arrives e.bytes' z t₅.1 in
      record {
        coded = same_list_lem _ _ t₂.0;
        sent_are = same_list_lem _ _ t₃.0;
        received_are = same_list_lem _ _ t₄.0;
        own = record { undamaged = d.0; damaged = d'.0 };
        from_C =
            record {
              undamaged = host_decodes f w e.sends (length e.bytes) e.bytes d.1 d.0;
              damaged = host_decodes f w e.arrives (length e.bytes') e.bytes' d'.1 d'.0;
            };
      }

abbrev examples_test : List Example → Bool
examples_test [] = true
examples_test (e ∷ es) = example_test e && examples_test es

all_hold : (es : List Example) → examples_test es ≡ true → EachHolds es
all_hold [] t = tt
all_hold (e ∷ es) t = let u = both_true (example_test e) (examples_test es) t in (example_holds e u.0, all_hold es u.1)

passed : examples_test examples ≡ true
unfolding test entries_word image_word far_word in_steps_word starts_word string_refusal limits_refusal sides_refusal settle_refusal all_below
    some_below named file_refusal entries_refusal in_range within entry_in_range machine_of entry_of coder_of table table_at fitting_word pass added
    add contribution gather union_of answer_of count_leading_zeros has_key is_entry over
passed = refl

pub examples_hold : EachHolds examples
examples_hold = all_hold examples passed
