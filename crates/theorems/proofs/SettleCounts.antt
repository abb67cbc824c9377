-- Settle counts: what a larger one changes, and from which one on nothing changes.
use mathlib.Core.Path.{◌≡◌, refl, sym, ap, ◌∙◌}
use mathlib.Core.Logic.{◌↔◌}
use mathlib.Core.List.{List}
use Prim.Native.Nat.{ℕ, ◌≤◌}
use native.Mathlib.Omega.{arith}
use Rattle.mealy.specs.Setting.{Same}
use Rattle.mealy.proofs.Unseen.{works↔same_letter, fits↔fits_after}
use Rattle.mealy.proofs.SettleCounts.{least_later, same_unchanged}
use Rattle.coder.specs.File.{file_refusal, machine_of, setting_after}
use Rattle.coder.proofs.Accepted.{accepted}
use Rattle.coder.proofs.Tables.{total, some_state}
use Rattle.values.specs.Order.{relation_of, default_order}
use Rattle.values.specs.declared.Window.{Window}
use Rattle.values.specs.declared.Order.{Order}
use Rattle.values.specs.declared.LoopedPair.{LoopedPair}
use Rattle.search.specs.Search.{IsNoDecoder, SearchPromise}
use Rattle.search.specs.declared.Verdict.{Verdict}
use Rattle.search.specs.declared.Verdict.TheVariants.{Least, NoDecoder}
use Rattle.search.proofs.Determined.{found, no_decoder_any, pair_any}
use Rattle.layout.specs.Layout.{with_fields, field_at}
use Rattle.window_limits.proofs.Limits.{settle_pass}
use Rattle.search_host.specs.Laid.{verdict_fields, SearchFromHost}
use Rattle.theorems.specs.Demands.{NoLater}
use Rattle.theorems.specs.RoundTrip.{window_read}
use Rattle.theorems.proofs.HostReads.{search_found, kind, read_kind, read_file, window_found}
use Rattle.theorems.specs.SettleCounts.{SameWith, SettleCounts}
use Rattle.theorems.proofs.Demands.{no_later_said}
use Rattle.theorems.proofs.Alike.{Alike, search_alike, search_alike_from_C, answers_alike, answers_from_C}
use Rattle.std.specs.Prelude.{Ok}

module _ (f : List ℕ) (p p' : ℕ) (ok : file_refusal f ≡ 0) (l : 15 ≤ p) (m : p ≤ 64) (l' : 15 ≤ p')
    (m' : p' ≤ 64) where
  windows_unchanged : Same (setting_after f p) (setting_after f p')
  unfolding machine_of
  windows_unchanged =
      let a = accepted f ok in
      let k = a.entries.limits in
      same_unchanged (machine_of f) (total f a) (some_state f a) k.inputs_low p p' (omega (arith, k.states_high)) (omega (arith, k.states_high))

  alike : Alike f f p p'
  alike =
      record {
        file = refl;
        small = settle_pass p m ∙ sym (settle_pass p' m');
        outputs = refl;
        fewer = omega arith;
        windows = windows_unchanged;
        firsts = λ q x. x;
      }

  same_with : SameWith f p p'
  same_with =
      record {
        search = search_alike alike;
        search_from_C = search_alike_from_C alike;
        answers = answers_alike alike;
        answers_from_C = answers_from_C (answers_alike alike);
      }

-- of two settle counts, the larger gives no later window
larger :
    (o : Order) (f : List ℕ) (p p' : ℕ) (before before' : List ℕ) (w w' : Window) (after after' : List ℕ) → p ≤ p' →
    SearchPromise o f p before (Ok (Least w)) after → SearchPromise o f p' before' (Ok (Least w')) after' →
    NoLater o w' w.before w.after
larger o f p p' before before' w w' after after' l x y =
    no_later_said o w' w.before w.after
    (least_later (machine_of f) (relation_of o) p p' w.before w.after w'.before w'.after l
    (found o f p before (Least w) after x).says.least (found o f p' before' (Least w') after' y).says.least)

-- ---- from C

same_kind : (v v' : Verdict) → IsNoDecoder v ↔ IsNoDecoder v' → kind v ≡ kind v'
same_kind (Least w) (Least w') e = refl
same_kind (Least w) (NoDecoder q') e = absurd (e.1 tt)
same_kind (NoDecoder q) (Least w') e = absurd (e.0 tt)
same_kind (NoDecoder q) (NoDecoder q') e = refl

existence_read :
    (f : List ℕ) (p p' : ℕ) (before result after given before' result' after' given' : List ℕ) →
    SearchFromHost f p before result 0 after given → SearchFromHost f p' before' result' 0 after' given' →
    field_at given 0 ≡ field_at given' 0
existence_read f p p' before result after given before' result' after' given' h h' =
    let x = search_found f p before result after given h in
    let y = search_found f p' before' result' after' given' h' in
    read_kind x
    ∙ same_kind x.verdict y.verdict
    (no_decoder_any default_order default_order f p p' before before' x.verdict y.verdict after after' x.promised y.promised)
    ∙ sym (read_kind y)

pair_read_lem :
    (f : List ℕ) (p p' : ℕ) (before result after given after' given' : List ℕ) → SearchFromHost f p before result 0 after given →
    SearchFromHost f p' before result 0 after' given' → field_at given 0 ≡ 1 → (after ≡ after') × (given ≡ given')
pair_read_lem f p p' before result after given after' given' h h' e =
    let x = search_found f p before result after given h in
    let y = search_found f p' before result after' given' h' in
    go x.verdict y.verdict (sym (read_kind x) ∙ e)
    (sym (read_kind y) ∙ sym (existence_read f p p' before result after given before result after' given' h h') ∙ e) x.promised
    y.promised x.fields y.fields
  where
    go :
        (v v' : Verdict) → kind v ≡ 1 → kind v' ≡ 1 → SearchPromise default_order f p before (Ok v) after →
        SearchPromise default_order f p' before (Ok v') after' → given ≡ with_fields result (verdict_fields v) →
        given' ≡ with_fields result (verdict_fields v') → (after ≡ after') × (given ≡ given')
    go (Least w) v' k k' x y d d' = absurd (omega arith)
    go (NoDecoder q) (Least w') k k' x y d d' = absurd (omega arith)
    go (NoDecoder q) (NoDecoder q') k k' x y d d' =
        let z = pair_any default_order default_order f p p' before q q' after after' x y in
        (z.1, d ∙ ap (λ (u : LoopedPair). with_fields result (verdict_fields (NoDecoder u))) z.0 ∙ sym d')

pub settle_counts : SettleCounts
settle_counts =
    record {
      works = λ f. works↔same_letter (machine_of f);
      fits = λ f. fits↔fits_after (machine_of f);
      existence = no_decoder_any;
      larger_no_later = larger;
      from_15 = same_with;
      pair = pair_any;
      existence_from_C = existence_read;
      larger_no_later_from_C = λ f p p' before result after given before' result' after' given' l h h' e.
          let e' = sym (existence_read f p p' before result after given before' result' after' given' h h') ∙ e in
          larger default_order f p p' before before' (window_read given p) (window_read given' p') after after' l
          (window_found f (read_file (search_found f p before result after given h)) p before result after given h e)
          (window_found f (read_file (search_found f p' before' result' after' given' h')) p' before' result' after' given' h' e');
      pair_from_C = pair_read_lem;
    }
