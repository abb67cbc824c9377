-- The calls for kinds from C: what a host reads from the fields of a report and of an answer, and what a coded string yields it.
use mathlib.Core.Path.{◌≡◌, refl, sym, ap, ◌∙◌}
use mathlib.Core.Bool.{true}
use mathlib.Core.List.{List, [], ◌∷◌}
use mathlib.Core.Logic.{inl, inr}
use Prim.Native.Nat.{ℕ, zero, suc, ◌+◌, ◌≤◌, ◌<◌}
use native.Mathlib.Omega.{arith}
use lib.Dec.{lit<}
use lib.ListN.{length, get_or, take, drop}
use Rattle.mealy.specs.Word.{Has}
use Rattle.mealy.proofs.Letters.{letter_at_lem}
use Rattle.coder.specs.Refusal.{upon}
use Rattle.coder.specs.File.{inputs_of, setting_after}
use Rattle.coder.proofs.Accepted.{accepted}
use Rattle.running.specs.Run.{RunWith}
use Rattle.running_host.specs.Laid.{laid_run}
use Rattle.values.specs.Window.{size}
use Rattle.values.specs.declared.Window.{Window}
use Rattle.layout.specs.Layout.{with_fields, field_at}
use Rattle.layout.specs.Host.{LaidOut}
use Rattle.layout.proofs.Reading.{field_at_lem}
use Rattle.layout.proofs.Hosting.{from_host, answered_host}
use Rattle.kinds.specs.KindsAnswer.{KindsAnswers, Yields}
use Rattle.kind_list.specs.KindList.{kind_of}
use Rattle.kind_list.proofs.KindLists.{ListAccepted}
use Rattle.search_host.specs.Laid.{SearchFromHost}
use Rattle.search_kinds.specs.Search.{told, search_kinds_refusal, FoundKinds, SearchKindsWith, SearchKindsPromise}
use Rattle.search_kinds.specs.declared.Told.{Told}
use Rattle.search_kinds.proofs.Reports.{report_says}
use Rattle.window_kinds.specs.Answer.{meaning}
use Rattle.window_kinds.specs.Window.{window_kinds_refusal, AnsweredKinds, WindowKindsWith}
use Rattle.window_kinds.specs.declared.KindsAnswer.{KindsAnswer}
use Rattle.window_kinds.specs.declared.KindsAnswer.TheVariants.{Letter, Kind, None, Several}
use Rattle.kinds_host.specs.Laid.{kinds_fields, laid_kinds, laid_answer, SearchKindsFromHost, WindowKindsFromHost}
use Rattle.window_kinds.proofs.Accepting.{window_kinds_accepted}
use Rattle.kinds_host.proofs.Hosting.{search_kinds_others, window_kinds_others}
use Rattle.theorems.proofs.RoundTrip.{not_refused}
use Rattle.theorems.specs.RoundTrip.{window_read}
use Rattle.theorems.proofs.HostReads.{first_read, second_read, window_found}
use Rattle.theorems_kinds.specs.Kinds.{HostYields, StringsYieldFromC, ReadAs, AnswerRead, Kinds}
use Rattle.theorems_kinds.proofs.Strings.{inputs_are, sides_high, strings_yield}
use Rattle.theorems_kinds.proofs.Told.{reported}
use Rattle.std.specs.Prelude as std
use Rattle.std.specs.Prelude.{Result, Ok, Option, Some}
use Rattle.coder.specs.declared.refusal.Refusal.{Refusal}
use Rattle.coder.specs.Refused.{refusal_of, Refused}
use Rattle.coder.proofs.Refused.{number_some}

-- ---- a search that returned 0

-- its report is one that the library's own search promises, and lies in the fields
pub record ReportFromC (f kinds result result' : List ℕ) : Type 0 where
  pub verdict : Option Told
  pub promised : SearchKindsPromise f kinds (Ok verdict)
  pub fields : result' ≡ with_fields result (kinds_fields verdict)

pub report_from_C : (f kinds result result' : List ℕ) → SearchKindsFromHost f kinds result 0 result' → ReportFromC f kinds result result'
report_from_C f kinds result result' h =
    let g = answered_host (SearchKindsWith f kinds) laid_kinds (search_kinds_others f kinds) (omega arith) h in
    let v = verdict g.own (search_kinds_refusal f kinds true) g.promised (sym g.out.number) in
    record {
      verdict = v.0;
      promised = rw v.1 at g.promised;
      fields = g.out.fields ∙ ap (λ (x : Result (Option Told) Refusal). with_fields result (laid_kinds x).fields) v.1;
    }
  where
    verdict :
        (own : Result (Option Told) Refusal) (k : ℕ) → upon k (λ j. own ≡ Refused j) (FoundKinds f kinds own) → (laid_kinds own).returned ≡ 0 →
        (v : Option Told) × (own ≡ Ok v)
    verdict own zero g z = (g.verdict, g.is)
    verdict own (suc k) g z =
        absurd (number_some (refusal_of (suc k)) (ap (λ (x : Result (Option Told) Refusal). (laid_kinds x).returned) (sym g) ∙ z))

-- ---- a report with a window, as the host reads it

record ToldFields (carried : ℕ) (w : Window) (result' : List ℕ) : Type 0 where
  told_read : field_at result' 0 ≡ 0
  before_read : field_at result' 1 ≡ w.before
  after_read : field_at result' 2 ≡ w.after
  carried_read : field_at result' 3 ≡ carried

told_fields :
    (f kinds result : List ℕ) (u : ℕ) (w : Window) → SearchKindsPromise f kinds (Ok (Some (told u w))) →
    ToldFields u w (with_fields result (kinds_fields (Some (told u w))))
told_fields f kinds result u w p =
    let g = report_says f kinds (Some (told u w)) p in
    let ok = g.accepted_call.list.file in
    let ns = kinds_fields (Some (told u w)) in
    record {
      told_read = field_at_lem result ns 0 (lit< tt) (lit< tt);
      before_read = field_at_lem result ns 1 (lit< tt) (omega (arith, sides_high f ok g.says.before_small));
      after_read = field_at_lem result ns 2 (lit< tt) (omega (arith, sides_high f ok g.says.after_small));
      carried_read = field_at_lem result ns 3 (lit< tt) (let b : u < 65536 = g.says.carried_are.bound in omega arith);
    }

record ToldRead (f kinds result' : List ℕ) : Type 0 where
  carried : ℕ
  window : Window
  promised : SearchKindsPromise f kinds (Ok (Some (told carried window)))
  fields : ToldFields carried window result'

report_read : (f kinds result result' : List ℕ) → ReportFromC f kinds result result' → field_at result' 0 ≡ 0 → ToldRead f kinds result'
report_read f kinds result result' r e =
    rw r.fields (go r.verdict r.promised (sym (ap (λ (x : List ℕ). field_at x 0) r.fields) ∙ e))
  where
    go :
        (v : Option Told) → SearchKindsPromise f kinds (Ok v) → field_at (with_fields result (kinds_fields v)) 0 ≡ 0 →
        ToldRead f kinds (with_fields result (kinds_fields v))
    go std.None p z = absurd (omega (arith, field_at_lem result (kinds_fields std.None) 0 (lit< tt) (lit< tt)))
    go (Some t) p z =
        record { carried = t.carried; window = t.window; promised = p; fields = told_fields f kinds result t.carried t.window p }

-- beside a search for letters that has found a window
letters_read :
    (f kinds before result after result' : List ℕ) → SearchFromHost f 0 before result 0 after result' → field_at result' 0 ≡ 0 →
    (result₂ result₂' : List ℕ) → SearchKindsFromHost f kinds result₂ 0 result₂' →
    (field_at result₂' 0 ≡ 0) × (field_at result₂' 1 ≡ field_at result' 1) × (field_at result₂' 2 ≡ field_at result' 2) ×
    ((κ : ℕ) → κ < inputs_of f → Has (field_at result₂' 3) κ)
letters_read f kinds before result after result' h e result₂ result₂' g =
    let r = report_from_C f kinds result₂ result₂' g in
    let file = (report_says f kinds r.verdict r.promised).accepted_call.list.file in
    let p = window_found f file 0 before result after result' h e in
    let a = (reported f kinds r.verdict r.promised).as_letters before after (window_read result' 0) p in
    let t = told_fields f kinds result₂ a.0 (window_read result' 0) (rw a.1 at r.promised) in
    rw (r.fields, a.1) (t.told_read, t.before_read, t.after_read, λ κ l. rw t.carried_read (a.2 κ l))

-- ---- an answer, as the host reads it

-- the letter or the kind of an answer
abbrev number_of : KindsAnswer → ℕ
number_of (Letter x) = x
number_of (Kind κ) = κ
number_of None = 0
number_of Several = 0

-- 0 is returned for it, and the fields say it
read_out :
    (v : KindsAnswer) → number_of v < 16 → (own : Result KindsAnswer Refusal) → own ≡ Ok v → (result : List ℕ) {r : ℕ} {result' : List ℕ} →
    LaidOut (laid_answer own) result r result' → (r ≡ 0) × ReadAs (meaning v) result'
read_out (Letter x) small own e result out =
    let d = ap laid_answer e in
    let f = first_read result (laid_answer own) 0 (x ∷ []) d (lit< tt) out in
    (f.0, (f.1, second_read result (laid_answer own) 0 x [] d (omega arith) out))
read_out (Kind κ) small own e result out =
    let d = ap laid_answer e in
    let f = first_read result (laid_answer own) 1 (κ ∷ []) d (lit< tt) out in
    (f.0, (f.1, second_read result (laid_answer own) 1 κ [] d (omega arith) out))
read_out None small own e result out = first_read result (laid_answer own) 2 [] (ap laid_answer e) (lit< tt) out
read_out Several small own e result out = first_read result (laid_answer own) 3 [] (ap laid_answer e) (lit< tt) out

-- letters that fit, and their kinds, are numbers below 16
right_low :
    (f kinds : List ℕ) → ListAccepted f kinds → (received : List ℕ) (b : ℕ) (v : KindsAnswer) →
    KindsAnswers (setting_after f 0) (kind_of kinds) received b (meaning v) → number_of v < 16
right_low f kinds list received b (Letter x) p =
    let high = (accepted f list.file).entries.limits.inputs_high in
    let h = p.fits in
    let l : x < inputs_of f = rw (inputs_are f, h.letter) at (letter_at_lem _ h.xs h.letters b h.inside) in
    omega arith
right_low f kinds list received b (Kind κ) p = rw (p.shared _ p.two.fits₁) at (list.low p.two.x)
right_low f kinds list received b None p = lit< tt
right_low f kinds list received b Several p = lit< tt

window_read_lem :
    (f kinds : List ℕ) (b a : ℕ) (received result result' : List ℕ) → WindowKindsFromHost f kinds b a received result 0 result' →
    AnswerRead f kinds b received result'
window_read_lem f kinds b a received result result' h =
    let g = answered_host (WindowKindsWith f kinds b a received) laid_answer (window_kinds_others f kinds b a received) (omega arith) h in
    answered g.own (window_kinds_refusal f kinds b a received true) refl g.promised g.out
  where
    answered :
        (own : Result KindsAnswer Refusal) (k : ℕ) → window_kinds_refusal f kinds b a received true ≡ k →
        upon k (λ j. own ≡ Refused j) (AnsweredKinds f kinds b received own) → LaidOut (laid_answer own) result 0 result' →
        AnswerRead f kinds b received result'
    answered own zero z q out =
        let list = (window_kinds_accepted f kinds b a received true z).list in
        let low = right_low f kinds list received b q.answer q.right in
        record { answer = meaning q.answer; right = q.right; read = (read_out q.answer low own q.is result out).1 }
    answered own (suc k) z q out =
        absurd
        (number_some (refusal_of (suc k)) (ap (λ (x : Result KindsAnswer Refusal). (laid_answer x).returned) (sym q) ∙ sym out.number))

-- what it yields of the letter x
yields_low :
    (kinds : List ℕ) (C : ℕ → Type 0) (x : ℕ) → x < 16 → kind_of kinds x < 16 → (v : KindsAnswer) →
    Yields (kind_of kinds) C x (meaning v) → number_of v < 16
yields_low kinds C x low kind_low (Letter y) p = rw p low
yields_low kinds C x low kind_low (Kind κ) p = rw p.0 kind_low
yields_low kinds C x low kind_low None p = absurd p
yields_low kinds C x low kind_low Several p = absurd p

yields_read :
    (kinds : List ℕ) (carried x : ℕ) (v : KindsAnswer) → Yields (kind_of kinds) (Has carried) x (meaning v) → (r : ℕ) (result : List ℕ) →
    (r ≡ 0) × ReadAs (meaning v) result → HostYields kinds carried x r result
yields_read kinds carried x (Letter y) p r result q = record { done = q.0; read = inl (q.1.0, q.1.1 ∙ p) }
yields_read kinds carried x (Kind κ) p r result q = record { done = q.0; read = inr (q.1.0, q.1.1 ∙ p.0, p.1) }
yields_read kinds carried x None p r result q = absurd p
yields_read kinds carried x Several p r result q = absurd p

-- ---- a coded string

strings_yield_from_C : StringsYieldFromC
strings_yield_from_C f kinds s xs coded small before₁ result₁ r₁ after₁ result₁' room₁ long₁ ran result₂ result₂' found is-told k full
    result₃ r₃ result₃' long₃ decoded =
    let u = from_host (λ others own. RunWith f s xs before₁ others own after₁) laid_run long₁ ran in
    let ended = rw (not_refused f s xs coded before₁ room₁) at u.promised.result in
    let sent = first_read result₁ (laid_run u.own) (length xs) _ (ap laid_run ended) small u.out in
    let t = report_read f kinds result₂ result₂' (report_from_C f kinds result₂ result₂' found) is-told in
    let w = t.window in
    let list = (report_says f kinds (Some (told t.carried w)) t.promised).accepted_call.list in
    let full' : k + size w ≤ length xs = rw (t.fields.before_read, t.fields.after_read) at full in
    let part = take (size w) (drop k (take (length xs) after₁)) in
    let v =
    from_host (WindowKindsWith f kinds w.before w.after part) laid_answer long₃
    (rw (t.fields.before_read, t.fields.after_read, sent.1) at decoded) in
    let y =
    strings_yield f kinds s xs coded before₁ u.own after₁ room₁ u.promised t.carried w t.promised k full' v.own
    v.promised in
    let x = get_or xs (k + w.before) 0 in
    let high = (accepted f coded.file).entries.limits.inputs_high in
    let low : x < 16 = omega (arith, letter_at_lem _ xs coded.letters (k + w.before) (omega arith)) in
    let small = yields_low kinds (Has t.carried) x low (list.low x) y.answer y.yields in
    rw (t.fields.before_read, t.fields.carried_read)
    (yields_read kinds t.carried x y.answer y.yields r₃ result₃' (read_out y.answer small v.own y.is result₃ v.out))

-- All that is said of kinds.
pub kinds_hold : Kinds
kinds_hold =
    record {
      strings = strings_yield;
      strings_from_C = strings_yield_from_C;
      window_from_C = window_read_lem;
      search = reported;
      as_letters_from_C = letters_read;
      search_from_C = λ f kinds result result' h.
          let r = report_from_C f kinds result result' h in
          (r.verdict, r.fields, reported f kinds r.verdict r.promised);
    }
