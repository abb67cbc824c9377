-- A window that was answered, by the library's own call and from C, and what a host reads of its answer.
use mathlib.Core.Path.{◌≡◌, refl, sym}
use mathlib.Core.Bool.{true}
use mathlib.Core.List.{List, [], ◌∷◌}
use Prim.Native.Nat.{ℕ, zero, suc, ◌≤◌, ◌<◌}
use native.Mathlib.Omega.{arith}
use lib.Dec.{lit<}
use Rattle.mealy.specs.Setting.{Setting}
use Rattle.mealy.specs.Answer as theory
use Rattle.mealy.specs.Answer.{Answers, byte_of}
use Rattle.mealy.proofs.Letters.{letter_at_lem}
use Rattle.coder.specs.Refusal.{upon}
use Rattle.coder.specs.File.{file_refusal, machine_of}
use Rattle.coder.proofs.Accepted.{accepted}
use Rattle.values.specs.declared.Window.{Window}
use Rattle.fitting.specs.Answer.{meaning}
use Rattle.fitting.specs.declared.Answer.{Answer}
use Rattle.fitting.specs.declared.Answer.TheVariants.{Letter, None, Several}
use Rattle.decoder_refusal.specs.Refusal.{window_refusal}
use Rattle.decoder_refusal.proofs.Accepting.{WindowAccepted, window_accepted}
use Rattle.decoder.specs.Window.{window_setting, AnsweredRight, WindowWith, WindowPromise}
use Rattle.decoder_host.specs.Laid.{answer_fields, laid_window, WindowFromHost}
use Rattle.decoder_host.proofs.Hosting.{window_enough}
use Rattle.layout.specs.Layout.{with_fields, field_at}
use Rattle.layout.specs.Host.{LaidOut}
use Rattle.layout.proofs.Reading.{field_at_lem}
use Rattle.layout.proofs.Hosting.{answered_host}
use Rattle.std.specs.Prelude.{Result, Ok, Err}
use Rattle.coder.specs.declared.refusal.Refusal.{Refusal}
use Rattle.coder.specs.Refused.{Refused}
use Rattle.coder.proofs.Refused.{number_some}

-- it was not refused, and the answer is right
pub record AnsweredBy (f : List ℕ) (w : Window) (received : List ℕ) (v : Answer) : Type 0 where
  pub accepted_call : WindowAccepted f w received true
  pub right : Answers (window_setting f w) received w.before (meaning v)

pub window_answered :
    (f : List ℕ) (w : Window) (received : List ℕ) (v : Answer) → WindowPromise f w received (Ok v) → AnsweredBy f w received v
window_answered f w received v = go (window_refusal f w received true) refl
  where
    go :
        (k : ℕ) → window_refusal f w received true ≡ k →
        upon k (λ j. Ok v ≡ Refused j) (AnsweredRight f w received (Ok v)) → AnsweredBy f w received v
    go zero e p =
        let d = p.is in
        let q : v ≡ p.answer = cc in
        record { accepted_call = window_accepted f w received true e; right = rw q p.right }
    go (suc k) e p = let z : ◌≡◌ {A = ℕ} 0 1 = cc in absurd (omega arith)

-- ---- from C

-- a call that returned 0 has an answer that the own call promises, in the fields
pub record AnsweredFromC (f : List ℕ) (w : Window) (received result result' : List ℕ) : Type 0 where
  pub answer : Answer
  pub promised : WindowPromise f w received (Ok answer)
  pub fields : result' ≡ with_fields result (answer_fields answer)

pub answered_from_C :
    (f : List ℕ) (w : Window) (received result result' : List ℕ) → WindowFromHost f w received result 0 result' →
    AnsweredFromC f w received result result'
answered_from_C f w received result result' h =
    let g =
    answered_host (WindowWith f w received) laid_window (λ others own. window_enough f w received others own) refl h in
    go g.own (window_refusal f w received true) g.promised g.promised g.out
  where
    go :
        (own : Result Answer Refusal) (k : ℕ) → upon k (λ j. own ≡ Refused j) (AnsweredRight f w received own) → WindowPromise f w received own →
        LaidOut (laid_window own) result 0 result' → AnsweredFromC f w received result result'
    go (Ok v) k q p out = record { answer = v; promised = p; fields = out.fields }
    go (Err e) zero q p out = let d = q.is in let z : ◌≡◌ {A = ℕ} 0 1 = cc in absurd (omega arith)
    go (Err e) (suc k) q p out = absurd (number_some e (sym out.number))

inputs_few : (f : List ℕ) → file_refusal f ≡ 0 → (machine_of f).inputs ≤ 16
unfolding machine_of
inputs_few f z = (accepted f z).entries.limits.inputs_high

-- a right letter is below 16 where the input letters are
pub letter_small : (S : Setting) (w : List ℕ) (b x : ℕ) → S.M.inputs ≤ 16 → Answers S w b (theory.letter x) → x < 16
letter_small S w b x l h =
    omega (arith, letter_at_lem S.M.inputs h.fits.xs h.fits.letters b h.fits.inside, h.fits.letter)

-- field 0 is the answer's byte
pub byte_read :
    (f : List ℕ) (w : Window) (received result : List ℕ) (v : Answer) → AnsweredBy f w received v →
    field_at (with_fields result (answer_fields v)) 0 ≡ byte_of (meaning v)
byte_read f w received result (Letter x) a =
    let few = inputs_few f a.accepted_call.limits.file in
    field_at_lem result (x ∷ []) 0 (lit< tt) (omega (arith, letter_small (window_setting f w) received w.before x few a.right))
byte_read f w received result (None k) a = field_at_lem result (254 ∷ k ∷ []) 0 (lit< tt) (lit< tt)
byte_read f w received result Several a = field_at_lem result (255 ∷ []) 0 (lit< tt) (lit< tt)

-- with "none" field 1 is the count
pub count_read :
    (f : List ℕ) (w : Window) (received result : List ℕ) (k : ℕ) → AnsweredBy f w received (None k) →
    field_at (with_fields result (answer_fields (None k))) 1 ≡ k
count_read f w received result k a =
    let c = a.accepted_call in
    field_at_lem result (254 ∷ k ∷ []) 1 (lit< tt) (omega (arith, a.right.inside, c.long, c.limits.small))

-- 254 is the byte of "none" alone
pub none_read :
    (f : List ℕ) (w : Window) (received : List ℕ) (v : Answer) → AnsweredBy f w received v → byte_of (meaning v) ≡ 254 →
    (k : ℕ) × (v ≡ None k)
none_read f w received (Letter x) a e =
    let few = inputs_few f a.accepted_call.limits.file in
    absurd (omega (arith, letter_small (window_setting f w) received w.before x few a.right))
none_read f w received (None k) a e = (k, refl)
none_read f w received Several a e = absurd (omega arith)
