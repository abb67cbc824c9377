-- Each public call's promise leaves one outcome and is met by one: two outcomes that meet it for the same arguments are equal, and
-- for all arguments some outcome meets it, whatever other buffers are lent.
use mathlib.Core.Path.{◌≡◌, refl, sym, ap, ◌∙◌}
use mathlib.Core.Bool.{Bool}
use mathlib.Core.List.{List}
use Prim.Native.Nat.{ℕ, zero, suc, ◌≤◌, ◌<◌}
use native.Mathlib.Omega.{arith}
use lib.ListN.{length, take, drop, length-drop}
use lib.Seq.{length-take-le}
use Rattle.std.specs.Prelude.{Result, Ok}
use Rattle.mealy.specs.Answer.{byte_of}
use Rattle.mealy.specs.Index.{window_at}
use Rattle.mealy.proofs.Indices.{length_window}
use Rattle.coder.specs.File.{file_refusal, outputs_of, setting_after}
use Rattle.fitting.specs.Answer.{meaning, RightByte}
use Rattle.fitting.specs.declared.Answer.{Answer}
use Rattle.fitting.proofs.Answers.{right_unique, right_byte, right_byte_unique}
use Rattle.coder.specs.Refusal.{upon}
use Rattle.coder.specs.declared.refusal.Refusal.{Refusal}
use Rattle.coder.specs.Refused.{Refused}
use Rattle.values.specs.Window.{size}
use Rattle.values.specs.declared.Window.{Window}
use Rattle.decoder_refusal.specs.Refusal.{window_refusal, string_refusal_in, table_refusal_in}
use Rattle.decoder.specs.Written.{Written}
use Rattle.decoder.specs.Count.{CountPromise}
use Rattle.decoder.specs.Window.{window_setting, AnsweredRight, WindowWith}
use Rattle.decoder.specs.Places.{StringWith}
use Rattle.decoder.specs.Table.{TableWith}
use Rattle.decoder_refusal.proofs.Accepting.{window_accepted, string_accepted, table_accepted}
use Rattle.decoder.proofs.Asking.{string_asked, table_asked}
use Rattle.decoder.proofs.Writing.{written_front, written_unique}
use Rattle.decoder.proofs.Decoding.{decoded, file_right}

-- ---- one window

module _ (f : List ℕ) (w : Window) (received : List ℕ) (others : Bool) where
  pub window_determined : (r r' : Result Answer Refusal) → WindowWith f w received others r → WindowWith f w received others r' → r ≡ r'
  window_determined r r' = go (window_refusal f w received others)
    where
      go :
          (k : ℕ) → upon k (λ j. r ≡ Refused j) (AnsweredRight f w received r) →
          upon k (λ j. r' ≡ Refused j) (AnsweredRight f w received r') → r ≡ r'
      go zero p q =
          p.is
          ∙ ap (λ v. Ok v) (right_unique (window_setting f w) received w.before p.answer q.answer p.right q.right)
          ∙ sym q.is
      go (suc k) p q = p ∙ sym q

  pub window_exists : (r : Result Answer Refusal) × WindowWith f w received others r
  window_exists = go (window_refusal f w received others) refl
    where
      go :
          (k : ℕ) → window_refusal f w received others ≡ k →
          (r : Result Answer Refusal) × upon k (λ j. r ≡ Refused j) (AnsweredRight f w received r)
      go zero e =
          let h = window_accepted f w received others e in
          let v = decoded f w.settle received w.before in (
            Ok v,
            record { answer = v; is = refl; right = file_right f h.limits.file w.settle received w.before (omega (arith, h.long)) },
          )
      go (suc k) e = (Refused (suc k), refl)

-- ---- the bytes that a call leaves

pub bytes_determined :
    (Q : ℕ → ℕ → Type 0) (n : ℕ) (before after after' : List ℕ) (k : ℕ) →
    ((j x y : ℕ) → Q j x → Q j y → x ≡ y) → upon k (λ j. after ≡ before) (Written Q n before after) →
    upon k (λ j. after' ≡ before) (Written Q n before after') → after ≡ after'
bytes_determined Q n before after after' zero u p q = written_unique u p q
bytes_determined Q n before after after' (suc k) u p q = p ∙ sym q

bytes_exist :
    (Q : ℕ → ℕ → Type 0) (n : ℕ) (before : List ℕ) (g : ℕ → ℕ) (k : ℕ) →
    (k ≡ 0 → (n ≤ length before) × ((j : ℕ) → j < n → Q j (g j))) →
    (after : List ℕ) × upon k (λ j. after ≡ before) (Written Q n before after)
bytes_exist Q n before g zero h = let p = h refl in (_, written_front g p.0 p.1)
bytes_exist Q n before g (suc k) h = (before, refl)

-- ---- calls that write a right byte for each of n parts

module _ (f : List ℕ) (p b : ℕ) (part : ℕ → List ℕ) (n k : ℕ) (before : List ℕ) where
  abbrev ByteOf : ℕ → ℕ → Type 0
  ByteOf j v = RightByte (setting_after f p) (part j) b v

  abbrev Promise : Result ℕ Refusal → List ℕ → Type 0
  Promise r after = CountPromise k n ByteOf before r after

  parts_determined :
      (r r' : Result ℕ Refusal) (after after' : List ℕ) → Promise r after → Promise r' after' → (r ≡ r') × (after ≡ after')
  parts_determined r r' after after' x y = (
    x.result ∙ sym y.result,
    bytes_determined ByteOf n before after after' k (λ j v u. right_byte_unique (setting_after f p) (part j) b) x.bytes y.bytes,
  )

  parts_exist :
      (k ≡ 0 → (file_refusal f ≡ 0) × (n ≤ length before) × ((j : ℕ) → j < n → b < length (part j))) →
      (r : Result ℕ Refusal) × (after : List ℕ) × Promise r after
  parts_exist h =
      let e =
      bytes_exist ByteOf n before (λ j. byte_of (meaning (decoded f p (part j) b))) k
      (λ z.
      let a = h z in (
        a.1,
        λ j l.
            right_byte (setting_after f p) (part j) b (decoded f p (part j) b)
            (file_right f a.0 p (part j) b (a.2 j l)),
      )) in
      (_, e.0, record { result = refl; bytes = e.1 })

-- ---- a string

module _ (f : List ℕ) (w : Window) (received before : List ℕ) (others : Bool) where
  pub string_determined :
      (r r' : Result ℕ Refusal) (after after' : List ℕ) → StringWith f w received before others r after →
      StringWith f w received before others r' after' → (r ≡ r') × (after ≡ after')
  string_determined = parts_determined f w.settle w.before (λ j. take (size w) (drop j received)) _ _ before

  pub string_exists : (r : Result ℕ Refusal) × (after : List ℕ) × StringWith f w received before others r after
  string_exists =
      parts_exist f w.settle w.before (λ j. take (size w) (drop j received)) _
      (string_refusal_in f w received (length before) others) before
      (λ z. (
        (string_accepted f w received _ z).limits.file,
        (string_asked f w received before others z).room,
        λ j l.
            let long : length (take (size w) (drop j received)) ≡ size w =
            length-take-le (size w) (drop j received) (simp length-drop (omega arith)) in
            omega arith,
      ))

-- ---- a table

module _ (f : List ℕ) (w : Window) (before : List ℕ) (others : Bool) where
  pub table_determined :
      (r r' : Result ℕ Refusal) (after after' : List ℕ) → TableWith f w before others r after →
      TableWith f w before others r' after' → (r ≡ r') × (after ≡ after')
  table_determined = parts_determined f w.settle w.before (window_at (outputs_of f) (size w)) _ _ before

  pub table_exists : (r : Result ℕ Refusal) × (after : List ℕ) × TableWith f w before others r after
  table_exists =
      parts_exist f w.settle w.before (window_at (outputs_of f) (size w)) _ (table_refusal_in f w (length before) others) before
      (λ z. (
        (table_accepted f w _ z).limits.file,
        (table_asked f w before others z).room,
        λ j l. omega (arith, length_window (outputs_of f) (size w) j),
      ))
