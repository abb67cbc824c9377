-- The report's text in its bytes.
use mathlib.Core.Path.{◌≡◌, refl, sym, ◌∙◌}
use mathlib.Core.List.{List}
use Prim.Native.Nat.{ℕ, zero, suc}
use native.Mathlib.Omega.{arith}
use lib.ListN.{length, get_or, take, replicate}
use Rattle.placing.proofs.Placing.{front_bytes, written_length, written_past}
use Rattle.report_text.specs.Report.{ReportPromise}
use Rattle.report_text.specs.Text.{text_bytes, Padded, ReportWritten}

pub zeros_at : (n k : ℕ) → get_or {A = ℕ} (replicate n 0) k 0 ≡ 0
zeros_at zero k = refl
zeros_at (suc n) zero = refl
zeros_at (suc n) (suc k) = zeros_at n k

pub text_promise :
    {f before after : List ℕ} {n : ℕ} → text_bytes ≡ length before → ReportWritten f before after n → ReportPromise f (take n after)
text_promise {f} {before} {after} {n} l w =
    let e = front_bytes w.is (omega (arith, w.short, w.is.end)) in
    rw e w.right

pub text_padded :
    {f before after : List ℕ} {n : ℕ} → text_bytes ≡ length before → ((k : ℕ) → get_or before k 0 ≡ 0) → ReportWritten f before after n →
    Padded (record { bytes = after; len = n })
text_padded {f} {before} {after} {n} l z w = record {
  space = written_length w.is ∙ sym l;
  fits = w.short;
  clear = λ k m. written_past w.is k m ∙ z k;
}
