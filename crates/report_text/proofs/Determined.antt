-- The promise of the report leaves nothing open: two results on the same file are equal.
use mathlib.Core.Path.{◌≡◌, refl, sym, ap, ap₂, ◌∙◌}
use mathlib.Core.List.{List, ◌++◌}
use Prim.Native.Nat.{ℕ, zero, suc, ◌≤◌}
use native.Mathlib.Decide.{dec_lt}
use native.Mathlib.Omega.{arith}
use lib.ListN.{length, get_or}
use lib.Seq.{ext_get_or, get_or-take, length-take-le}
use Rattle.mealy.proofs.LeastWindows.{least_unique}
use Rattle.mealy.proofs.FirstPairs.{first_unique}
use Rattle.coder.specs.File.{file_refusal, states_of, inputs_of, outputs_of, setting_of, setting_after}
use Rattle.values.specs.Order.{default_order}
use Rattle.values.proofs.Orders.{is_order}
use Rattle.pair_text.proofs.Same.{text_same}
use Rattle.report_text.specs.Report.{coder_line, VerdictLines, ReportPromise}
use Rattle.report_text.specs.Report.VerdictLines.{a_window, no_window}
use Rattle.report_text.specs.Text.{text_of, Padded}
use Rattle.report_text.specs.declared.Text.{Text}

verdict_determined : (f x y : List ℕ) → VerdictLines f x → VerdictLines f y → x ≡ y
verdict_determined f x y (a_window b a p) (a_window b' a' q) =
    let e = least_unique (is_order default_order) (setting_after f 0) b a b' a' p q in
    rw (e.0, e.1)
verdict_determined f x y (a_window b a p) (no_window q n h) = absurd (n b a p.works)
verdict_determined f x y (no_window p n h) (a_window b a q) = absurd (n b a q.works)
verdict_determined f x y (no_window p n h) (no_window q m h') = text_same p q (first_unique (setting_of f) p q h h')

text_determined : (f x y : List ℕ) → ReportPromise f x → ReportPromise f y → x ≡ y
text_determined f x y = go (file_refusal f) refl
  where
    go : (k : ℕ) → file_refusal f ≡ k → ReportPromise f x → ReportPromise f y → x ≡ y
    go zero e p q =
        let v = rw e at p in
        let w = rw e at q in
        v.is ∙
        ap (λ (l : List ℕ). coder_line (states_of f) (inputs_of f) (outputs_of f) ++ l)
        (verdict_determined f v.verdict w.verdict v.right w.right) ∙
        sym w.is
    go (suc k) e p q =
        let v = rw e at p in
        let w = rw e at q in
        v ∙ sym w

-- one text stands in one way in the bytes
module _ (r r' : Text) (h : Padded r) (h' : Padded r') (e : text_of r ≡ text_of r') where
  size : (t : Text) → Padded t → length (text_of t) ≡ t.len
  size t k = length-take-le t.len t.bytes (omega (arith, k.space, k.fits))

  same_size : r.len ≡ r'.len
  same_size = sym (size r h) ∙ ap length e ∙ size r' h'

  same_bytes : r.bytes ≡ r'.bytes
  same_bytes =
      ext_get_or 0 r.bytes r'.bytes (h.space ∙ sym h'.space)
      (λ k l. elim (dec_lt k r.len) [
        | yes m ↦
            sym (get_or-take r.len r.bytes k 0 m) ∙ ap (λ (x : List ℕ). get_or x k 0) e ∙
            get_or-take r'.len r'.bytes k 0 (rw same_size at m)
        | no m ↦
            let n : r.len ≤ k = omega arith in
            h.clear k n ∙ sym (h'.clear k (rw same_size at n))
      ])

  same_text : r ≡ r'
  same_text = ap₂ (λ (x : List ℕ) (n : ℕ). record { bytes = x; len = n }) same_bytes same_size

pub report_determined :
    (f : List ℕ) (r r' : Text) → ReportPromise f (text_of r) → Padded r → ReportPromise f (text_of r') → Padded r' → r ≡ r'
report_determined f r r' p h q h' = same_text r r' h h' (text_determined f (text_of r) (text_of r') p q)
