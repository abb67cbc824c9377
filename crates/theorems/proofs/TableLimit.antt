-- The cases on O refuse exactly the tables that are too large, and a call for a table is refused with 10 exactly where they do and no number
-- before 10 applies.
use mathlib.Core.Path.{◌≡◌, refl, sym, ap, ◌∙◌}
use mathlib.Core.Bool.{Bool, true, false, not, ◌&&◌}
use mathlib.Core.Logic.{◌↔◌}
use mathlib.Core.List.{List}
use Prim.Native.Nat.{ℕ, zero, suc, ◌≤◌}
use native.Mathlib.Omega.{arith}
use lib.ListN.{length}
use lib.Dec.{leb}
use borrow.Author.Tests.{leb-false, lt-leb}
use Rattle.coder.specs.Refusal.{refuse, answer}
use Rattle.coder.specs.Limits.{max_side, max_settle}
use Rattle.coder.specs.File.{outputs_of, file_refusal}
use Rattle.coder.proofs.Refusals.{refuse_either, first_either}
use Rattle.coder.proofs.FileNumbers.{file_number}
use Rattle.values.specs.Window.{size}
use Rattle.values.specs.declared.Window.{Window}
use Rattle.table_size.specs.Size.{max_table}
use Rattle.table_size.specs.Cases.{table_allowed}
use Rattle.table_size.proofs.Exact.{cases_exact}
use Rattle.window_limits.specs.Refusal.{sides_refusal, settle_refusal}
use Rattle.layout.specs.Host.{roomy, laid_count}
use Rattle.decoder_refusal.specs.Refusal.{limits_refusal, table_size, table_refusal, table_refusal_in}
use Rattle.decoder_refusal.proofs.Accepting.{table_known}
use Rattle.decoder_refusal.proofs.Accepting.{table_by_cases}
use Rattle.theorems.specs.TableLimit.{CasesExact, RefusedByCases, TableLimit}
use Rattle.std.specs.Prelude.{Ok}
use Rattle.coder.specs.Refused.{Refused, number_in}
use Rattle.coder.proofs.Refused.{number_back}

exactly : CasesExact
exactly o w l h s =
    let e = cases_exact o (size w) l h in
    ((λ q. leb-false (table_size o w) max_table (sym e ∙ q)), (λ q. e ∙ lt-leb (table_size o w) max_table q))

-- ---- the calls

abbrev NotTen : ℕ → Type 0
NotTen k = k ≡ 10 → ⊥

-- no number of the file and of the window's limits is 10
limits_not_ten : (f : List ℕ) (w : Window) → NotTen (limits_refusal f w)
unfolding limits_refusal sides_refusal settle_refusal
limits_not_ten f w =
    first_either NotTen (file_refusal f) _ (file_number NotTen (λ k l e. omega arith) (λ e. omega arith) f)
    (first_either NotTen (sides_refusal w.before w.after) _
    (refuse_either NotTen (not (leb w.before max_side && leb w.after max_side)) 8 0 (λ e. omega arith) (λ e. omega arith))
    (refuse_either NotTen (not (leb w.settle max_settle)) 14 0 (λ e. omega arith) (λ e. omega arith)))

module _ (f : List ℕ) (w : Window) (fits : Bool) where
  by_limits : (k : ℕ) → limits_refusal f w ≡ suc k → table_refusal f w fits ≡ suc k
  unfolding table_refusal
  by_limits k z = rw z

  ten : table_refusal f w fits ≡ 10 ↔ RefusedByCases f w
  ten = (λ e. from e (limits_refusal f w) refl (table_allowed (outputs_of f) (size w)) refl, λ r. table_by_cases f w false fits r.limits r.not_allowed)
    where
      eleven_or_none : NotTen (refuse (not fits) 11 0)
      eleven_or_none = refuse_either NotTen (not fits) 11 0 (λ e. omega arith) (λ e. omega arith)

      from :
          table_refusal f w fits ≡ 10 → (k : ℕ) → limits_refusal f w ≡ k → (t : Bool) → table_allowed (outputs_of f) (size w) ≡ t →
          RefusedByCases f w
      from e (suc k) z t q = absurd (limits_not_ten f w (z ∙ sym (by_limits k z) ∙ e))
      from e zero z true q = absurd (eleven_or_none (sym (table_by_cases f w true fits z q) ∙ e))
      from e zero z false q = record { limits = z; not_allowed = q }

-- a result is the refusal 10 exactly if 10 is the number
refused_ten : (k n : ℕ) → k ≤ 17 → (answer k (λ j. Refused j) (Ok n) ≡ Refused 10) ↔ (k ≡ 10)
refused_ten zero n l = ((λ e. let z : ◌≡◌ {A = ℕ} 0 1 = cc in absurd (omega arith)), λ e. absurd (omega arith))
refused_ten (suc k) n l =
    ((λ e. sym (number_back (suc k) (omega arith) l) ∙ ap number_in e ∙ number_back 10 (omega arith) (omega arith)), λ e. ap (λ j. Refused j) e)

-- what is returned for a result is the refusal's number
returned_count : (k n : ℕ) → k ≤ 17 → (laid_count (answer k (λ j. Refused j) (Ok n))).returned ≡ k
returned_count zero n l = refl
returned_count (suc k) n l = number_back (suc k) (omega arith) l

pub table_limit : TableLimit
table_limit = record {
  exact = exactly;
  call = λ f w before r after p.
      let t = ten f w _ in
      let k = refused_ten (table_refusal_in f w (length before) true) (table_size (outputs_of f) w) (table_known f w _) in
      ((λ e. t.0 (k.0 (sym p.result ∙ e))), λ q. p.result ∙ k.1 (t.1 q));
  call_from_C = λ f w before result r after result' h.
      let t = ten f w _ in
      let k = table_refusal_in f w (length before) (roomy result) in
      let n = h.out.number ∙ ap (λ x. (laid_count x).returned) h.promised.result ∙ returned_count k _ (table_known f w _) in
      ((λ e. t.0 (sym n ∙ e)), λ q. n ∙ t.1 q);
}
