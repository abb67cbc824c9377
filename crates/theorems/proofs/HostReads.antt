-- What a host reads from the fields of a result.
use mathlib.Core.Path.{◌≡◌, sym, ap, ap₂, ◌∙◌}
use mathlib.Core.Bool.{true}
use mathlib.Core.List.{List, [], ◌∷◌}
use Prim.Native.Nat.{ℕ, zero, suc, ◌≤◌}
use native.Mathlib.Omega.{arith}
use lib.ListN.{length}
use lib.Dec.{lit<}
use Rattle.mealy.specs.Product.{pairs}
use Rattle.coder.specs.Limits.{max_side}
use Rattle.coder.specs.Refusal.{upon}
use Rattle.coder.specs.File.{file_refusal, states_of, machine_of}
use Rattle.coder.proofs.Accepted.{accepted}
use Rattle.product.proofs.Depths.{pairs_high}
use Rattle.values.specs.Window.{window}
use Rattle.values.specs.Order.{default_order}
use Rattle.search.specs.Search.{search_refusal_in, RefusedSearch, FoundVerdict, SearchPromise}
use Rattle.search_host.specs.Laid.{verdict_fields, laid_search, SearchFromHost}
use Rattle.search.specs.declared.Verdict.{Verdict}
use Rattle.search.specs.declared.Verdict.TheVariants.{Least, NoDecoder}
use Rattle.search.proofs.Files.{search_accepted}
use Rattle.search.proofs.Determined.{found}
use Rattle.search_host.proofs.Hosting.{search_others}
use Rattle.layout.specs.Layout.{with_fields, field_at}
use Rattle.layout.specs.Host.{Laid, done, LaidOut}
use Rattle.layout.proofs.Reading.{field_at_lem}
use Rattle.layout.proofs.Hosting.{answered_host}
use Rattle.theorems.specs.RoundTrip.{FieldHolds, window_read}
use Rattle.theorems.proofs.RoundTrip.{states_are}
use Rattle.std.specs.Prelude.{Result, Ok}
use Rattle.coder.specs.declared.refusal.Refusal.{Refusal}
use Rattle.coder.specs.Refused.{refusal_of}
use Rattle.coder.proofs.Refused.{number_some}

-- field 0 of an answer, and that 0 is returned for it
pub first_read :
    (result : List ℕ) (l : Laid) (n : ℕ) (ns : List ℕ) {r : ℕ} {result' : List ℕ} → l ≡ done (n ∷ ns) → FieldHolds n →
    LaidOut l result r result' → (r ≡ 0) × (field_at result' 0 ≡ n)
first_read result l n ns d small out =
    (out.number ∙ ap (λ (x : Laid). x.returned) d, rw (out.fields, d) (field_at_lem result (n ∷ ns) 0 (omega arith) small))

-- field 1
pub second_read :
    (result : List ℕ) (l : Laid) (n m : ℕ) (ns : List ℕ) {r : ℕ} {result' : List ℕ} → l ≡ done (n ∷ m ∷ ns) → FieldHolds m →
    LaidOut l result r result' → field_at result' 1 ≡ m
second_read result l n m ns d small out = rw (out.fields, d) (field_at_lem result (n ∷ m ∷ ns) 1 (omega arith) small)

-- ---- a search that returned 0

-- its verdict is one that the library's own search in the default order promises, and lies in the fields
pub record FoundFromC (f : List ℕ) (p : ℕ) (before result after result' : List ℕ) : Type 0 where
  pub verdict : Verdict
  pub promised : SearchPromise default_order f p before (Ok verdict) after
  pub fields : result' ≡ with_fields result (verdict_fields verdict)

pub search_found :
    (f : List ℕ) (p : ℕ) (before result after result' : List ℕ) → SearchFromHost f p before result 0 after result' →
    FoundFromC f p before result after result'
search_found f p before result after result' h =
    let g =
    answered_host (λ others own. _) laid_search (λ others own. search_others default_order f p before after others own) (omega arith) h in
    let v = verdict g.own (search_refusal_in f p (length before) true) g.promised (sym g.out.number) in
    record {
      verdict = v.0;
      promised = rw v.1 at g.promised;
      fields = g.out.fields ∙ ap (λ (x : Result Verdict Refusal). with_fields result (laid_search x).fields) v.1;
    }
  where
    verdict :
        (own : Result Verdict Refusal) (k : ℕ) → upon k (λ j. RefusedSearch j own before after) (FoundVerdict default_order f p own before after) →
        (laid_search own).returned ≡ 0 → (v : Verdict) × (own ≡ Ok v)
    verdict own zero g z = (g.verdict, g.is)
    verdict own (suc k) g z =
        absurd (number_some (refusal_of (suc k)) (ap (λ (x : Result Verdict Refusal). (laid_search x).returned) (sym g.is) ∙ z))

-- field 0 of a verdict
abbrev pub kind : Verdict → ℕ
kind (Least w) = 0
kind (NoDecoder q) = 1

pub kind_read : (result : List ℕ) (v : Verdict) → field_at (with_fields result (verdict_fields v)) 0 ≡ kind v
kind_read result (Least w) = field_at_lem result (verdict_fields (Least w)) 0 (lit< tt) (lit< tt)
kind_read result (NoDecoder q) = field_at_lem result (verdict_fields (NoDecoder q)) 0 (lit< tt) (lit< tt)

module _ {f : List ℕ} {p : ℕ} {before result after given : List ℕ} (v : FoundFromC f p before result after given) where
  pub read_kind : field_at given 0 ≡ kind v.verdict
  read_kind = ap (λ (r : List ℕ). field_at r 0) v.fields ∙ kind_read result v.verdict

  pub read_file : file_refusal f ≡ 0
  read_file = (search_accepted f p _ (found default_order f p before v.verdict after v.promised).accepted).file

-- ---- a window

module _ (f : List ℕ) (file_ok : file_refusal f ≡ 0) where
  high : pairs (machine_of f).states ≤ max_side
  high = rw (states_are f) (pairs_high (states_of f) (accepted f file_ok).entries.limits.states_high)

  -- a window that a search reports is the one that the host reads, with the host's own settle count
  window_read_lem :
      (p : ℕ) (letters letters' result : List ℕ) (v : Verdict) → SearchPromise default_order f p letters (Ok v) letters' →
      field_at (with_fields result (verdict_fields v)) 0 ≡ 0 → v ≡ Least (window_read (with_fields result (verdict_fields v)) p)
  window_read_lem p letters letters' result (Least w) g e =
      let h = (found default_order f p letters (Least w) letters' g).says in
      let ns : List ℕ = 0 ∷ w.before ∷ w.after ∷ [] in
      let b = field_at_lem result ns 1 (lit< tt) (omega (arith, h.before_small, high)) in
      let a = field_at_lem result ns 2 (lit< tt) (omega (arith, h.after_small, high)) in
      ap (λ (n : ℕ). Least (window w.before w.after n)) h.settle ∙ ap Least (sym (ap₂ (λ (x y : ℕ). window x y p) b a))
  window_read_lem p letters letters' result (NoDecoder q) g e =
      let z = kind_read result (NoDecoder q) in
      absurd (omega arith)

  pub window_found :
      (p : ℕ) (letters result letters' result' : List ℕ) → SearchFromHost f p letters result 0 letters' result' → field_at result' 0 ≡ 0 →
      SearchPromise default_order f p letters (Ok (Least (window_read result' p))) letters'
  window_found p letters result letters' result' found e =
      let v = search_found f p letters result letters' result' found in
      rw v.fields
      (rw (window_read_lem p letters letters' result v.verdict v.promised (rw v.fields at e)) at v.promised)
