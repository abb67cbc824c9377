-- From what the reader and the search say to the report's lines.
use mathlib.Core.Path.{◌≡◌, refl, sym, ap, ◌∙◌}
use mathlib.Core.Bool.{true}
use mathlib.Core.List.{List, ◌++◌}
use Prim.Native.Nat.{ℕ, zero, suc, ◌+◌, ◌<◌, ◌≤◌}
use native.Mathlib.Omega.{arith}
use lib.ListN.{length}
use borrow.Author.Tests.{le-leb}
use Rattle.mealy.specs.Product.{pairs}
use Rattle.coder.specs.Refusal.{answer}
use Rattle.coder.specs.File.{file_refusal, states_of, inputs_of, outputs_of, machine_of, setting_of, setting_after}
use Rattle.reader.specs.Read.{header_of}
use Rattle.reader.specs.declared.Header.{Header}
use Rattle.coder.proofs.FileNumbers.{file_number}
use Rattle.coder.proofs.Refusals.{upon_refused, upon_done}
use Rattle.coder.proofs.Accepted.{accepted}
use Rattle.coder.proofs.Tables.{file_bounded}
use Rattle.product.proofs.Depths.{pairs_high}
use Rattle.values.specs.declared.Window.{Window}
use Rattle.values.specs.declared.LoopedPair.{LoopedPair}
use Rattle.values.specs.Pair.{pair_of}
use Rattle.values.specs.Order.{relation_of, default_order}
use Rattle.search.proofs.Files.{search_pass}
use Rattle.search.specs.Search.{search_refusal_in, wanted, SaysOf, WindowReport, PairReport, FoundVerdict, SearchPromise}
use Rattle.search.specs.declared.Verdict.{Verdict}
use Rattle.search.proofs.Determined.{pair_short}
use Rattle.search.specs.declared.Verdict.TheVariants.{Least, NoDecoder}
use Rattle.placing.specs.Placed.{Placed}
use Rattle.placing.proofs.Placing.{written_then}
use Rattle.pair_text.specs.Lines.{pair_text, pair_bytes, PairAsked}
use Rattle.pair_text.proofs.Lengths.{text_short}
use Rattle.report_text.specs.Text.{VerdictWritten, ReportWritten}
use Rattle.report_text.specs.Report.{refused_text, coder_line, window_line}
use Rattle.report_text.specs.Report.VerdictLines.{a_window, no_window}
use Rattle.report_text.proofs.Lengths.{refused_length, window_length}
use Rattle.std.specs.Prelude.{Result, Ok, Err}
use Rattle.coder.specs.declared.refusal.Refusal.{Refusal}
use Rattle.coder.proofs.Refused.{number_back, number_some}
use Rattle.coder.specs.Refused.{number_of, number_in, Refused}
use Rattle.reader.specs.Read.{header}

-- ---- the reader

abbrev states_in : Result Header Refusal → ℕ
states_in (Ok h) = h.states
states_in (Err e) = 0

abbrev inputs_in : Result Header Refusal → ℕ
inputs_in (Ok h) = h.inputs
inputs_in (Err e) = 0

abbrev outputs_in : Result Header Refusal → ℕ
outputs_in (Ok h) = h.outputs
outputs_in (Err e) = 0

pub record HeaderRefused (f : List ℕ) (k : ℕ) : Type 0 where
  pub by : k ≡ file_refusal f
  pub some : k ≡ 0 → ⊥

pub header_refused : (f : List ℕ) {h : Result Header Refusal} {e : Refusal} → h ≡ header_of f → h ≡ Err e → HeaderRefused f (number_of e)
header_refused f {h} {e} q d = go (file_refusal f) refl (sym q ∙ d)
  where
    go :
        (n : ℕ) → file_refusal f ≡ n → answer n (λ j. Refused j) (Ok (header (states_of f) (inputs_of f) (outputs_of f))) ≡ Err e →
        HeaderRefused f (number_of e)
    go zero y p = let z : ◌≡◌ {A = ℕ} 0 1 = cc in absurd (omega arith)
    go (suc n) y p =
        let low = rw y at (file_number (λ k. k ≤ 17) (λ k l. omega arith) (omega arith) f) in
        record { by = sym (ap number_in p) ∙ number_back (suc n) (omega arith) low ∙ sym y; some = number_some e }

pub refused_short : (f : List ℕ) {h : Result Header Refusal} {e : Refusal} → h ≡ header_of f → h ≡ Err e → number_of e < 1000
refused_short f e d = rw (header_refused f e d).by (file_number (λ k. k < 1000) (λ k l. omega arith) (omega arith) f)

pub record HeaderCounts (f : List ℕ) (n i o : ℕ) : Type 0 where
  pub none : file_refusal f ≡ 0
  pub states : n ≡ states_of f
  pub inputs : i ≡ inputs_of f
  pub outputs : o ≡ outputs_of f

pub header_counts : (f : List ℕ) {h : Result Header Refusal} {x : Header} → h ≡ header_of f → h ≡ Ok x → HeaderCounts f x.states x.inputs x.outputs
header_counts f {h} {x} e d = go (file_refusal f) refl (sym e ∙ d)
  where
    go :
        (m : ℕ) → file_refusal f ≡ m → answer m (λ j. Refused j) (Ok (header (states_of f) (inputs_of f) (outputs_of f))) ≡ Ok x →
        HeaderCounts f x.states x.inputs x.outputs
    go zero q p = record { none = q; states = ap states_in (sym p); inputs = ap inputs_in (sym p); outputs = ap outputs_in (sym p) }
    go (suc m) q p = let z : ◌≡◌ {A = ℕ} 0 1 = cc in absurd (omega arith)

pub counts_short :
    (f : List ℕ) {h : Result Header Refusal} {x : Header} → h ≡ header_of f → h ≡ Ok x → (x.states < 1000) × (x.inputs < 1000) × (x.outputs < 1000)
counts_short f e d =
    let c = header_counts f e d in
    let l = (accepted f c.none).entries.limits in
    (omega (arith, c.states, l.states_high), omega (arith, c.inputs, l.inputs_high), omega (arith, c.outputs, l.outputs_high))

-- ---- the report

pub report_refused :
    (f : List ℕ) {h : Result Header Refusal} {x : Refusal} {n : ℕ} {before after : List ℕ} → h ≡ header_of f → h ≡ Err x →
    Placed before 0 (refused_text (number_of x)) after n → ReportWritten f before after n
report_refused f {h} {x} e d w =
    let r = header_refused f e d in
    record {
      text = refused_text (number_of x);
      right = upon_refused _ _ _ r.by r.some refl;
      is = w;
      short = omega (arith, w.end, refused_length (number_of x) (refused_short f e d));
    }

pub report_accepted :
    (f : List ℕ) {h : Result Header Refusal} {x : Header} {at next : ℕ} {before middle after : List ℕ} → h ≡ header_of f → h ≡ Ok x →
    Placed before 0 (coder_line x.states x.inputs x.outputs) middle at → at ≤ 18 → VerdictWritten f middle at after next →
    ReportWritten f before after next
report_accepted f {h} {x} e d w l v =
    let c = header_counts f e d in
    let q : coder_line x.states x.inputs x.outputs ≡ coder_line (states_of f) (inputs_of f) (outputs_of f) = rw (← c.states, ← c.inputs, ← c.outputs) in
    record {
      text = coder_line x.states x.inputs x.outputs ++ v.lines;
      right = upon_done _ _ _ c.none (record { verdict = v.lines; right = v.right; is = ap (λ (l : List ℕ). l ++ v.lines) q });
      is = written_then w v.is;
      short = omega (arith, v.short);
    }

-- ---- the search, with as many bytes as it wants on an accepted file: never refused

module _ (f before after : List ℕ) (ok : file_refusal f ≡ 0) (long : wanted ≡ length before) where
  not_refused : search_refusal_in f 0 (length before) true ≡ 0
  not_refused = let l : wanted ≤ length before = omega arith in rw (le-leb wanted (length before) l) (search_pass f 0 ok (omega arith))

  found : {r : Result Verdict Refusal} → SearchPromise default_order f 0 before r after → FoundVerdict default_order f 0 r before after
  found p = rw not_refused at p

  pub never_refused : {r : Result Verdict Refusal} {e : Refusal} → SearchPromise default_order f 0 before r after → r ≡ Err e → ⊥
  never_refused p e = let g = found p in let d = g.is in let z : ◌≡◌ {A = ℕ} 0 1 = cc in absurd (omega arith)

  says : {r : Result Verdict Refusal} {v : Verdict} → SearchPromise default_order f 0 before r after → r ≡ Ok v → SaysOf default_order f 0 v before after
  says {r} {v} p e =
      let g = found p in
      let d = g.is in
      let z : v ≡ g.verdict = cc in
      rw z g.says

  window_found :
      {r : Result Verdict Refusal} {v : Verdict} {w : Window} → SearchPromise default_order f 0 before r after → r ≡ Ok v → v ≡ Least w →
      WindowReport (relation_of default_order) (setting_after f 0) 0 w before after
  window_found p e d = rw d at (says p e)

  pair_found :
      {r : Result Verdict Refusal} {v : Verdict} {q : LoopedPair} → SearchPromise default_order f 0 before r after → r ≡ Ok v → v ≡ NoDecoder q →
      PairReport (setting_after f 0) (setting_of f) q before after
  pair_found p e d = rw d at (says p e)

  states_are : (machine_of f).states ≡ states_of f
  unfolding machine_of
  states_are = refl

  inputs_are : (machine_of f).inputs ≡ inputs_of f
  unfolding machine_of
  inputs_are = refl

  pub window_short :
      {r : Result Verdict Refusal} {v : Verdict} {w : Window} → SearchPromise default_order f 0 before r after → r ≡ Ok v → v ≡ Least w →
      (w.before < 1000) × (w.after < 1000)
  window_short p e d =
      let high : pairs (machine_of f).states ≤ 136 = rw states_are (pairs_high (states_of f) (accepted f ok).entries.limits.states_high) in
      let w = window_found p e d in
      (omega (arith, w.before_small), omega (arith, w.after_small))

  pub window_lines :
      {r : Result Verdict Refusal} {v : Verdict} {w : Window} {out out' : List ℕ} {at next : ℕ} → SearchPromise default_order f 0 before r after → r ≡ Ok v →
      v ≡ Least w → Placed out at (window_line w.before w.after) out' next → VerdictWritten f out at out' next
  window_lines {r} {v} {w} p e d q =
      let l = window_short p e d in
      record {
        lines = window_line w.before w.after;
        right = a_window _ _ (window_found p e d).least;
        is = q;
        short = omega (arith, q.end, window_length w.before w.after l.0 l.1);
      }

  pub pair_length :
      {r : Result Verdict Refusal} {v : Verdict} {q : LoopedPair} → SearchPromise default_order f 0 before r after → r ≡ Ok v → v ≡ NoDecoder q →
      length (pair_text (pair_of q after)) ≤ pair_bytes
  pair_length {r} {v} {q} p e d =
      let g = pair_found p e d in
      let l = (accepted f ok).entries.limits in
      let z : r ≡ Ok (NoDecoder q) = cc in
      text_short (setting_of f) (pair_of q after) (file_bounded f (accepted f ok)) (rw states_are l.states_high) (rw inputs_are l.inputs_high) g.first.valid
      (rw states_are (pair_short default_order f 0 before q after (rw z at p)))

  pub pair_asked :
      {r : Result Verdict Refusal} {v : Verdict} {q : LoopedPair} {out : List ℕ} {at : ℕ} → SearchPromise default_order f 0 before r after →
      r ≡ Ok v → v ≡ NoDecoder q → at + pair_bytes ≤ length out → PairAsked (pair_of q after) at out
  pair_asked p e d l = record { held = (pair_found p e d).first.valid.held; room = omega (arith, pair_length p e d) }

  pub pair_lines :
      {r : Result Verdict Refusal} {v : Verdict} {q : LoopedPair} {out out' : List ℕ} {at next : ℕ} → SearchPromise default_order f 0 before r after →
      r ≡ Ok v → v ≡ NoDecoder q → Placed out at (pair_text (pair_of q after)) out' next → VerdictWritten f out at out' next
  pair_lines {r} {v} {q} p e d w =
      let g = pair_found p e d in
      record {
        lines = pair_text (pair_of q after);
        right = no_window (pair_of q after) g.none g.first;
        is = w;
        short = omega (arith, w.end, pair_length p e d);
      }
