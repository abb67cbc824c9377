-- Reader and writer are inverses, and each coder within the limits that names its whole alphabet has one file.
use mathlib.Core.Path.{◌≡◌, refl, sym, ap, subst, ◌∙◌}
use mathlib.Core.Bool.{true}
use mathlib.Core.List.{List, [], ◌∷◌}
use Prim.Native.Nat.{ℕ, zero, suc, ◌≤◌}
use native.Mathlib.Omega.{arith}
use lib.ListN.{length, take, drop}
use lib.Seq.{take_at}
use Rattle.mealy.specs.Machine.{Letters}
use Rattle.coder.specs.Refusal.{answer}
use Rattle.coder.specs.File.{states_of, inputs_of, outputs_of, entries_of, file_of, entries_refusal, file_refusal}
use Rattle.reader.specs.Read.{header_of, part_of}
use Rattle.reader.specs.declared.Header.{Header}
use Rattle.coder.proofs.Accepted.{entries_accepted, entries_high, coder_accepted, file_entries}
use Rattle.coder.proofs.Inverse.{read_written, written_read, file_bytes}
use Rattle.placing.specs.Placed.{with_front}
use Rattle.writer.specs.Write.{write_refusal_in, FilePromise, WroteFile, WriteWith, WritePromise}
use Rattle.writer_host.specs.Laid.{WriteFromHost}
use Rattle.writer.proofs.Writing.{length_file, write_accepted, write_given}
use Rattle.writer_host.proofs.Hosting.{write_others}
use Rattle.layout.specs.Layout.{result_bytes, field_at}
use Rattle.layout.specs.Host.{laid_count}
use Rattle.layout.proofs.Hosting.{no_refusal, from_host, answered_host}
use Rattle.theorems.specs.Files.{Read, ReadsBack, WrittenRead, WrittenReadFromC, WritesBack, OneFile, ReaderAndWriter}
use Rattle.theorems.specs.RoundTrip.{FieldHolds}
use Rattle.theorems.proofs.HostReads.{first_read}
use Rattle.std.specs.Prelude.{Result, Ok, Err}
use Rattle.coder.specs.declared.refusal.Refusal.{Refusal}
use Rattle.coder.specs.Refused.{Refused}
use Rattle.reader.specs.Read.{header}

-- ---- the file of counts and entries within the limits

-- a file for which the reader gives counts
record HasCounts (f : List ℕ) (n i o : ℕ) : Type 0 where
  none : file_refusal f ≡ 0
  states : states_of f ≡ n
  inputs : inputs_of f ≡ i
  outputs : outputs_of f ≡ o

abbrev states_in : Result Header Refusal → ℕ
states_in (Ok h) = h.states
states_in (Err e) = 0

abbrev inputs_in : Result Header Refusal → ℕ
inputs_in (Ok h) = h.inputs
inputs_in (Err e) = 0

abbrev outputs_in : Result Header Refusal → ℕ
outputs_in (Ok h) = h.outputs
outputs_in (Err e) = 0

has_counts : (f : List ℕ) (n i o : ℕ) → header_of f ≡ Ok (header n i o) → HasCounts f n i o
has_counts f n i o = go (file_refusal f) refl
  where
    go :
        (k : ℕ) → file_refusal f ≡ k →
        answer k (λ j. Refused j) (Ok (header (states_of f) (inputs_of f) (outputs_of f))) ≡ Ok (header n i o) → HasCounts f n i o
    go zero e d = record { none = e; states = ap states_in d; inputs = ap inputs_in d; outputs = ap outputs_in d }
    go (suc k) e d = let z : ◌≡◌ {A = ℕ} 0 1 = cc in absurd (omega arith)

module _ (n i o : ℕ) (entries : List ℕ) (e : entries_refusal n i o entries ≡ 0) where
  header_back : header_of (file_of n i o entries) ≡ Ok (header n i o)
  header_back =
      let b = written_read n i o entries e in
      rw (b.none, b.states, b.inputs, b.outputs)

  part_back : part_of (file_of n i o entries) ≡ entries
  part_back = let b = written_read n i o entries e in rw (b.none, b.bytes)

  reads_back : ReadsBack n i o entries (file_of n i o entries)
  reads_back = record {
    accepted = (written_read n i o entries e).none;
    back = λ h part r. (r.counts ∙ header_back, r.entries.bytes ∙ part_back);
  }

  small : FieldHolds (length (file_of n i o entries))
  small =
      let a = entries_accepted n i o entries e in
      omega (arith, length_file n i o entries, a.size, entries_high n i o a.limits)

  one_file : OneFile n i o entries
  one_file = record {
    file = file_of n i o entries;
    is = record { bytes = file_bytes n i o entries e; counts = header_back; part = part_back };
    only = λ f q.
        let a = has_counts f n i o q.counts in
        let p : part_of f ≡ entries = q.part in
        let same : entries_of f ≡ entries = rw a.none at p in
        sym (read_written f q.bytes a.none) ∙ rw (a.states, a.inputs, a.outputs, same);
    written = λ before r after room p. write_given n i o entries before (file_of n i o entries) r after e refl room p;
  }

-- ---- what was written

done_count : (k : ℕ) (file before : List ℕ) (m : ℕ) (after : List ℕ) → FilePromise k file before (Ok m) after → (k ≡ 0) × (take m after ≡ file)
done_count zero file before m after p =
    let d = p.result in
    let q : m ≡ length file = cc in
    (refl, rw (q, p.bytes) (take_at file (drop (length file) before) (length file) refl))
done_count (suc k) file before m after p = let d = p.result in let z : ◌≡◌ {A = ℕ} 0 1 = cc in absurd (omega arith)

written : WrittenRead
written n i o entries before m after p =
    let d = done_count _ (file_of n i o entries) before m after p in
    subst (ReadsBack n i o entries) (sym d.1) (reads_back n i o entries (write_accepted n i o entries before true d.0).asked.none)

written_from_C : WrittenReadFromC
written_from_C n i o entries before result after result' h =
    let g =
    answered_host (λ others own. WriteWith n i o entries before others own after) laid_count
    (λ others own. write_others n i o entries before after others own) (omega arith) h in
    let z = no_refusal (λ m. m ∷ []) (write_refusal_in n i o entries (length before) true) _ _ g.promised.result
    (sym g.out.number) in
    let e = (write_accepted n i o entries before true z).asked.none in
    let file = file_of n i o entries in
    let m = (first_read result (laid_count g.own) (length file) [] (ap laid_count (rw z at g.promised.result)) (small n i o entries e)
    g.out).1 in
    let front : take (field_at result' 0) after ≡ file = rw (m, (rw z at g.promised.bytes)) (take_at file _ (length file) refl) in
    subst (ReadsBack n i o entries) (sym front) (reads_back n i o entries e)

-- ---- what was read

module _ (f : List ℕ) (bytes : Letters 256 f) (z : file_refusal f ≡ 0) where
  back :
      (before : List ℕ) (r : Result ℕ Refusal) (after : List ℕ) → length f ≤ length before →
      WritePromise (states_of f) (inputs_of f) (outputs_of f) (entries_of f) before r after → WroteFile f before r after
  back before r after room p =
      write_given (states_of f) (inputs_of f) (outputs_of f) (entries_of f) before f r after (file_entries f z) (read_written f bytes z) room p

  rewritten : (h : Result Header Refusal) (part : List ℕ) → Read f h part → WritesBack f h part
  rewritten h part r =
      let e : part ≡ entries_of f = rw z at r.entries.bytes in
      record {
        states = states_of f;
        inputs = inputs_of f;
        outputs = outputs_of f;
        counts = rw z at r.counts;
        back = λ before q after room p. back before q after room (rw e at p);
      }

  rewritten_from_C :
      (before result : List ℕ) (r : ℕ) (after result' : List ℕ) → length f ≤ length before → result_bytes ≤ length result →
      WriteFromHost (states_of f) (inputs_of f) (outputs_of f) (entries_of f) before result r after result' →
      (r ≡ 0) × (field_at result' 0 ≡ length f) × (after ≡ with_front f before)
  rewritten_from_C before result r after result' room long h =
      let g =
      from_host (λ others own. WriteWith (states_of f) (inputs_of f) (outputs_of f) (entries_of f) before others own after) laid_count long h in
      let b = back before g.own after room g.promised in
      let few = subst (λ (x : List ℕ). FieldHolds (length x)) (read_written f bytes z) (small _ _ _ _ (file_entries f z)) in
      let x = first_read result (laid_count g.own) (length f) [] (ap laid_count b.result) few g.out in
      (x.0, x.1, b.bytes)

pub reader_and_writer : ReaderAndWriter
reader_and_writer = record {
  written_read = written;
  written_read_from_C = written_from_C;
  read_written = rewritten;
  read_written_from_C = rewritten_from_C;
  each_one_file = λ n i o entries c. one_file n i o entries (coder_accepted n i o entries c);
}
