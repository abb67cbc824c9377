-- The file put together in the lent buffer, and what a call that is not refused may rely on.
use mathlib.Core.Path.{◌≡◌, refl, sym, ap, subst, ◌∙◌}
use mathlib.Core.Bool.{Bool, true}
use mathlib.Core.List.{List, ◌++◌}
use Prim.Native.Nat.{ℕ, ◌+◌, ◌≤◌}
use native.Mathlib.Omega.{arith}
use lib.ListN.{length}
use lib.Dec.{lit<, leb}
use borrow.Author.Tests.{leb-true, le-leb}
use Rattle.coder.specs.BigEndian.{big_endian}
use Rattle.coder.specs.File.{file_of, entries_refusal}
use Rattle.coder.proofs.Refusals.{refuse_not, first_none, both_true}
use Rattle.coder.proofs.Accepted.{entries_accepted, entries_high}
use Rattle.std.specs.Prelude.{Result, Ok, IsErrAnd}
use Rattle.coder.specs.declared.refusal.Refusal.{Refusal}
use Rattle.coder.specs.Refused.{number_of}
use Rattle.coder.proofs.Refused.{handed_on, refused_returns, refused_leaves}
use Rattle.placing.specs.Placed.{Placed}
use Rattle.placing.proofs.Placing.{written_then, written_length, placed_front}
use Rattle.writer.specs.Write.{write_refusal, write_refusal_in, FilePromise, WroteFile, WritePromise, first_six, FirstSixAsked, WriteAsked, FileWritten}

pub length_file : (n i o : ℕ) (entries : List ℕ) → length (file_of n i o entries) ≡ 6 + length entries
unfolding big_endian
length_file n i o entries = omega arith

-- the file is its first six bytes and the entries
file_parts : (n i o : ℕ) (entries : List ℕ) → file_of n i o entries ≡ first_six n i o (length entries) ++ entries
unfolding big_endian
file_parts n i o entries = refl

length_first_six : (n i o size : ℕ) → length (first_six n i o size) ≡ 6
unfolding big_endian
length_first_six n i o size = refl

module _ {n i o : ℕ} {entries before : List ℕ} (q : WriteAsked n i o entries before) where
  pub first_six_asked : FirstSixAsked n i o (length entries)
  first_six_asked =
      let a = entries_accepted n i o entries q.none in
      record {
        states = omega (arith, a.limits.states_high);
        inputs = omega (arith, a.limits.inputs_high);
        outputs = omega (arith, a.limits.outputs_high);
        count = omega (arith, a.size, entries_high n i o a.limits);
      }

  module _ {h : List ℕ} (e : h ≡ first_six n i o (length entries)) where
    pub first_six_fits : 0 + length h ≤ length before
    first_six_fits = rw (e, length_first_six n i o (length entries)) (omega (arith, q.room, length_file n i o entries))

    module _ {middle : List ℕ} {at : ℕ} (a : Placed before 0 h middle at) where
      pub entries_fit : at + length entries ≤ length middle
      entries_fit =
          let long : length h ≡ 6 = rw (e, length_first_six n i o (length entries)) in
          omega (arith, q.room, length_file n i o entries, a.end, written_length a)

      pub file_written : {after : List ℕ} {count : ℕ} → Placed middle at entries after count → FileWritten (file_of n i o entries) before count after
      file_written {after} {count} b =
          let p = placed_front (rw (e, ← file_parts n i o entries) at (written_then a b)) q.room in
          record { counted = p.0; bytes = p.1 }

-- what the two parts of the file need
pub ruleset parts_fit = (first_six_asked, first_six_fits, entries_fit)

-- a call that writes a file: from what it was told and what its checked part gave to its promise
module _ {k : ℕ} {file before : List ℕ} where
  pub file_refused :
      (r : Result ℕ Refusal) (e : Refusal) → IsErrAnd r (λ x. x ≡ e) → number_of e ≡ k → FilePromise k file before r before
  file_refused r e h n = record { result = handed_on r h ∙ refused_returns e k n _; bytes = refused_leaves e k n _ _ }

  pub file_done :
      {count : ℕ} {after : List ℕ} → k ≡ 0 → FileWritten file before count after → FilePromise k file before (Ok count) after
  file_done z g = record { result = rw z (ap (λ m. Ok m) g.counted); bytes = rw z g.bytes }

-- a call whose refusal is 0
pub record WriteAccepted (n i o : ℕ) (entries before : List ℕ) (others : Bool) : Type 0 where
  pub asked : WriteAsked n i o entries before
  pub fits : others ≡ true

pub write_accepted :
    (n i o : ℕ) (entries before : List ℕ) (others : Bool) → write_refusal_in n i o entries (length before) others ≡ 0 →
    WriteAccepted n i o entries before others
unfolding write_refusal
write_accepted n i o entries before others e =
    let fit = leb (length (file_of n i o entries)) (length before) in
    let a = first_none (entries_refusal n i o entries) _ e in
    let b = refuse_not _ _ _ (lit< tt) a.1 in
    let d = both_true fit others b.0 in
    record { asked = record { none = a.0; room = leb-true _ _ d.0 }; fits = d.1 }

-- Counts and entries within the limits whose file is f, and a buffer with room for it: each outcome is that file.
pub write_given :
    (n i o : ℕ) (entries before f : List ℕ) (r : Result ℕ Refusal) (after : List ℕ) → entries_refusal n i o entries ≡ 0 →
    file_of n i o entries ≡ f → length f ≤ length before → WritePromise n i o entries before r after → WroteFile f before r after
unfolding write_refusal
write_given n i o entries before f r after e same l p =
    let room = subst (λ (g : List ℕ). length g ≤ length before) (sym same) l in
    let none : write_refusal_in n i o entries (length before) true ≡ 0 = rw (e, le-leb (length (file_of n i o entries)) (length before) room) in
    subst (λ (g : List ℕ). WroteFile g before r after) same (rw none at p)
