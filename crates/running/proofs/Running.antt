-- The run letter by letter, and what a run that is not refused may rely on.
use mathlib.Core.Path.{◌≡◌, refl, sym, ap, ◌∙◌}
use mathlib.Core.Bool.{Bool, true, not}
use mathlib.Core.List.{List, ◌++◌, append-nil}
use Prim.Native.Nat.{ℕ, ◌+◌, ◌≤◌, ◌<◌}
use native.Mathlib.Numerals.{add-one}
use native.Mathlib.Omega.{arith}
use lib.ListN.{length, get_or, set, take, drop, length-set, take-append-drop}
use lib.Seq.{drop-cons, drop-drop, drop-length, drop-set-lt, take-suc-set, append_snoc}
use lib.Dec.{lit<, ltb}
use borrow.Author.Tests.{ltb-true}
use Rattle.mealy.specs.Machine.{Machine, outs, end, Letters}
use Rattle.mealy.proofs.Agreeing.{outs_agree, end_agree}
use Rattle.coder.specs.Limits.{max_inputs}
use Rattle.coder.specs.Refusal.{refuse, letters_below}
use Rattle.coder.specs.File.{states_of, inputs_of, file_refusal, machine_of}
use Rattle.coder.specs.Table.{coder_of, table_at}
use Rattle.running.specs.Run.{run_refusal, tables_machine, Runnable, Ran, RunAsked}
use Rattle.coder.specs.declared.inner.tables.Coder.{Coder}
use Rattle.coder.proofs.Refusals.{refuse_not, first_none, letters_below_lem}
use Rattle.mealy.proofs.Letters.{letters_higher, letter_at_lem}
use Rattle.coder.proofs.Accepted.{accepted}
use Rattle.coder.proofs.Tables.{table_same, sound_coder}

-- the run from st on xs has come to place i and to state s; the buffer was `before` and is o
pub record Reached (M : Machine) (st : ℕ) (xs before o : List ℕ) (s i : ℕ) : Type 0 where
  pub bound : i ≤ length xs
  pub size : length o ≡ length before
  pub ends : end M st xs ≡ end M s (drop i xs)
  pub wrote : outs M st xs ≡ take i o ++ outs M s (drop i xs)
  pub rest : drop i o ≡ drop i before

pub reached_none : (M : Machine) (st : ℕ) (xs before : List ℕ) → Reached M st xs before before st 0
reached_none M st xs before = record { bound = omega arith; size = refl; ends = refl; wrote = refl; rest = refl }

pub reached_more :
    {M : Machine} {st : ℕ} {xs before o : List ℕ} {s i x v s' : ℕ} → Reached M st xs before o s i →
    i < length xs → i < length o → x ≡ get_or xs i 0 → v ≡ M.out s x → s' ≡ M.next s x →
    Reached M st xs before (set o i v) s' (i + 1)
reached_more {M} {st} {xs} {before} {o} {s} {i} {x} {v} {s'} a l r ex ev es =
    record {
      bound = omega arith;
      size = length-set o i v ∙ a.size;
      ends = rw (add-one, es, ex) (a.ends ∙ ap (end M s) (drop-cons xs i 0 l));
      wrote =
          rw (add-one, take-suc-set o i v r, append_snoc, ev, es, ex)
          (a.wrote ∙ ap (λ t. take i o ++ outs M s t) (drop-cons xs i 0 l));
      rest =
          drop-set-lt (i + 1) o i v (omega arith) ∙ sym (drop-drop 1 i o) ∙ ap (drop 1) a.rest ∙ drop-drop 1 i before;
    }

module _ {M : Machine} {st : ℕ} {xs before o : List ℕ} {s i : ℕ} (a : Reached M st xs before o s i)
    (e : i ≡ length xs) where
  pub reached_end : s ≡ end M st xs
  reached_end = sym (a.ends ∙ rw (e, drop-length))

  pub reached_bytes : o ≡ outs M st xs ++ drop (length xs) before
  reached_bytes = sym (take-append-drop i o) ∙ rw (a.rest, a.wrote, e, drop-length, append-nil)

-- what the loop over the letters needs
pub ruleset reaching = (reached_none, reached_more, reached_end, reached_bytes, letter_at_lem)

pub record RunAccepted (f : List ℕ) (s : ℕ) (xs : List ℕ) (fit : Bool) : Type 0 where
  pub file : file_refusal f ≡ 0
  pub state : s < states_of f
  pub fits : fit ≡ true
  pub letters : Letters (inputs_of f) xs

pub run_accepted :
    (f : List ℕ) (s : ℕ) (xs : List ℕ) (fit : Bool) → run_refusal f s xs fit ≡ 0 → RunAccepted f s xs fit
unfolding run_refusal
run_accepted f s xs fit e =
    let l = letters_below (inputs_of f) xs in
    let rest = refuse (not (ltb s (states_of f))) 7 (refuse (not fit) 11 (refuse (not l) 12 0)) in
    let a = first_none (file_refusal f) rest e in
    let b = refuse_not (ltb s (states_of f)) _ _ (lit< tt) a.1 in
    let d = refuse_not fit _ _ (lit< tt) b.1 in
    let t = refuse_not l _ _ (lit< tt) d.1 in
    record {
      file = a.0;
      state = ltb-true _ _ b.0;
      fits = d.0;
      letters = letters_below_lem (inputs_of f) xs t.0;
    }

-- where a call's refusal is 0 and its input fits into the buffer
pub asked :
    (f : List ℕ) (s : ℕ) (xs before : List ℕ) (fit : Bool) → run_refusal f s xs fit ≡ 0 → length xs ≤ length before →
    RunAsked f s xs before
asked f s xs before fit e l = record { none = rw (run_accepted f s xs fit e).fits at e; room = l }

-- the loop over the letters on the tables of the file
module _ {c : Coder} {f : List ℕ} (e : c ≡ coder_of f) {s : ℕ} {xs before : List ℕ} (q : RunAsked f s xs before) where
  acceptance : RunAccepted f s xs true
  acceptance = run_accepted f s xs true q.none

  pub runnable : Runnable c.next s xs before
  unfolding coder_of
  runnable =
      let r = acceptance in
      let a = accepted f r.file in
      let h = a.entries.limits in
      let p = r.state in
      rw e
      record {
        next_state = λ s i. omega (arith, (sound_coder f a).next_state s i);
        state = omega arith;
        letters = letters_higher (inputs_of f) max_inputs xs h.inputs_high r.letters;
        room = q.room;
      }

  next_same : table_at c.next ≡ (machine_of f).next
  unfolding coder_of machine_of
  next_same = rw e (table_same (accepted f acceptance.file).entries 0)

  output_same : table_at c.output ≡ (machine_of f).out
  unfolding coder_of machine_of
  output_same = rw e (table_same (accepted f acceptance.file).entries 1)

  pub ran_file :
      {last : ℕ} {after : List ℕ} → Ran (tables_machine c.next c.output) s xs before last after →
      Ran (machine_of f) s xs before last after
  ran_file {last} {after} r =
      let M = tables_machine c.next c.output in
      record {
        ends = r.ends ∙ end_agree M (machine_of f) next_same output_same s xs;
        bytes = r.bytes ∙ ap (λ l. l ++ drop (length xs) before) (outs_agree M (machine_of f) next_same output_same s xs);
      }
