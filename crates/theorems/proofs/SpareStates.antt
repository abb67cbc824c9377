-- Spare states do not count: two files which differ in them alone are judged alike, run alike and have the same valid pairs.
use mathlib.Core.Path.{◌≡◌, refl, sym, ap, ◌∙◌}
use mathlib.Core.Bool.{Bool, ◌&&◌}
use mathlib.Core.List.{List, [], ◌++◌}
use Prim.Native.Nat.{ℕ, zero, suc, ◌≤◌, ◌<◌}
use native.Mathlib.Omega.{arith}
use lib.ListN.{length, drop}
use lib.Dec.{lit<, leb}
use borrow.Author.Tests.{lt-ltb}
use Rattle.mealy.specs.Machine.{outs, end, Letters}
use Rattle.mealy.specs.Setting.{Same}
use Rattle.mealy.specs.LoopedPair.{LoopedPair, Run, first, second, start_of, Valid}
use Rattle.mealy.proofs.SameSettings.{outs_same, end_same, same_sym, same_trans, works_same, least_same, answers_same, valid_same, first_same}
use Rattle.mealy.proofs.StartStates.{same_zero}
use Rattle.mealy.proofs.SpareStates.{same_with_spare, windows_with_spare, all_reachable}
use Rattle.coder.specs.Refusal.{upon, Judges}
use Rattle.coder.specs.File.{states_of, inputs_of, machine_of, setting_of}
use Rattle.coder.proofs.Accepted.{accepted}
use Rattle.coder.proofs.Judging.{judges_not, judges_map}
use Rattle.coder.proofs.Refusals.{answer_same, upon_map}
use Rattle.coder.proofs.Tables.{total, some_state, file_bounded}
use Rattle.running.specs.Run.{run_refusal}
use Rattle.running_host.specs.Laid.{laid_run}
use Rattle.running.proofs.Running.{run_accepted}
use Rattle.values.specs.Window.{window}
use Rattle.values.specs.Order.{relation_of}
use Rattle.values.specs.declared.Order.{Order}
use Rattle.search.specs.Search.{search_refusal_in, SaysOf, FoundVerdict, RefusedSearch, SearchWith}
use Rattle.search.specs.declared.Verdict.{Verdict}
use Rattle.search.specs.declared.Verdict.TheVariants.{Least, NoDecoder}
use Rattle.checker.specs.Check.{check_refusal, CheckedRight, CheckWith}
use Rattle.checker_host.specs.Laid.{laid_check}
use Rattle.checker.proofs.Determined as checker
use Rattle.layout.proofs.Hosting.{from_host, same_host, same_host_buffer}
use Rattle.theorems.specs.SpareStates.{FileWithSpare, SameOutcomes, SameOutcomesFromC, SpareStates}
use Rattle.theorems.specs.SettleCounts.{verdict_with, result_with}
use Rattle.theorems.proofs.RoundTrip.{states_are}
use Rattle.theorems.proofs.Alike.{Alike, search_alike, search_alike_from_C, answers_alike, answers_from_C}
use Rattle.theorems.proofs.HostReads.{first_read}
use Rattle.std.specs.Prelude.{Result, Ok}
use Rattle.coder.specs.declared.refusal.Refusal.{Refusal}
use Rattle.coder.specs.Refused.{Refused}
use Rattle.running.specs.Run.{run_end}

-- ---- from the one file to the other

module _ {f f' : List ℕ} (h : FileWithSpare f f') where
  same : Same (setting_of f) (setting_of f')
  same = same_with_spare h.entries

  inputs_same : inputs_of f ≡ inputs_of f'
  unfolding machine_of
  inputs_same = h.entries.inputs

  fewer : (machine_of f).states ≤ (machine_of f').states
  unfolding machine_of
  fewer = h.states

  -- windows, with any settle count
  alike : (p : ℕ) → Alike f f' p p
  alike p =
      record {
        file = h.file ∙ sym h.file';
        small = refl;
        outputs = h.outputs;
        fewer = fewer;
        windows = windows_with_spare h.entries p;
        firsts = first_same same;
      }

  -- runs
  run_number : (s : ℕ) (xs : List ℕ) (fits : Bool) → (setting_of f).Start s → run_refusal f s xs fits ≡ run_refusal f' s xs fits
  unfolding run_refusal machine_of
  run_number s xs fits r =
      let l : s < states_of f = file_bounded f (accepted f h.file) s r in
      let m = h.states in
      rw (h.file, h.file', lt-ltb s (states_of f) l, lt-ltb s (states_of f') (omega arith), inputs_same)

  module _ (s : ℕ) (xs : List ℕ) (r : (setting_of f).Start s) (fits : Bool) (e : run_refusal f s xs fits ≡ 0) where
    own_letters : Letters (machine_of f).inputs xs
    unfolding machine_of
    own_letters = (run_accepted f s xs fits e).letters

    run_outs : outs (machine_of f) s xs ≡ outs (machine_of f') s xs
    run_outs = outs_same same s xs r own_letters

    run_last : end (machine_of f) s xs ≡ end (machine_of f') s xs
    run_last = end_same same s xs r own_letters

  -- pairs
  check_number : (q : LoopedPair) (fits : Bool) → ((u : Run) → start_of q u < states_of f) → check_refusal f q fits ≡ check_refusal f' q fits
  unfolding check_refusal
  check_number q fits l =
      let k = l first in
      let m = l second in
      let n = h.states in
      rw (
        h.file,
        h.file',
        lt-ltb q.s (states_of f) k,
        lt-ltb q.t (states_of f) m,
        lt-ltb q.s (states_of f') (omega arith),
        lt-ltb q.t (states_of f') (omega arith),
        inputs_same,
      )

  judged_same : {q : LoopedPair} {answer : Bool} → Judges (Valid (setting_of f) q) answer → Judges (Valid (setting_of f') q) answer
  judged_same {q} = judges_map (valid_same same q) (valid_same (same_sym same) q)

-- ---- the outcomes

-- a result that a search promises has the settle count that the search was made with
own_settle :
    (o : Order) (f : List ℕ) (p : ℕ) (before : List ℕ) (others : Bool) (r : Result Verdict Refusal) (after : List ℕ) →
    SearchWith o f p before others r after → r ≡ result_with p r
own_settle o f p before others r after = go (search_refusal_in f p (length before) others)
  where
    settle : (v : Verdict) → SaysOf o f p v before after → v ≡ verdict_with p v
    settle (Least w) s = ap (λ (n : ℕ). Least (window w.before w.after n)) s.settle
    settle (NoDecoder q) s = refl

    go : (k : ℕ) → upon k (λ j. RefusedSearch j r before after) (FoundVerdict o f p r before after) → r ≡ result_with p r
    go zero g = g.is ∙ ap Ok (settle g.verdict g.says) ∙ sym (ap (result_with p) g.is)
    go (suc k) g = g.is ∙ sym (ap (result_with p) g.is)

module _ {f f' : List ℕ} (h : FileWithSpare f f') where
  same_outcomes : SameOutcomes f f'
  same_outcomes =
      record {
        run = λ s xs before others r r' after after' reach x y.
            let fits = (leb (length xs) (length before) && others) in
            let e = run_number h s xs fits reach in (
              x.result
                  ∙ answer_same (λ k. Refused k) _ _ e (λ z. ap (λ t. Ok (run_end (length xs) t)) (run_last h s xs reach fits z))
                  ∙ sym y.result,
              x.bytes
                  ∙ answer_same (λ k. before) _ _ e (λ z. ap (λ os. os ++ drop (length xs) before) (run_outs h s xs reach fits z))
                  ∙ sym y.bytes,
            );
        search = λ o p before others r r' after after' x y.
            let e = search_alike (alike h p) o before others r r' after after' x y in
            (own_settle o f p before others r after x ∙ e.0, e.1);
        answers = λ p. answers_alike (alike h p);
        check = λ q others r r' l a b.
            checker.check_determined f' q others r r'
            (upon_map (λ k. r ≡ Refused k) (CheckedRight f q r) (CheckedRight f' q r) (check_number h q others l)
            (λ z g.
            let j = judged_same h (record { yes' = g.yes'; no' = g.no' }) in
            record { answer = g.answer; is = g.is; yes' = j.yes'; no' = j.no' })
            a)
            b;
      }

  same_from_C : SameOutcomesFromC f f'
  same_from_C =
      record {
        run = λ s xs before result r r' after after' given given' reach.
            same_host_buffer
            (λ own own' x y.
            let e = same_outcomes.run s xs before _ own own' after after' reach x y in (ap laid_run e.0, e.1));
        search = λ p. search_alike_from_C (alike h p);
        answers = λ p. answers_from_C (answers_alike (alike h p));
        check = λ q result r r' given given' l. same_host (λ own own' x y. ap laid_check (same_outcomes.check q _ own own' l x y));
      }

-- ---- all of them

pub spare_states : SpareStates
spare_states =
    record {
      checked = λ f q r u e c not-reachable.
          let g : CheckedRight f q r = rw e at c in
          checker.checked_as f q g (judges_not (λ v. not-reachable (v.start u)));
      checked_from_C = λ f q result r result' u e long c not-reachable.
          let g = from_host (CheckWith f q) laid_check long c in
          let y : CheckedRight f q g.own = rw e at g.promised in
          let no = checker.checked_as f q y (judges_not (λ v. not-reachable (v.start u))) in
          first_read result (laid_check g.own) 0 [] (ap laid_check no) (lit< tt) g.out;
      with_spare = λ f f' h. same_outcomes h;
      with_spare_from_C = λ f f' h. same_from_C h;
      none_spare = λ f z all.
          let a = accepted f z in
          let M = machine_of f in
          let e = all_reachable M (total f a) (some_state f a) (λ s l. all s (below f s l)) in
          let e' = same_sym e in
          let d = same_trans (same_zero M) e in
          let d' = same_sym d in
          record {
            works = λ b c. (works_same e b c, works_same e' b c);
            least = λ o b c. (least_same e (relation_of o) b c, least_same e' (relation_of o) b c);
            answers = λ w b v. (answers_same e w b v, answers_same e' w b v);
            valid = λ q. (valid_same d q, valid_same d' q);
            first = λ q. (first_same d q, first_same d' q);
          };
    }
  where
    below : (f : List ℕ) (s : ℕ) → s < (machine_of f).states → s < states_of f
    below f s l = rw (states_are f) at l
