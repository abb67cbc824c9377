-- The starred cases hold: one computed test over the table, and a law from the test to each claim.
use mathlib.Core.Path.{◌≡◌, refl, sym, ap, ap₂, ◌∙◌}
use mathlib.Core.Bool.{Bool, true, false, not, ◌&&◌}
use mathlib.Core.List.{List, ◌++◌}
use Prim.Native.Nat.{ℕ, ◌*◌, ◌≤◌, ◌<◌}
use native.Mathlib.Omega.{arith}
use lib.ListN.{length, get_or, take, drop, take-append-drop, length-drop}
use lib.Seq.{take_all, length-take-le}
use lib.Dec.{leb, eqb}
use borrow.Author.Tests.{eqb-true, leb-true, le-leb, not-true}
use lib.Count.{count_leading_zeros}
use Rattle.mealy.specs.Machine.{outs, end}
use Rattle.mealy.specs.Order.{Least as LeastOf}
use Rattle.mealy.specs.LoopedPair.{letters, Valid}
use Rattle.mealy.specs.First.{First}
use Rattle.mealy.proofs.FirstPairs.{first_unique}
use Rattle.mealy.specs.Answer.{byte_of}
use Rattle.mealy.specs.Index.{window_at}
use Rattle.mealy.proofs.Indices.{length_window}
use Rattle.mealy.specs.Reachable.{Reachable}
use Rattle.mealy.specs.Word as member
use Rattle.mealy.proofs.Words.{holds_map}
use Rattle.mealy.proofs.StartStates.{start_zero, after_closed}
use Rattle.mealy.proofs.PairStarts.{valid_after}
use Rattle.mealy.proofs.LoopedPairs.{excludes}
use Rattle.mealy.proofs.LeastWindows.{least_unique}
use Rattle.coder.specs.Limits.{max_settle}
use Rattle.coder.specs.Refusal.{all_below, some_below}
use Rattle.coder.specs.BigEndian.{big_endian}
use Rattle.coder.specs.Alphabet.{named}
use Rattle.coder.specs.File.{within, in_range, entry_in_range, entries_refusal, file_refusal, file_of, entry_of, states_of, inputs_of, outputs_of}
use Rattle.coder.specs.File.{machine_of, setting_of, setting_after}
use Rattle.coder.specs.Table.{table, coder_of, table_at}
use Rattle.coder.proofs.Refusals.{true_false, both_true, all_at}
use Rattle.coder.proofs.Accepted.{accepted}
use Rattle.coder.proofs.Judging.{judges_yes, judges_not}
use Rattle.coder.proofs.Tables.{total, some_state}
use Rattle.chains.specs.Chain.{is_entry, has_key, over}
use Rattle.running.specs.Run.{run_refusal, run_refusal_in}
use Rattle.values.specs.Window.{window, size}
use Rattle.values.specs.Order.{relation_of}
use Rattle.values.specs.Pair.{pair_of, looped_pair}
use Rattle.values.specs.declared.Order.{Order}
use Rattle.values.proofs.Orders.{is_order}
use Rattle.values.specs.declared.Window.{Window}
use Rattle.values.specs.declared.LoopedPair as values
use Rattle.fitting.specs.Answer.{meaning, answer_of, RightByte}
use Rattle.fitting.specs.declared.Answer.{Answer}
use Rattle.fitting.specs.declared.Answer.TheVariants.{Letter, None, Several}
use Rattle.fitting.proofs.Answers.{right_unique, right_byte, right_byte_unique}
use Rattle.filling.specs.Sets.{contribution, gather, add, added}
use Rattle.filling.specs.Window.{pass, union_of, fitting_word}
use Rattle.decoder_refusal.specs.Refusal.{limits_refusal, window_refusal, string_refusal, table_size, table_refusal, places, string_refusal_in}
use Rattle.decoder_refusal.specs.Refusal.{table_refusal_in}
use Rattle.decoder.specs.Written.{Written}
use Rattle.window_limits.specs.Refusal.{sides_refusal, settle_refusal}
use Rattle.decoder.specs.Window.{AnsweredRight}
use Rattle.decoder_refusal.proofs.Accepting.{window_accepted}
use Rattle.decoder.proofs.Writing.{written_bytes, written_unique}
use Rattle.decoder.proofs.Decoding.{starts_of, file_starts, decoded, file_right}
use Rattle.mealy.proofs.ImageWords.{entries_word, image_word, far_word}
use Rattle.starts.proofs.Computed.{in_steps_word, starts_word}
use Rattle.placing.specs.Placed.{with_front}
use Rattle.writer.proofs.Writing.{write_given}
use Rattle.search.specs.Search.{search_refusal_in, wanted, SaysOf, FoundVerdict, SearchPromise}
use Rattle.search.proofs.Files.{search_pass}
use Rattle.search.specs.declared.Verdict.{Verdict}
use Rattle.search.specs.declared.Verdict.TheVariants.{Least, NoDecoder}
use Rattle.checker.specs.Check.{check_refusal, CheckedRight}
use Rattle.checker.proofs.Determined.{checked_as}
use Rattle.theorems.specs.Starred as claimed
use Rattle.theorems.specs.Cases.{AllCases}
use Rattle.theorems.specs.Starred.{Claim, Holds, starred}
use Rattle.theorems.proofs.CasesHold.{test_cases, cases_hold}
use Rattle.theorems.proofs.Tests.{same_list, same_list_lem, all_starts, all_words, apart, agree, works_test, later_or_fails}
use Rattle.theorems.proofs.Tests.{least_test, least_letters}
use Rattle.theorems.proofs.Tests.{closes_test, valid_test, test_valid, no_earlier, first_test, first_size, first_test_lem, different_test}
use Rattle.theorems.proofs.Tests.{different_test_lem}
use Rattle.std.specs.Prelude.{Result, Ok}
use Rattle.coder.specs.declared.refusal.Refusal.{Refusal}
use Rattle.running.specs.Run.{run_end}

-- ---- the test of a claim

abbrev same_answer : Answer → Answer → Bool
same_answer (Letter x) (Letter y) = eqb x y
same_answer (None k) (None j) = eqb k j
same_answer Several Several = true
same_answer (Letter x) (None j) = false
same_answer (Letter x) Several = false
same_answer (None k) (Letter y) = false
same_answer (None k) Several = false
same_answer Several (Letter y) = false
same_answer Several (None j) = false

same_answer_lem : (v v' : Answer) → same_answer v v' ≡ true → v ≡ v'
same_answer_lem (Letter x) (Letter y) e = ap Letter (eqb-true x y e)
same_answer_lem (None k) (None j) e = ap None (eqb-true k j e)
same_answer_lem Several Several e = refl
same_answer_lem (Letter x) (None j) e = absurd (true_false e refl)
same_answer_lem (Letter x) Several e = absurd (true_false e refl)
same_answer_lem (None k) (Letter y) e = absurd (true_false e refl)
same_answer_lem (None k) Several e = absurd (true_false e refl)
same_answer_lem Several (Letter y) e = absurd (true_false e refl)
same_answer_lem Several (None j) e = absurd (true_false e refl)

-- the byte for the letters of a window
abbrev part_byte : List ℕ → ℕ → ℕ → List ℕ → ℕ
part_byte f p b part = byte_of (meaning (decoded f p part b))

-- the byte of the window with index k
abbrev entry_byte : List ℕ → ℕ → ℕ → ℕ → ℕ → ℕ
entry_byte f p n b k = part_byte f p b (window_at (outputs_of f) n k)

unfoldable pub test : List ℕ → Claim → Bool
test f (claimed.counts n i o) = eqb (states_of f) n && (eqb (inputs_of f) i && eqb (outputs_of f) o)
test f (claimed.written n i o entries) = eqb (entries_refusal n i o entries) 0 && same_list (file_of n i o entries) f
test f (claimed.window o b a p) = leb p max_settle && least_test (machine_of f) (starts_of f p) apart o b a
test f (claimed.no_decoder s t bytes) = first_test (machine_of f) (starts_of f 0) s t bytes && eqb (check_refusal f (claimed.pair s t bytes) true) 0
test f (claimed.not_valid s t bytes) =
    not (valid_test (machine_of f) (starts_of f 0) (claimed.pair s t bytes) apart) && eqb (check_refusal f (claimed.pair s t bytes) true) 0
test f claimed.different_outputs = different_test (machine_of f)
test f (claimed.answer b a p w v) =
    eqb (window_refusal f (window b a p) w true) 0 && same_answer (decoded f p w b) v
test f (claimed.string b a p received bytes) =
    let w = window b a p in
    let same : ℕ → Bool = λ k. eqb (get_or bytes k 0) (part_byte f p b (take (size w) (drop k received))) in
    (eqb (string_refusal f w received true) 0 && (eqb (length bytes) (places (length received) w) && all_below (length bytes) same))
test f (claimed.table b a p bytes) =
    (eqb (table_refusal f (window b a p) true) 0 && (eqb (length bytes) (table_size (outputs_of f) (window b a p)) && all_below (length bytes) (λ k. eqb (get_or bytes k 0) (entry_byte f p (size (window b a p)) b k))))
test f (claimed.run s xs os e) =
    (eqb (run_refusal f s xs true) 0 && (same_list (outs (machine_of f) s xs) os && eqb (end (machine_of f) s xs) e))

-- ---- from the test to the claim

module _ (f : List ℕ) (z : file_refusal f ≡ 0) where
  -- a search with room for any verdict and a settle count within the limit is not refused
  searched :
      (o : Order) (p : ℕ) (before : List ℕ) (r : Result Verdict Refusal) (after : List ℕ) → p ≤ max_settle → wanted ≤ length before →
      SearchPromise o f p before r after → FoundVerdict o f p r before after
  searched o p before r after m l h =
      let e : search_refusal_in f p (length before) true ≡ 0 = rw (le-leb wanted (length before) l) (search_pass f p z m) in
      rw e at h

  window_holds :
      (o : Order) (b a p : ℕ) → p ≤ max_settle → LeastOf (relation_of o) (setting_after f p) b a → Holds f (claimed.window o b a p)
  window_holds o b a p m least before r after l g = go h.verdict h.is h.says
    where
      h : FoundVerdict o f p r before after
      h = searched o p before r after m l g

      go : (v : Verdict) → r ≡ Ok v → SaysOf o f p v before after → (r ≡ Ok (Least (window b a p))) × (after ≡ before)
      go (Least w) e s =
          let u = least_unique (is_order o) (setting_after f p) w.before w.after b a s.least least in
          let same : window w.before w.after w.settle ≡ window b a p = rw (u.0, u.1, s.settle) in
          (e ∙ ap (λ (x : Window). Ok (Least x)) same, s.stays)
      go (NoDecoder q) e s = absurd (s.none b a least.works)

  no_decoder_holds :
      (s t : ℕ) (bytes : List ℕ) → First (setting_of f) (claimed.pair s t bytes) → length bytes ≡ 6 →
      check_refusal f (claimed.pair s t bytes) true ≡ 0 → Holds f (claimed.no_decoder s t bytes)
  no_decoder_holds s t bytes first six e = (
    (λ o p before r after m l g. let h = searched o p before r after m l g in go o p r h.verdict h.is before after h.says),
    λ r c.
        let g : CheckedRight f (claimed.pair s t bytes) r = rw e at c in
        checked_as f (claimed.pair s t bytes) g (judges_yes first.valid),
  )
    where
      go :
          (o : Order) (p : ℕ) (r : Result Verdict Refusal) (u : Verdict) → r ≡ Ok u → (before after : List ℕ) →
          SaysOf o f p u before after →
          (r ≡ Ok (NoDecoder (looped_pair s t 1 0 0 1))) × (after ≡ with_front bytes before)
      go o p r (Least w) d before after h =
          absurd
          (excludes (setting_after f p) (claimed.pair s t bytes) ((valid_after (machine_of f) p (claimed.pair s t bytes)).0 first.valid)
          (after_closed (machine_of f) p) w.before w.after h.least.works)
      go o p r (NoDecoder q) d before after h =
          let k = first_unique (setting_of f) (pair_of q after) (claimed.pair s t bytes) h.first first in
          let n : letters (pair_of q after) ≡ 3 = cc in
          let m : 2 * letters (pair_of q after) ≡ length bytes = omega arith in
          let own : take 6 bytes ≡ bytes = take_all 6 bytes (omega arith) in
          let front : take (2 * letters (pair_of q after)) after ≡ take 6 bytes = cc in
          let e₁ : q.s ≡ s = cc in
          let e₂ : q.t ≡ t = cc in
          let e₃ : q.back_loop ≡ 1 = cc in
          let e₄ : q.lead_in ≡ 0 = cc in
          let e₅ : q.lead_out ≡ 0 = cc in
          let e₆ : q.forward_loop ≡ 1 = cc in
          let same : looped_pair q.s q.t q.back_loop q.lead_in q.lead_out q.forward_loop ≡ looped_pair s t 1 0 0 1 =
          rw (e₁, e₂, e₃, e₄, e₅, e₆) in (
            d ∙ ap (λ (x : values.LoopedPair). Ok (NoDecoder x)) same,
            sym (take-append-drop (2 * letters (pair_of q after)) after) ∙
                ap₂ (λ (x y : List ℕ). x ++ y) (front ∙ own) (h.rest ∙ ap (λ (j : ℕ). drop j before) m),
          )

  not_valid_holds :
      (s t : ℕ) (bytes : List ℕ) → check_refusal f (claimed.pair s t bytes) true ≡ 0 → (Valid (setting_of f) (claimed.pair s t bytes) → ⊥) →
      Holds f (claimed.not_valid s t bytes)
  not_valid_holds s t bytes e not_valid r c =
      let g : CheckedRight f (claimed.pair s t bytes) r = rw e at c in
      checked_as f (claimed.pair s t bytes) g (judges_not not_valid)

  answer_holds :
      (b a p : ℕ) (received : List ℕ) (v : Answer) → window_refusal f (window b a p) received true ≡ 0 →
      decoded f p received b ≡ v → Holds f (claimed.answer b a p received v)
  answer_holds b a p received v e q r g =
      let h : AnsweredRight f (window b a p) received r = rw e at g in
      let inside = (window_accepted f (window b a p) received true e).long in
      let right = file_right f z p received b (omega arith) in
      h.is ∙ ap (λ (x : Answer). Ok x) (right_unique (setting_after f p) received b h.answer _ h.right right ∙ q)

  -- bytes that a call is to write, each the byte for a part of at least b + 1 letters
  bytes_hold :
      (b p : ℕ) (part : ℕ → List ℕ) (bytes before after : List ℕ) (n : ℕ) → length bytes ≡ n → n ≤ length before →
      ((k : ℕ) → k < n → b < length (part k)) → ((k : ℕ) → k < length bytes → get_or bytes k 0 ≡ part_byte f p b (part k)) →
      Written (λ k v. RightByte (setting_after f p) (part k) b v) n before after → after ≡ with_front bytes before
  bytes_hold b p part bytes before after n long room inside each written =
      rw long
      (written_unique (λ k x y. right_byte_unique (setting_after f p) (part k) b) written
      (written_bytes bytes long room (λ k m.
      rw (each k (omega arith))
      (right_byte (setting_after f p) (part k) b (decoded f p (part k) b)
      (file_right f z p (part k) b (inside k m))))))

  string_holds :
      (b a p : ℕ) (received bytes : List ℕ) → string_refusal f (window b a p) received true ≡ 0 →
      length bytes ≡ places (length received) (window b a p) →
      ((k : ℕ) → k < length bytes → get_or bytes k 0 ≡ part_byte f p b (take (size (window b a p)) (drop k received))) →
      Holds f (claimed.string b a p received bytes)
  string_holds b a p received bytes e long each before r after l g =
      let w = window b a p in
      let n = places (length received) w in
      let room : n ≤ length before = omega arith in
      let none : string_refusal_in f w received (length before) true ≡ 0 = rw (le-leb n (length before) room) e in (
        (rw none at g.result) ∙ ap (λ (m : ℕ). Ok m) (sym long),
        bytes_hold b p (λ k. take (size w) (drop k received)) bytes before after n long room
            (λ k m.
            let full : length (take (size w) (drop k received)) ≡ size w =
            length-take-le (size w) (drop k received) (simp length-drop (omega arith)) in
            omega arith)
            each (rw none at g.bytes),
      )

  table_holds :
      (b a p : ℕ) (bytes : List ℕ) → table_refusal f (window b a p) true ≡ 0 → length bytes ≡ table_size (outputs_of f) (window b a p) →
      ((k : ℕ) → k < length bytes → get_or bytes k 0 ≡ entry_byte f p (size (window b a p)) b k) → Holds f (claimed.table b a p bytes)
  table_holds b a p bytes e long each before r after l g =
      let w = window b a p in
      let n = table_size (outputs_of f) w in
      let room : n ≤ length before = omega arith in
      let none : table_refusal_in f w (length before) true ≡ 0 = rw (le-leb n (length before) room) e in (
        (rw none at g.result) ∙ ap (λ (m : ℕ). Ok m) (sym long),
        bytes_hold b p (window_at (outputs_of f) (size w)) bytes before after n long room
            (λ k m. omega (arith, length_window (outputs_of f) (size w) k)) each (rw none at g.bytes),
      )

  run_holds :
      (s : ℕ) (xs os : List ℕ) (e : ℕ) → run_refusal f s xs true ≡ 0 → outs (machine_of f) s xs ≡ os → end (machine_of f) s xs ≡ e →
      Holds f (claimed.run s xs os e)
  run_holds s xs os e none o n before r after l p =
      let none' : run_refusal_in f s xs (length before) true ≡ 0 = rw (le-leb (length xs) (length before) l) none in (
        (rw none' at p.result) ∙ ap (λ (x : ℕ). Ok (run_end (length xs) x)) n,
        (rw none' at p.bytes) ∙ ap (λ (x : List ℕ). x ++ drop (length xs) before) o,
      )

  different : different_test (machine_of f) ≡ true → Holds f claimed.different_outputs
  unfolding machine_of
  different e = different_test_lem (machine_of f) e

  -- the start states of settle count 0 are the reachable ones
  reachable_starts : member.Holds (Reachable (machine_of f)) (starts_of f 0)
  reachable_starts = holds_map (λ s. (start_zero (machine_of f) s).0) (λ s. (start_zero (machine_of f) s).1) (file_starts f z 0)

  pub claim_holds : (c : Claim) → test f c ≡ true → Holds f c
  unfolding test
  claim_holds (claimed.counts n i o) e =
      let t = both_true (eqb (states_of f) n) (eqb (inputs_of f) i && eqb (outputs_of f) o) e in
      let u = both_true (eqb (inputs_of f) i) (eqb (outputs_of f) o) t.1 in
      λ r p. rw (eqb-true (states_of f) n t.0, eqb-true (inputs_of f) i u.0, eqb-true (outputs_of f) o u.1) at (rw z at p)
  claim_holds (claimed.written n i o entries) e =
      let t = both_true (eqb (entries_refusal n i o entries) 0) (same_list (file_of n i o entries) f) e in
      λ before r after l p. write_given n i o entries before f r after (eqb-true _ _ t.0) (same_list_lem _ _ t.1) l p
  claim_holds (claimed.window o b a p) e =
      let u = both_true (leb p max_settle) (least_test (machine_of f) (starts_of f p) apart o b a) e in
      window_holds o b a p (leb-true _ _ u.0)
      (least_letters (machine_of f) (starts_of f p) p (total f (accepted f z)) (some_state f (accepted f z)) (file_starts f z p) o b a u.1)
  claim_holds (claimed.no_decoder s t bytes) e =
      let M = machine_of f in
      let starts = starts_of f 0 in
      let u = both_true (first_test M starts s t bytes) (eqb (check_refusal f (claimed.pair s t bytes) true) 0) e in
      let h = reachable_starts in
      no_decoder_holds s t bytes (first_test_lem M starts s t bytes h u.0) (first_size M starts s t bytes h u.0) (eqb-true _ _ u.1)
  claim_holds (claimed.not_valid s t bytes) e =
      let p = claimed.pair s t bytes in
      let v = valid_test (machine_of f) (starts_of f 0) p apart in
      let u = both_true (not v) (eqb (check_refusal f p true) 0) e in
      not_valid_holds s t bytes (eqb-true _ _ u.1)
      (λ valid. true_false (test_valid (machine_of f) reachable_starts p valid) (not-true v u.0))
  claim_holds claimed.different_outputs e = different e
  claim_holds (claimed.answer b a p w v) e =
      let d = decoded f p w b in
      let t = both_true (eqb (window_refusal f (window b a p) w true) 0) (same_answer d v) e in
      answer_holds b a p w v (eqb-true _ _ t.0) (same_answer_lem d v t.1)
  claim_holds (claimed.string b a p received bytes) e =
      let w = window b a p in
      let same : ℕ → Bool = λ k. eqb (get_or bytes k 0) (part_byte f p b (take (size w) (drop k received))) in
      let long = eqb (length bytes) (places (length received) w) in
      let t = both_true (eqb (string_refusal f w received true) 0) (long && all_below (length bytes) same) e in
      let u = both_true long (all_below (length bytes) same) t.1 in
      string_holds b a p received bytes (eqb-true _ _ t.0) (eqb-true _ _ u.0)
      (λ k l. eqb-true _ _ (all_at (length bytes) same u.1 k l))
  claim_holds (claimed.table b a p bytes) e =
      let same : ℕ → Bool = λ k. eqb (get_or bytes k 0) (entry_byte f p (size (window b a p)) b k) in
      let long = eqb (length bytes) (table_size (outputs_of f) (window b a p)) in
      let t = both_true (eqb (table_refusal f (window b a p) true) 0) (long && all_below (length bytes) same) e in
      let u = both_true long (all_below (length bytes) same) t.1 in
      table_holds b a p bytes (eqb-true _ _ t.0) (eqb-true _ _ u.0) (λ k l. eqb-true _ _ (all_at (length bytes) same u.1 k l))
  claim_holds (claimed.run s xs os e') e =
      let same = same_list (outs (machine_of f) s xs) os in
      let ends = eqb (end (machine_of f) s xs) e' in
      let t = both_true (eqb (run_refusal f s xs true) 0) (same && ends) e in
      let u = both_true same ends t.1 in
      run_holds s xs os e' (eqb-true _ _ t.0) (same_list_lem _ _ u.0) (eqb-true _ _ u.1)

-- ---- the table

passed : test_cases test starred ≡ true
unfolding test entries_word image_word far_word in_steps_word starts_word all_starts big_endian check_refusal window_refusal string_refusal table_refusal
    run_refusal limits_refusal sides_refusal settle_refusal least_test later_or_fails works_test agree all_words no_earlier first_test valid_test
    closes_test different_test all_below some_below named file_refusal entries_refusal in_range within entry_in_range machine_of entry_of coder_of
    table table_at fitting_word pass added add contribution gather union_of answer_of count_leading_zeros has_key is_entry over window_at
passed = refl

-- every starred case: its file is accepted, and all that is claimed of it holds
pub starred_hold : AllCases Holds starred
starred_hold = cases_hold test Holds claim_holds starred passed
