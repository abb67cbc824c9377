-- The worked examples hold: one computed test over them, and a law from the test of a claim to what is claimed.
use mathlib.Core.Path.{◌≡◌, refl, sym, ap, subst}
use mathlib.Core.Bool.{Bool, true, ◌&&◌}
use mathlib.Core.List.{List, []}
use Prim.Native.Nat.{ℕ, ◌≤◌}
use lib.ListN.{length}
use lib.Dec.{eqb}
use lib.Count.{count_leading_zeros}
use borrow.Author.Tests.{eqb-true, le-leb}
use Rattle.mealy.specs.Index.{window_at}
use Rattle.mealy.proofs.ImageWords.{entries_word, image_word, far_word}
use Rattle.coder.specs.BigEndian.{big_endian}
use Rattle.coder.specs.Refusal.{all_below, some_below}
use Rattle.coder.specs.Alphabet.{named}
use Rattle.coder.specs.File.{within, in_range, entry_in_range, entries_refusal, file_refusal, entry_of, machine_of}
use Rattle.coder.specs.Table.{table, coder_of, table_at}
use Rattle.coder.proofs.Refusals.{both_true}
use Rattle.chains.specs.Chain.{is_entry, has_key, over}
use Rattle.fitting.specs.Answer.{answer_of}
use Rattle.filling.specs.Sets.{contribution, gather, add, added}
use Rattle.filling.specs.Window.{pass, union_of, fitting_word}
use Rattle.starts.proofs.Computed.{in_steps_word, starts_word}
use Rattle.window_limits.specs.Refusal.{sides_refusal, settle_refusal}
use Rattle.decoder_refusal.specs.Refusal.{limits_refusal, string_refusal}
use Rattle.running.specs.Run.{run_refusal}
use Rattle.writer.specs.Write.{WroteFile}
use Rattle.joining.specs.Join.{join_refusal, join_refusal_in, joined_entries, joined_file, JoinWith, JoinPromise}
use Rattle.joining.proofs.Joining.{join_accepted}
use Rattle.layout.specs.Host.{laid_count}
use Rattle.layout.proofs.Hosting.{from_host}
use Rattle.theorems.specs.RoundTrip.{FieldHolds}
use Rattle.theorems.specs.Cases.{AllCases}
use Rattle.theorems.proofs.CasesHold.{test_cases, cases_hold}
use Rattle.theorems.proofs.Starred as starred
use Rattle.theorems.proofs.Starred.{claim_holds}
use Rattle.theorems.proofs.HostReads.{first_read}
use Rattle.theorems.proofs.Tests.{same_list, same_list_lem, all_starts, all_words, agree, works_test, later_or_fails, least_test}
use Rattle.theorems_joined.specs.Examples.{Claim, joins, itself, JoinWrites, Holds, examples}
use Rattle.theorems_joined.proofs.InRow.{file_small}
use Rattle.std.specs.Prelude.{Result}
use Rattle.coder.specs.declared.refusal.Refusal.{Refusal}

-- ---- the test of a claim

abbrev test : List ℕ → Claim → Bool
test h (joins f g) = eqb (join_refusal f g true) 0 && same_list (joined_file f g) h
test h (itself c) = starred.test h c

module _ (h f g : List ℕ) (none : join_refusal f g true ≡ 0) (same : joined_file f g ≡ h) where
  small : FieldHolds (length h)
  small = subst (λ (x : List ℕ). FieldHolds (length x)) same (file_small f g (join_accepted f g true none).matches)

  own :
      (before : List ℕ) (r : Result ℕ Refusal) (after : List ℕ) → length h ≤ length before → JoinPromise f g before r after →
      WroteFile h before r after
  own before r after room p =
      let long = subst (λ (x : List ℕ). length x ≤ length before) (sym same) room in
      let z : join_refusal_in f g (length before) true ≡ 0 = rw (le-leb (length (joined_file f g)) (length before) long) none in
      subst (λ (x : List ℕ). WroteFile x before r after) same (rw z at p)

  joins_hold : JoinWrites h f g
  joins_hold =
      record {
        own = own;
        from_C = λ before result r after result' room long p.
            let c = from_host (λ others o. JoinWith f g before others o after) laid_count long p in
            let b = own before c.own after room c.promised in
            let x = first_read result (laid_count c.own) (length h) [] (ap laid_count b.result) small c.out in
            (x.0, x.1, b.bytes);
      }

shown : (h : List ℕ) → file_refusal h ≡ 0 → (c : Claim) → test h c ≡ true → Holds h c
shown h z (joins f g) e =
    let t = both_true (eqb (join_refusal f g true) 0) (same_list (joined_file f g) h) e in
    joins_hold h f g (eqb-true _ _ t.0) (same_list_lem _ _ t.1)
shown h z (itself c) e = claim_holds h z c e

-- ---- the table

passed : test_cases test examples ≡ true
unfolding starred.test join_refusal joined_entries entries_word image_word far_word in_steps_word starts_word all_starts big_endian string_refusal
    run_refusal limits_refusal sides_refusal settle_refusal least_test later_or_fails works_test agree all_words all_below some_below named
    file_refusal entries_refusal in_range within entry_in_range machine_of entry_of coder_of table table_at fitting_word pass added add
    contribution gather union_of answer_of count_leading_zeros has_key is_entry over window_at
passed = refl

-- every example: its file is accepted, and all that is claimed of it holds
pub examples_hold : AllCases Holds examples
examples_hold = cases_hold test Holds shown examples passed
