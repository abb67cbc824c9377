-- Two files with two settle counts whose settings say the same have the same outcomes: search, window, string and table, from C too.
use mathlib.Core.Path.{◌≡◌, refl, ap, ◌∙◌}
use mathlib.Core.Bool.{Bool}
use mathlib.Core.List.{List}
use Prim.Native.Nat.{ℕ, zero, suc, ◌≤◌}
use native.Mathlib.Omega.{arith}
use lib.ListN.{length, take, drop}
use Rattle.mealy.specs.Setting.{Same}
use Rattle.mealy.specs.Index.{window_at}
use Rattle.mealy.specs.LoopedPair.{LoopedPair}
use Rattle.mealy.specs.First.{First}
use Rattle.mealy.proofs.SameSettings.{answers_same}
use Rattle.window_limits.specs.Refusal.{settle_refusal}
use Rattle.coder.specs.File.{file_refusal, outputs_of, machine_of, setting_of, setting_after}
use Rattle.coder.specs.Refusal.{upon}
use Rattle.coder.proofs.Refusals.{upon_map}
use Rattle.values.specs.Window.{window, size}
use Rattle.values.specs.Order.{relation_of, default_order}
use Rattle.values.specs.declared.Order.{Order}
use Rattle.fitting.specs.Answer.{meaning}
use Rattle.fitting.proofs.Answers.{byte_same}
use Rattle.search.specs.Search.{search_refusal, search_refusal_in, SaysOf, FoundVerdict, RefusedSearch, SearchWith}
use Rattle.search_host.specs.Laid.{laid_search, SearchFromHost}
use Rattle.search.specs.declared.Verdict.{Verdict}
use Rattle.search.specs.declared.Verdict.TheVariants.{Least, NoDecoder}
use Rattle.search.proofs.Files.{says_same}
use Rattle.search.proofs.Determined as search
use Rattle.decoder_refusal.specs.Refusal.{limits_refusal, window_refusal, string_refusal, table_size, table_refusal, table_refusal_in}
use Rattle.decoder.specs.Written.{Written}
use Rattle.decoder.specs.Count.{CountPromise}
use Rattle.decoder.specs.Window.{AnsweredRight}
use Rattle.decoder.specs.Table.{EntryOf}
use Rattle.decoder.proofs.Writing.{written_map}
use Rattle.decoder.proofs.Determined as decoder
use Rattle.decoder_host.specs.Laid.{laid_window}
use Rattle.layout.specs.Host.{laid_count}
use Rattle.layout.proofs.Hosting.{same_host, same_host_buffer}
use Rattle.theorems.specs.SameAnswers.{SameAnswers, SameAnswersFromC}
use Rattle.theorems.specs.SettleCounts.{verdict_with, result_with}
use Rattle.std.specs.Prelude.{Result, Ok, Err}
use Rattle.coder.specs.declared.refusal.Refusal.{Refusal}
use Rattle.coder.specs.Refused.{Refused}

-- Calls on f with settle count p and on f' with p' are judged alike: by the file and the settle count, and by settings that say the same.
pub record Alike (f f' : List ℕ) (p p' : ℕ) : Type 0 where
  pub file : file_refusal f ≡ file_refusal f'
  pub small : settle_refusal p ≡ settle_refusal p'
  pub outputs : outputs_of f ≡ outputs_of f'
  pub fewer : (machine_of f).states ≤ (machine_of f').states
  pub windows : Same (setting_after f p) (setting_after f' p')
  pub firsts : (q : LoopedPair) → First (setting_of f) q → First (setting_of f') q

-- ---- from one name of a refusal to another

count_map :
    {k k' n n' : ℕ} {Q Q' : ℕ → ℕ → Type 0} {before after : List ℕ} {r : Result ℕ Refusal} → k ≡ k' → n ≡ n' →
    ((j v : ℕ) → Q j v → Q' j v) → CountPromise k n Q before r after → CountPromise k' n' Q' before r after
count_map {n = n} {Q = Q} {Q' = Q'} {before = before} {after = after} e d g p =
    record {
      result = rw (← e, ← d) p.result;
      bytes =
          rw (← d)
          (upon_map (λ j. after ≡ before) (Written Q n before after) (Written Q' n before after) e (λ z. written_map (λ j v l. g j v))
          p.bytes);
    }

-- the settle count of a window is not among the fields
laid_with : (p : ℕ) (r : Result Verdict Refusal) → laid_search r ≡ laid_search (result_with p r)
laid_with p (Err e) = refl
laid_with p (Ok (Least w)) = refl
laid_with p (Ok (NoDecoder q)) = refl

module _ {f f' : List ℕ} {p p' : ℕ} (h : Alike f f' p p') where
  -- ---- the refusals

  search_number : (fits : Bool) → search_refusal f p fits ≡ search_refusal f' p' fits
  unfolding search_refusal
  search_number fits = rw (h.file, h.small)

  limits_number : (b a : ℕ) → limits_refusal f (window b a p) ≡ limits_refusal f' (window b a p')
  unfolding limits_refusal
  limits_number b a = rw (h.file, h.small)

  window_number :
      (b a : ℕ) (received : List ℕ) (fits : Bool) →
      window_refusal f (window b a p) received fits ≡ window_refusal f' (window b a p') received fits
  unfolding window_refusal
  window_number b a received fits = rw (limits_number b a, h.outputs)

  string_number :
      (b a : ℕ) (received : List ℕ) (fits : Bool) →
      string_refusal f (window b a p) received fits ≡ string_refusal f' (window b a p') received fits
  unfolding string_refusal
  string_number b a received fits = rw (limits_number b a, h.outputs)

  table_number : (b a : ℕ) (fits : Bool) → table_refusal f (window b a p) fits ≡ table_refusal f' (window b a p') fits
  unfolding table_refusal
  table_number b a fits = rw (limits_number b a, h.outputs)

  table_number_in :
      (b a room : ℕ) (others : Bool) → table_refusal_in f (window b a p) room others ≡ table_refusal_in f' (window b a p') room others
  table_number_in b a room others = rw h.outputs (table_number b a _)

  table_size_lem : (b a : ℕ) → table_size (outputs_of f) (window b a p) ≡ table_size (outputs_of f') (window b a p')
  table_size_lem b a = ap (λ (o : ℕ). table_size o (window b a p')) h.outputs

  -- ---- the answers

  entry_alike : (b a k v : ℕ) → EntryOf f (window b a p) k v → EntryOf f' (window b a p') k v
  entry_alike b a k v r = byte_same h.windows (window_at (outputs_of f') (size (window b a p')) k) b v (rw h.outputs at r)

  -- ---- the verdict

  says_alike :
      (o : Order) (v : Verdict) (before after : List ℕ) → SaysOf o f p v before after → SaysOf o f' p' (verdict_with p' v) before after
  says_alike o (Least w) before after s =
      let t = says_same (relation_of o) p h.windows h.fewer h.firsts (Least w) before after s in
      record {
        settle = refl;
        least = t.least;
        before_small = t.before_small;
        after_small = t.after_small;
        stays = t.stays;
      }
  says_alike o (NoDecoder q) before after s =
      let t = says_same (relation_of o) p h.windows h.fewer h.firsts (NoDecoder q) before after s in
      record { none = t.none; first = t.first; turned = t.turned; size = t.size; rest = t.rest }

  search_with :
      (o : Order) (before after : List ℕ) (others : Bool) (r : Result Verdict Refusal) → SearchWith o f p before others r after →
      SearchWith o f' p' before others (result_with p' r) after
  search_with o before after others r s =
      let n = length before in
      go (search_refusal_in f p n others) (search_refusal_in f' p' n others) (search_number _) s
    where
      go :
          (k k' : ℕ) → k ≡ k' → upon k (λ j. RefusedSearch j r before after) (FoundVerdict o f p r before after) →
          upon k' (λ j. RefusedSearch j (result_with p' r) before after) (FoundVerdict o f' p' (result_with p' r) before after)
      go zero zero e g =
          record {
            verdict = verdict_with p' g.verdict;
            is = ap (result_with p') g.is;
            says = says_alike o g.verdict before after g.says;
          }
      go zero (suc k') e g = absurd (omega arith)
      go (suc k) zero e g = absurd (omega arith)
      go (suc k) (suc k') e g = record { is = ap (result_with p') g.is ∙ ap Refused e; stays = g.stays }

  -- ---- the outcomes

  pub search_alike :
      (o : Order) (before : List ℕ) (others : Bool) (r r' : Result Verdict Refusal) (after after' : List ℕ) → SearchWith o f p before others r after →
      SearchWith o f' p' before others r' after' → (result_with p' r ≡ r') × (after ≡ after')
  search_alike o before others r r' after after' s =
      search.search_determined o f' p' before others (result_with p' r) r' after after' (search_with o before after others r s)

  pub search_alike_from_C :
      (before result : List ℕ) (r r' : ℕ) (after after' given given' : List ℕ) → SearchFromHost f p before result r after given →
      SearchFromHost f' p' before result r' after' given' → (r ≡ r') × ((after ≡ after') × (given ≡ given'))
  search_alike_from_C before result r r' after after' given given' =
      same_host_buffer
      (λ own own' x y.
      let e = search_alike default_order before _ own own' after after' x y in
      (laid_with p' own ∙ ap laid_search e.0, e.1))

  pub answers_alike : SameAnswers f f' p p'
  answers_alike =
      record {
        window = λ b a received others r r' x y.
            decoder.window_determined f' (window b a p') received others r r'
            (upon_map (λ k. r ≡ Refused k) (AnsweredRight f (window b a p) received r)
            (AnsweredRight f' (window b a p') received r) (window_number b a received others)
            (λ z g.
            record {
              answer = g.answer;
              is = g.is;
              right = answers_same h.windows received b (meaning g.answer) g.right;
            })
            x)
            y;
        string = λ b a received before others r r' after after' x y.
            decoder.string_determined f' (window b a p') received before others r r' after after'
            (count_map (string_number b a received _) refl (λ k v. byte_same h.windows (take (size (window b a p)) (drop k received)) b v) x) y;
        table = λ b a before others r r' after after' x y.
            decoder.table_determined f' (window b a p') before others r r' after after'
            (count_map (table_number_in b a _ others) (table_size_lem b a) (entry_alike b a) x) y;
      }

-- the same from C
pub answers_from_C : {f f' : List ℕ} {p p' : ℕ} → SameAnswers f f' p p' → SameAnswersFromC f f' p p'
answers_from_C h =
    record {
      window = λ b a received result r r' given given'. same_host (λ own own' x y. ap laid_window (h.window b a received _ own own' x y));
      string = λ b a received before result r r' after after' given given'.
          same_host_buffer
          (λ own own' x y. let e = h.string b a received before _ own own' after after' x y in (ap laid_count e.0, e.1));
      table = λ b a before result r r' after after' given given'.
          same_host_buffer (λ own own' x y. let e = h.table b a before _ own own' after after' x y in (ap laid_count e.0, e.1));
    }
