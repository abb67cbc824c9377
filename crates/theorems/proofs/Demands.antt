-- The three demands hold.
use mathlib.Core.Path.{◌≡◌, refl, ap, subst, ◌∙◌}
use mathlib.Core.Bool.{Bool, true}
use mathlib.Core.List.{List, [], ◌++◌}
use Prim.Native.Nat.{ℕ, zero, suc, ◌+◌, ◌<◌}
use native.Mathlib.Omega.{arith}
use lib.ListN.{length, get_or, take, drop, length-drop}
use lib.Seq.{take_at, length-take-le}
use Rattle.mealy.specs.Machine.{outs, end}
use Rattle.mealy.specs.Setting.{Setting}
use Rattle.mealy.specs.Answer as theory
use Rattle.mealy.specs.Answer.{Answers, byte_of}
use Rattle.mealy.specs.Index.{window_at}
use Rattle.mealy.specs.HowFar.{HowFar}
use Rattle.mealy.proofs.Possible.{far_no_run}
use Rattle.mealy.proofs.Answers.{answer_unique, no_run_none}
use Rattle.mealy.proofs.RunParts.{length_outs}
use Rattle.mealy.proofs.Indices.{length_window}
use Rattle.coder.specs.Refusal.{upon, answer}
use Rattle.coder.specs.File.{entries_of, file_refusal, outputs_of, machine_of}
use Rattle.running.proofs.Determined.{same_count, same_end}
use Rattle.running.specs.Run.{run_refusal_in, RunPromise}
use Rattle.values.specs.Window.{size}
use Rattle.values.specs.declared.Window.{Window}
use Rattle.values.specs.Order.{relation_of, default_order}
use Rattle.values.specs.declared.Order.{Order}
use Rattle.values.specs.declared.Order.TheVariants.{LeastLookahead, FewestLetters}
use Rattle.fitting.specs.Answer.{meaning, RightByte}
use Rattle.fitting.specs.declared.Answer.{Answer}
use Rattle.decoder.specs.Written.{Written}
use Rattle.decoder.specs.Count.{CountPromise}
use Rattle.decoder.specs.Window.{window_setting}
use Rattle.decoder_host.specs.Laid.{WindowFromHost}
use Rattle.search.specs.Search.{search_refusal_in, SaysOf, RefusedSearch, SearchPromise}
use Rattle.search.specs.declared.Verdict.{Verdict}
use Rattle.search.specs.declared.Verdict.TheVariants.{Least, NoDecoder}
use Rattle.search.proofs.Determined.{found, no_decoder_exactly}
use Rattle.writer.specs.Write.{write_refusal_in}
use Rattle.joining.specs.Join.{join_refusal_in}
use Rattle.layout.specs.Layout.{field_at}
use Rattle.layout.specs.Host.{Handed}
use Rattle.layout.proofs.Hosting.{no_fields, from_host}
use Rattle.published.specs.Published.{long_enough}
use Rattle.theorems.specs.Demands.{Demand1, Said, byte_said, SaidByte, Demand2, Demand3, NoLater, Demanded, FromC}
use Rattle.published.proofs.Published.{file_published, run_published, search_published, check_published, window_published}
use Rattle.published.proofs.Published.{string_published, table_published, search_kinds_published, window_kinds_published}
use Rattle.published.proofs.Published.{write_published, join_published, result_published}
use Rattle.theorems.proofs.Counted.{counted}
use Rattle.theorems.proofs.Answered.{AnsweredBy, window_answered, answered_from_C, byte_read}
use Rattle.theorems.proofs.HostReads.{search_found}
use Rattle.theorems.proofs.RoundTrip.{round_trip}
use Rattle.theorems.proofs.HostRoundTrip.{host_round_trip}
use Rattle.std.specs.Prelude.{Result, Ok}
use Rattle.coder.specs.declared.refusal.Refusal.{Refusal}
use Rattle.coder.specs.Refused.{Refused}
use Rattle.running.specs.Run.{run_end}

-- ---- from a promise to what holds upon its refusal

moved : (R : ℕ → Type 0) (D : Type 0) {k k' : ℕ} → k ≡ k' → upon k R D → upon k' R D
moved R D e = subst (λ (j : ℕ). upon j R D) e

by_answer :
    {A : Type 0} {r : A} (k : ℕ) (refused : ℕ → A) (done : A) → r ≡ answer k refused done → upon k (λ j. r ≡ refused j) (r ≡ done)
by_answer zero refused done e = e
by_answer (suc k) refused done e = e

both_answers :
    {A B : Type 0} {r : A} {x : B} (k : ℕ) (refused : ℕ → A) (done : A) (stays new : B) → r ≡ answer k refused done →
    x ≡ answer k (λ j. stays) new → upon k (λ j. (r ≡ refused j) × (x ≡ stays)) ((r ≡ done) × (x ≡ new))
both_answers zero refused done stays new e d = (e, d)
both_answers (suc k) refused done stays new e d = (e, d)

count_upon :
    (k n : ℕ) (Q : ℕ → ℕ → Type 0) (before : List ℕ) (r : Result ℕ Refusal) (after : List ℕ) → CountPromise k n Q before r after →
    upon k (λ j. (r ≡ Refused j) × (after ≡ before))
    ((r ≡ Ok n) × Written Q n before after)
count_upon zero n Q before r after p = (p.result, p.bytes)
count_upon (suc k) n Q before r after p = (p.result, p.bytes)

entries_upon :
    (f : List ℕ) (file place : ℕ × ℕ) (part : List ℕ) (k : ℕ) → part ≡ answer k (λ j. []) (entries_of f) → place.0 ≡ file.0 →
    place.1 ≡ file.1 + answer k (λ j. 0) 6 →
    upon k (λ j. part ≡ []) ((part ≡ entries_of f) × (place.0 ≡ file.0) × (place.1 ≡ file.1 + 6))
entries_upon f file place part zero b e o = (b, e, o)
entries_upon f file place part (suc k) b e o = b

search_upon :
    (k : ℕ) (Answered : Type 0) (r : Result Verdict Refusal) (before after : List ℕ) →
    upon k (λ j. RefusedSearch j r before after) Answered →
    upon k (λ j. (r ≡ Refused j) × (after ≡ before)) Answered
search_upon zero Answered r before after p = p
search_upon (suc k) Answered r before after p = (p.is, p.stays)

pub demand_1 : Demand1
demand_1 = record {
  counts = λ f r p. moved _ _ (file_published f) (by_answer (file_refusal f) _ _ p);
  entries = λ f file place part p. moved _ _ (file_published f) (entries_upon f file place part (file_refusal f) p.bytes p.block p.offset);
  run = λ f s xs before others r after p.
      moved _ _ (run_published f s xs before others)
      (both_answers (run_refusal_in f s xs (length before) (long_enough others)) _ _ _ _ p.result p.bytes);
  window = λ f w received others r p. moved _ _ (window_published f w received others) p;
  string = λ f w received before others r after p.
      moved _ _ (string_published f w received before others) (count_upon _ _ _ before r after p);
  table = λ f w before others r after p. moved _ _ (table_published f w before others) (count_upon _ _ _ before r after p);
  search = λ o f p before others r after h.
      moved _ _ (search_published f p before others)
      (search_upon (search_refusal_in f p (length before) (long_enough others)) _ r before after h);
  check = λ f p others r q. moved _ _ (check_published f p others) q;
  search_kinds = λ f kinds others r p. moved _ _ (search_kinds_published f kinds others) p;
  window_kinds = λ f kinds b a received others r p. moved _ _ (window_kinds_published f kinds b a received others) p;
  write = λ n i o entries before others r after p.
      moved _ _ (write_published n i o entries before others)
      (both_answers (write_refusal_in n i o entries (length before) (long_enough others)) _ _ _ _ p.result p.bytes);
  join = λ f g before others r after p.
      moved _ _ (join_published f g before others)
      (both_answers (join_refusal_in f g (length before) (long_enough others)) _ _ _ _ p.result p.bytes);
}

-- ---- demand 2

run_done :
    (f : List ℕ) (s : ℕ) (xs before : List ℕ) (n e : ℕ) (after : List ℕ) →
    RunPromise f s xs before (Ok (run_end n e)) after →
    (n ≡ length xs) × (e ≡ end (machine_of f) s xs) × (take n after ≡ outs (machine_of f) s xs)
run_done f s xs before n e after p = go (run_refusal_in f s xs (length before) true) p.result p.bytes
  where
    o : List ℕ
    o = outs (machine_of f) s xs

    go :
        (k : ℕ) →
        Ok (run_end n e) ≡
        answer k (λ j. Refused j) (Ok (run_end (length xs) (end (machine_of f) s xs))) →
        after ≡ answer k (λ j. before) (o ++ drop (length xs) before) →
        (n ≡ length xs) × (e ≡ end (machine_of f) s xs) × (take n after ≡ o)
    go zero d b =
        let q : n ≡ length xs = same_count d in
        (q, same_end d, rw (b, q) (take_at o (drop (length xs) before) (length xs) (length_outs (machine_of f) s xs)))
    go (suc k) d b = let z : ◌≡◌ {A = ℕ} 0 1 = cc in absurd (omega arith)

bytes_said : (x : theory.Answer) → byte_of x ≡ byte_said x
bytes_said (theory.letter x) = refl
bytes_said (theory.none k) = refl
bytes_said theory.several = refl

-- a right answer is what the second sentence says
said : (S : Setting) (w : List ℕ) (b : ℕ) → b < length w → (v : theory.Answer) → Answers S w b v → Said S w b v
said S w b l v h =
    record {
      right = h;
      letter = λ x a. answer_unique S w b v (theory.letter x) h a;
      none = λ n. no_run_none S w b l n v h;
      several = λ two. answer_unique S w b v theory.several h two;
      no_run = λ k e. far_no_run (none_of k e);
      count = λ k e. ((none_of k e).inside, (none_of k e).possible, (none_of k e).no_further);
    }
  where
    none_of : (k : ℕ) → v ≡ theory.none k → HowFar S w k
    none_of k e = rw e at h

said_byte : (S : Setting) (w : List ℕ) (b v : ℕ) → b < length w → RightByte S w b v → SaidByte S w b v
said_byte S w b v l r = record { answer = r.answer; said = said S w b l r.answer r.right; byte = r.byte ∙ bytes_said r.answer }

-- of one window, own and from C
window_said :
    (f : List ℕ) (w : Window) (received : List ℕ) (v : Answer) → AnsweredBy f w received v →
    Said (window_setting f w) received w.before (meaning v)
window_said f w received v a =
    let long = a.accepted_call.long in
    said (window_setting f w) received w.before (omega arith) (meaning v) a.right

window_read_lem :
    (f : List ℕ) (w : Window) (received result result' : List ℕ) → WindowFromHost f w received result 0 result' →
    SaidByte (window_setting f w) received w.before (field_at result' 0)
window_read_lem f w received result result' h =
    let c = answered_from_C f w received result result' h in
    let v = c.answer in
    let a = window_answered f w received v c.promised in
    record {
      answer = meaning v;
      said = window_said f w received v a;
      byte = ap (λ (r : List ℕ). field_at r 0) c.fields ∙ byte_read f w received result v a ∙ bytes_said (meaning v);
    }

pub demand_2 : Demand2
demand_2 = record {
  run = run_done;
  window = λ f w received v p. window_said f w received v (window_answered f w received v p);
  string = λ f w received before n after p.
      let c = counted _ _ _ before n after p in (
        c.count,
        λ k l.
            let part = take (size w) (drop k received) in
            let q = c.count in
            let long : length part ≡ size w = length-take-le (size w) (drop k received) (simp length-drop (omega arith)) in
            said_byte (window_setting f w) part w.before (get_or after k 0) (omega arith) (c.each k l),
      );
  table = λ f w before n after p.
      let c = counted _ _ _ before n after p in (
        c.count,
        λ k l.
            let part = window_at (outputs_of f) (size w) k in
            let long = length_window (outputs_of f) (size w) k in
            said_byte (window_setting f w) part w.before (get_or after k 0) (omega arith) (c.each k l),
      );
  window_from_C = window_read_lem;
  back = round_trip;
  back_from_C = host_round_trip;
}

-- ---- demand 3

pub no_later_said : (o : Order) (w : Window) (b a : ℕ) → relation_of o w.before w.after b a → NoLater o w b a
no_later_said FewestLetters w b a r = (r.first, r.second)
no_later_said LeastLookahead w b a r = (r.first, r.second)

demanded :
    (o : Order) (f : List ℕ) (p : ℕ) (before : List ℕ) (v : Verdict) (after : List ℕ) → SearchPromise o f p before (Ok v) after →
    Demanded o f p v after
demanded o f p before v after h =
    let says : SaysOf o f p v before after = (found o f p before v after h).says in
    record {
      exactly = no_decoder_exactly o f p before v after h;
      valid = λ q e. let s : SaysOf o f p (NoDecoder q) before after = rw e at says in s.first.valid;
      first = λ q e. let s : SaysOf o f p (NoDecoder q) before after = rw e at says in s.first;
      turned = λ q e. let s : SaysOf o f p (NoDecoder q) before after = rw e at says in s.turned;
      settle = λ w e. let s : SaysOf o f p (Least w) before after = rw e at says in s.settle;
      works = λ w e. let s : SaysOf o f p (Least w) before after = rw e at says in s.least.works;
      no_later = λ w e b a k.
          let s : SaysOf o f p (Least w) before after = rw e at says in
          no_later_said o w b a (s.least.least b a k);
    }

pub demand_3 : Demand3
demand_3 = record {
  search = demanded;
  search_from_C = λ f p before result after result' h.
      let g = search_found f p before result after result' h in
      (g.verdict, g.fields, demanded default_order f p before g.verdict after g.promised);
}

-- ---- the calls from C

pub from_c : FromC
from_c = record {
  call = λ Promise laid result r result' h.
      subst (λ (t : Bool). Handed (Promise t) laid result r result') (result_published result) h;
  refused = λ k result r result' h. (h.number, h.fields ∙ no_fields result);
  own = λ Promise laid result r result' long h. from_host Promise laid long h;
}
