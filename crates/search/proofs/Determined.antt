-- The promise of the search leaves nothing open: two outcomes for the same arguments are equal.
use mathlib.Core.Path.{◌≡◌, refl, sym, ap, ap₂, ◌∙◌}
use mathlib.Core.Bool.{Bool, true}
use mathlib.Core.Logic.{◌↔◌}
use mathlib.Core.List.{List, ◌++◌}
use Prim.Native.Nat.{ℕ, zero, suc, ◌*◌}
use native.Mathlib.Omega.{arith}
use lib.ListN.{length, take, drop, take-append-drop}
use Rattle.mealy.specs.Setting.{Setting}
use Rattle.mealy.specs.Window.{Works}
use Rattle.mealy.specs.Order.{Relation, IsOrder}
use Rattle.mealy.specs.LoopedPair.{letters, Short}
use Rattle.mealy.specs.First.{key}
use Rattle.mealy.proofs.LeastWindows.{least_unique}
use Rattle.mealy.proofs.FirstPairs.{first_unique}
use Rattle.mealy.proofs.ReachableStates.{reachable_closed}
use Rattle.mealy.proofs.SettleCounts.{works_none}
use Rattle.first_pair.proofs.Bounds.{first_short}
use Rattle.coder.specs.File.{states_of, machine_of, setting_of, setting_after}
use Rattle.coder.proofs.Accepted.{accepted}
use Rattle.coder.proofs.Tables.{file_bounded}
use Rattle.values.specs.Window.{window}
use Rattle.values.specs.Pair.{pair_of, looped_pair}
use Rattle.values.specs.Order.{relation_of}
use Rattle.values.specs.declared.Window.{Window}
use Rattle.values.specs.declared.Order.{Order}
use Rattle.values.specs.declared.LoopedPair.{LoopedPair}
use Rattle.values.proofs.Orders.{is_order}
use Rattle.search.specs.Search.{search_refusal_in, PairReport, Says, SaysOf, IsNoDecoder, FoundVerdict, SearchWith, SearchPromise}
use Rattle.search.specs.declared.Verdict.{Verdict}
use Rattle.search.specs.declared.Verdict.TheVariants.{Least, NoDecoder}
use Rattle.std.specs.Prelude.{Result, Ok}
use Rattle.coder.specs.declared.refusal.Refusal.{Refusal}
use Rattle.search.proofs.Files.{search_accepted}

-- ---- a search that was not refused

-- no number applies, and its verdict says what it is to say
pub record FoundSays (o : Order) (f : List ℕ) (p : ℕ) (before : List ℕ) (v : Verdict) (after : List ℕ) : Type 0 where
  pub accepted : search_refusal_in f p (length before) true ≡ 0
  pub says : SaysOf o f p v before after

pub found :
    (o : Order) (f : List ℕ) (p : ℕ) (before : List ℕ) (v : Verdict) (after : List ℕ) → SearchPromise o f p before (Ok v) after →
    FoundSays o f p before v after
found o f p before v after = go (search_refusal_in f p (length before) true) refl
  where
    go :
        (k : ℕ) → search_refusal_in f p (length before) true ≡ k → SearchPromise o f p before (Ok v) after →
        FoundSays o f p before v after
    go zero e h =
        let q : FoundVerdict o f p (Ok v) before after = rw e at h in
        let d = q.is in
        let z : v ≡ q.verdict = cc in
        record { accepted = e; says = rw z q.says }
    go (suc k) e h =
        let q = rw e at h in
        let d = q.is in
        let z : ◌≡◌ {A = ℕ} 0 1 = cc in
        absurd (omega arith)

-- ---- "no decoder"

exactly :
    (R : Relation) (S P : Setting) (p : ℕ) (v : Verdict) (before after : List ℕ) → Says R S P p v before after →
    IsNoDecoder v ↔ ((b a : ℕ) → Works S b a → ⊥)
exactly R S P p (Least w) before after h = (λ x. absurd x, λ none. none w.before w.after h.least.works)
exactly R S P p (NoDecoder q) before after h = (λ x. h.none, λ none. tt)

-- Demand 3, first sentence, in both directions: "no decoder" where windows of all sizes fail, and there alone.
pub no_decoder_exactly :
    (o : Order) (f : List ℕ) (p : ℕ) (before : List ℕ) (v : Verdict) (after : List ℕ) → SearchPromise o f p before (Ok v) after →
    IsNoDecoder v ↔ ((b a : ℕ) → Works (setting_after f p) b a → ⊥)
no_decoder_exactly o f p before v after h =
    exactly (relation_of o) (setting_after f p) (setting_of f) p v before after (found o f p before v after h).says

-- "no decoder" in one order and with one settle count exactly where in any other and with any other: two searches of one file, whatever
-- their buffers (document 02, 6/13, the sentence on existence)
pub no_decoder_any :
    (o o' : Order) (f : List ℕ) (p p' : ℕ) (before before' : List ℕ) (v v' : Verdict) (after after' : List ℕ) →
    SearchPromise o f p before (Ok v) after → SearchPromise o' f p' before' (Ok v') after' → IsNoDecoder v ↔ IsNoDecoder v'
no_decoder_any o o' f p p' before before' v v' after after' h h' =
    let e = no_decoder_exactly o f p before v after h in
    let e' = no_decoder_exactly o' f p' before' v' after' h' in
    (λ n. e'.1 (works_none (machine_of f) p p' (e.0 n)), λ n. e.1 (works_none (machine_of f) p' p (e'.0 n)))

-- ---- the looped pair

-- equal keys are equal starts, lengths and letters
pair_same :
    (p p' : LoopedPair) (before after after' : List ℕ) → length after ≡ length before → length after' ≡ length before →
    drop (2 * letters (pair_of p after)) after ≡ drop (2 * letters (pair_of p after)) before →
    drop (2 * letters (pair_of p' after')) after' ≡ drop (2 * letters (pair_of p' after')) before →
    key (pair_of p after) ≡ key (pair_of p' after') → (p ≡ p') × (after ≡ after')
pair_same p p' before after after' l l' d d' e =
    let n : letters (pair_of p after) ≡ letters (pair_of p' after') = cc in
    let s : p.s ≡ p'.s = cc in
    let t : p.t ≡ p'.t = cc in
    let b : p.back_loop ≡ p'.back_loop = cc in
    let i : p.lead_in ≡ p'.lead_in = cc in
    let o : p.lead_out ≡ p'.lead_out = cc in
    let f : p.forward_loop ≡ p'.forward_loop = cc in
    let k : take (2 * letters (pair_of p after)) after ≡ take (2 * letters (pair_of p' after')) after' = cc in
    let z : looped_pair p.s p.t p.back_loop p.lead_in p.lead_out p.forward_loop ≡ p' = rw (s, t, b, i, o, f) in
    let m = 2 * letters (pair_of p' after') in (
      z,
      sym (take-append-drop m after) ∙ ap₂ (λ (x y : List ℕ). x ++ y) (rw n at k) (rw n at d ∙ sym d') ∙ take-append-drop m after',
    )

module _ {S S' P : Setting} {q q' : LoopedPair} {before after after' : List ℕ} (h : PairReport S P q before after)
    (h' : PairReport S' P q' before after') where
  pub pair_determined : (q ≡ q') × (after ≡ after')
  pair_determined =
      pair_same q q' before after after' h.size h'.size h.rest h'.rest
      (first_unique P (pair_of q after) (pair_of q' after') h.first h'.first)

-- the pair depends neither on the order nor on the settle count
pub pair_any :
    (o o' : Order) (f : List ℕ) (p p' : ℕ) (before : List ℕ) (q q' : LoopedPair) (after after' : List ℕ) →
    SearchPromise o f p before (Ok (NoDecoder q)) after → SearchPromise o' f p' before (Ok (NoDecoder q')) after' →
    (q ≡ q') × (after ≡ after')
pair_any o o' f p p' before q q' after after' h h' =
    pair_determined (found o f p before (NoDecoder q) after h).says (found o' f p' before (NoDecoder q') after' h').says

-- it keeps both bounds of N × N letters ("Looped pair", the sentence on them)
pub pair_short :
    (o : Order) (f : List ℕ) (p : ℕ) (before : List ℕ) (q : LoopedPair) (after : List ℕ) →
    SearchPromise o f p before (Ok (NoDecoder q)) after → Short (states_of f) (pair_of q after)
unfolding machine_of
pair_short o f p before q after h =
    let s = found o f p before (NoDecoder q) after h in
    let a = (search_accepted f p _ s.accepted).file in
    first_short (setting_of f) (reachable_closed (machine_of f)) (file_bounded f (accepted f a)) (pair_of q after) s.says.first

-- ---- two outcomes of one call

window_same : (w w' : Window) → w.before ≡ w'.before → w.after ≡ w'.after → w.settle ≡ w'.settle → w ≡ w'
window_same w w' e d c = let z : window w.before w.after w.settle ≡ w' = rw (e, d, c) in z

verdict_determined :
    {R : Relation} → IsOrder R → (S P : Setting) (p : ℕ) (before : List ℕ) (v v' : Verdict) (after after' : List ℕ) →
    Says R S P p v before after → Says R S P p v' before after' → (v ≡ v') × (after ≡ after')
verdict_determined order S P p before (Least w) (Least w') after after' x y =
    let e = least_unique order S w.before w.after w'.before w'.after x.least y.least in
    (ap Least (window_same w w' e.0 e.1 (x.settle ∙ sym y.settle)), x.stays ∙ sym y.stays)
verdict_determined order S P p before (Least w) (NoDecoder q') after after' x y =
    absurd (y.none w.before w.after x.least.works)
verdict_determined order S P p before (NoDecoder q) (Least w') after after' x y =
    absurd (x.none w'.before w'.after y.least.works)
verdict_determined order S P p before (NoDecoder q) (NoDecoder q') after after' x y =
    let e = pair_determined x y in
    (ap NoDecoder e.0, e.1)

-- the same of a file
pub says_determined :
    (o : Order) (f : List ℕ) (p : ℕ) (before : List ℕ) (v v' : Verdict) (after after' : List ℕ) → SaysOf o f p v before after →
    SaysOf o f p v' before after' → (v ≡ v') × (after ≡ after')
says_determined o f p = verdict_determined (is_order o) (setting_after f p) (setting_of f) p

-- Two outcomes that meet the promise for the same arguments, the order among them, are equal, whatever other buffers are lent: result and
-- buffer.
pub search_determined :
    (o : Order) (f : List ℕ) (p : ℕ) (before : List ℕ) (others : Bool) (r r' : Result Verdict Refusal) (after after' : List ℕ) →
    SearchWith o f p before others r after → SearchWith o f p before others r' after' → (r ≡ r') × (after ≡ after')
search_determined o f p before others r r' after after' = go (search_refusal_in f p (length before) others) refl
  where
    go :
        (k : ℕ) → search_refusal_in f p (length before) others ≡ k → SearchWith o f p before others r after →
        SearchWith o f p before others r' after' → (r ≡ r') × (after ≡ after')
    go zero e h h' =
        let x = rw e at h in
        let y = rw e at h' in
        let d = says_determined o f p before x.verdict y.verdict after after' x.says y.says in
        (x.is ∙ ap (λ v. Ok v) d.0 ∙ sym y.is, d.1)
    go (suc k) e h h' =
        let x = rw e at h in
        let y = rw e at h' in
        (x.is ∙ sym y.is, x.stays ∙ sym y.stays)
