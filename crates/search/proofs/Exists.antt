-- For all arguments some outcome meets the promise of the search. With `search_determined` of Determined.antt: exactly one does.
use mathlib.Core.Path.{◌≡◌, refl}
use mathlib.Core.Bool.{Bool}
use mathlib.Core.Logic.{inl, inr}
use mathlib.Core.List.{List, ◌++◌}
use Prim.Native.Nat.{ℕ, zero, suc, ◌+◌, ◌*◌, ◌≤◌, ◌<◌}
use native.Mathlib.Nat.{mul-le-mul}
use native.Mathlib.Omega.{arith}
use lib.ListN.{length, take, drop}
use lib.Seq.{length-take-le, length_front, take_at, drop_at}
use lib.Dec.{leb}
use borrow.Author.Tests.{leb-true}
use Rattle.mealy.specs.Machine.{Machine, Total}
use Rattle.mealy.specs.Setting.{Setting, from_reachable, after_letters}
use Rattle.mealy.specs.Window.{Works}
use Rattle.mealy.specs.Order.{Relation, IsOrder, Least as LeastOf}
use Rattle.mealy.specs.Product.{Direction, back, forward, Settled, pairs}
use Rattle.mealy.specs.LoopedPair.{LoopedPair, letters}
use Rattle.mealy.specs.First.{First}
use Rattle.mealy.proofs.Settling.{settled_by}
use Rattle.mealy.proofs.LeastWindows.{least_sides}
use Rattle.mealy.proofs.LeastOrNone.{dec_conflict, least_or_none}
use Rattle.mealy.proofs.StartStates.{after_closed, after_bounded, dec_start_after}
use Rattle.mealy.proofs.PairBytes.{first_bytes}
use Rattle.mealy.proofs.FirstExists.{first_exists}
use Rattle.mealy.proofs.PairStarts.{first_after}
use Rattle.mealy.proofs.LoopedPairs.{turned_runs}
use Rattle.first_pair.proofs.Endless.{none_valid}
use Rattle.coder.specs.File.{file_refusal, machine_of, setting_of, setting_after}
use Rattle.coder.specs.Limits.{max_states}
use Rattle.coder.proofs.Refusals.{both_true}
use Rattle.coder.proofs.Accepted.{Accepted, accepted}
use Rattle.coder.proofs.Tables.{total, some_state}
use Rattle.values.specs.Window.{window}
use Rattle.values.specs.Pair.{looped_pair}
use Rattle.values.specs.declared.Order.{Order}
use Rattle.values.proofs.Orders.{is_order}
use Rattle.search.specs.Search.{search_refusal_in, wanted, WindowReport, PairReport, SaysOf, SearchWith}
use Rattle.search.specs.declared.Verdict.{Verdict}
use Rattle.search.specs.declared.Verdict.TheVariants.{Least, NoDecoder}
use Rattle.std.specs.Prelude.{Result, Ok}
use Rattle.coder.specs.declared.refusal.Refusal.{Refusal}
use Rattle.coder.specs.Refused.{Refused}
use Rattle.search.proofs.Files.{search_accepted}

-- ---- the two reports

-- a first pair whose letters are laid at the front of the buffer
pair_report :
    (S P : Setting) → ((b a : ℕ) → Works S b a → ⊥) → (q : LoopedPair) → First P q → (before : List ℕ) →
    2 * letters q ≤ length before →
    PairReport S P (looped_pair q.s q.t q.back_loop q.lead_in q.lead_out q.forward_loop) before
    (take (2 * letters q) q.bytes ++ drop (2 * letters q) before)
pair_report S P none q f before room =
    let n = 2 * letters q in
    let bytes = take n q.bytes in
    let long : length bytes ≡ n = length-take-le n q.bytes f.valid.held in
    let size = length_front before bytes n (omega (arith, long, length-take-le n before room)) in
    let g = first_bytes P q (bytes ++ drop n before) (omega (arith, size)) (take_at bytes (drop n before) n long) f in
    record {
      none = none;
      first = g;
      turned = turned_runs P _ g.valid;
      size = size;
      rest = drop_at bytes (drop n before) n long;
    }

module _ (M : Machine) (total : Total M) (some : 0 < M.states) (p : ℕ) where
  abbrev S : Setting
  S = after_letters M p

  settled : (d : Direction) → Settled S d (pairs M.states)
  settled d = settled_by S (dec_start_after M total some p) (after_bounded M total some p) d (pairs M.states) (omega arith)

  window_report :
      {R : Relation} → IsOrder R → (b a : ℕ) → LeastOf R S b a → (before : List ℕ) → WindowReport R S p (window b a p) before before
  window_report order b a l before =
      let n = pairs M.states in
      let s = least_sides order S (after_closed M p) n n (settled back) (settled forward) b a l in
      record { settle = refl; least = l; before_small = s.0; after_small = s.1; stays = refl }

  -- where no window works there is a first pair, with few letters
  some_first :
      ((b a : ℕ) → Works S b a → ⊥) → (q : LoopedPair) × First (from_reachable M) q × (letters q ≤ 2 * (M.states * M.states) + 1)
  some_first none =
      let start = dec_start_after M total some p in
      let bounded = after_bounded M total some p in
      let v = none_valid S (after_closed M p) bounded start dec_conflict none in
      let q = first_exists S start bounded dec_conflict v.0 v.1 in
      (q.0, first_after M p q.0 q.1, omega (arith, v.2, (q.1.first v.0 v.1).0))

-- ---- a file

few_states : (f : List ℕ) → Accepted f → (machine_of f).states ≤ max_states
unfolding machine_of
few_states f a = a.entries.limits.states_high

-- For every accepted file, order and settle count, and every buffer with room for a pair, some verdict says what it is to say.
pub some_verdict :
    (o : Order) (f : List ℕ) (p : ℕ) (before : List ℕ) → file_refusal f ≡ 0 → wanted ≤ length before →
    (v : Verdict) × (after : List ℕ) × SaysOf o f p v before after
some_verdict o f p before e room =
    let a = accepted f e in
    let M = machine_of f in
    elim (least_or_none M (total f a) (some_state f a) p (is_order o)) [
      | inl w ↦ (
        Least (window w.0 w.1 p),
        before,
        window_report M (total f a) (some_state f a) p (is_order o) w.0 w.1 w.2 before,
      )
      | inr none ↦
          let q = some_first M (total f a) (some_state f a) p none in
          let few = mul-le-mul (few_states f a) (few_states f a) in
          (NoDecoder _, _, pair_report (setting_after f p) (setting_of f) none q.0 q.1 before (omega (arith, few, q.2)))
    ]

-- Some result and some buffer meet the promise, whatever other buffers are lent: the refusal and the buffer as it was, or a verdict.
pub search_exists :
    (o : Order) (f : List ℕ) (p : ℕ) (before : List ℕ) (others : Bool) →
    (r : Result Verdict Refusal) × (after : List ℕ) × SearchWith o f p before others r after
search_exists o f p before others = go (search_refusal_in f p (length before) others) refl
  where
    go :
        (k : ℕ) → search_refusal_in f p (length before) others ≡ k →
        (r : Result Verdict Refusal) × (after : List ℕ) × SearchWith o f p before others r after
    go zero e =
        let a = search_accepted f p _ e in
        let room = (both_true (leb wanted (length before)) others a.fits).0 in
        let v = some_verdict o f p before a.file (leb-true _ _ room) in
        (Ok v.0, v.1, rw e (record { verdict = v.0; is = refl; says = v.2 }))
    go (suc k) e = (Refused (suc k), before, rw e (record { is = refl; stays = refl }))
