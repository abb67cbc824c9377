-- A verdict on one setting is one on another that says the same; and what a search that is not refused relies on.
use mathlib.Core.Path.{◌≡◌, sym, ap, ◌∙◌}
use mathlib.Core.Bool.{Bool, true, not}
use mathlib.Core.List.{List}
use Prim.Native.Nat.{ℕ, ◌≤◌}
use native.Mathlib.Omega.{arith}
use lib.Dec.{lit<, leb}
use Rattle.mealy.specs.Setting.{Setting, Same}
use Rattle.mealy.specs.Order.{Relation}
use Rattle.mealy.proofs.Sums.{pairs_rise}
use Rattle.mealy.specs.LoopedPair.{LoopedPair}
use Rattle.mealy.specs.First.{First}
use Rattle.mealy.proofs.LoopedPairs.{turned_runs}
use Rattle.mealy.proofs.SameSettings.{same_sym, works_same, least_same}
use Rattle.coder.specs.Limits.{max_settle}
use Rattle.coder.specs.Refusal.{refuse, first}
use Rattle.coder.specs.File.{file_refusal}
use Rattle.coder.proofs.Refusals.{refuse_not, first_none, both_true}
use Rattle.window_limits.specs.Refusal.{settle_refusal}
use Rattle.window_limits.proofs.Limits.{settle_accepted, settle_pass}
use Rattle.values.specs.Pair.{pair_of}
use Rattle.search.specs.Search.{search_refusal, search_refusal_in, wanted, Says}
use Rattle.search.specs.declared.Verdict.{Verdict}
use Rattle.search.specs.declared.Verdict.TheVariants.{Least, NoDecoder}

-- where the one has no more states than the other, of which the bound on a window's sides speaks; with the settings of the pairs
pub says_same :
    (R : Relation) (p : ℕ) {S T P Q : Setting} → Same S T → S.M.states ≤ T.M.states → ((q : LoopedPair) → First P q → First Q q) →
    (v : Verdict) (before after : List ℕ) → Says R S P p v before after → Says R T Q p v before after
says_same R p {S} {T} {P} {Q} e few firsts (Least w) before after r =
    let m = pairs_rise few in
    record {
      settle = r.settle;
      least = least_same e R w.before w.after r.least;
      before_small = omega (arith, r.before_small);
      after_small = omega (arith, r.after_small);
      stays = r.stays;
    }
says_same R p {S} {T} {P} {Q} e few firsts (NoDecoder q) before after r =
    let f = firsts (pair_of q after) r.first in
    record {
      none = λ b a w. r.none b a (works_same (same_sym e) b a w);
      first = f;
      turned = turned_runs Q (pair_of q after) f.valid;
      size = r.size;
      rest = r.rest;
    }

-- ---- what a search that is not refused relies on

pub record SearchAccepted (f : List ℕ) (p : ℕ) (fit : Bool) : Type 0 where
  pub file : file_refusal f ≡ 0
  pub settle : p ≤ max_settle
  pub fits : fit ≡ true

pub search_accepted : (f : List ℕ) (p : ℕ) (fit : Bool) → search_refusal f p fit ≡ 0 → SearchAccepted f p fit
unfolding search_refusal
search_accepted f p fit e =
    let rest = refuse (not fit) 11 0 in
    let a = first_none (file_refusal f) (first (settle_refusal p) rest) e in
    let b = first_none (settle_refusal p) rest a.1 in
    record { file = a.0; settle = settle_accepted p b.0; fits = (refuse_not fit 11 0 (lit< tt) b.1).0 }

pub search_pass : (f : List ℕ) (p : ℕ) → file_refusal f ≡ 0 → p ≤ max_settle → search_refusal f p true ≡ 0
unfolding search_refusal
search_pass f p z l = rw (z, settle_pass p l)

-- the checked part of a call whose refusal is 0 is asked rightly, whatever buffers are lent
pub search_asked :
    (f : List ℕ) (p room : ℕ) (others : Bool) → search_refusal_in f p room others ≡ 0 → search_refusal f p (leb wanted room) ≡ 0
search_asked f p room others e =
    let fits = (search_accepted f p _ e).fits in
    ap (search_refusal f p) ((both_true (leb wanted room) others fits).0 ∙ sym fits) ∙ e
