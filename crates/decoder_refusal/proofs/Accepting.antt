-- What a call that is not refused may rely on. Each refusal is a number of the list.
use mathlib.Core.Path.{◌≡◌}
use mathlib.Core.Bool.{Bool, true, not}
use mathlib.Core.List.{List}
use Prim.Native.Nat.{ℕ, ◌≤◌}
use native.Mathlib.Omega.{arith}
use lib.ListN.{length}
use lib.Dec.{lit<, leb}
use borrow.Author.Tests.{leb-true}
use Rattle.mealy.specs.Machine.{Letters}
use Rattle.coder.specs.Limits.{max_side, max_settle}
use Rattle.coder.specs.Refusal.{refuse, first, letters_below}
use Rattle.coder.specs.File.{file_refusal, outputs_of}
use Rattle.coder.proofs.Refusals.{both_true, refuse_not, refuse_either, first_either, first_none, letters_below_lem}
use Rattle.coder.proofs.FileNumbers.{file_number}
use Rattle.coder.proofs.Accepted.{accepted}
use Rattle.table_size.specs.Size.{max_table}
use Rattle.table_size.specs.Cases.{table_allowed}
use Rattle.table_size.proofs.Exact.{cases_exact}
use Rattle.window_limits.specs.Refusal.{sides_refusal, settle_refusal, received_refusal, SidesSmall}
use Rattle.window_limits.proofs.Limits.{sides_accepted, sides_pass, settle_accepted, settle_pass, received_accepted}
use Rattle.window_limits.proofs.Limits.{sides_known, settle_known}
use Rattle.values.specs.Window.{size}
use Rattle.values.specs.declared.Window.{Window}
use Rattle.decoder_refusal.specs.Refusal.{limits_refusal, window_refusal, string_refusal, table_size, table_refusal, places}
use Rattle.decoder_refusal.specs.Refusal.{string_refusal_in, table_refusal_in}

-- the file and the three numbers of a window, which every call checks first
pub record LimitsAccepted (f : List ℕ) (w : Window) : Type 0 where
  pub file : file_refusal f ≡ 0
  pub small : SidesSmall w.before w.after
  pub settle_small : w.settle ≤ max_settle

pub limits_accepted : (f : List ℕ) (w : Window) → limits_refusal f w ≡ 0 → LimitsAccepted f w
unfolding limits_refusal
limits_accepted f w e =
    let p = first_none (file_refusal f) (first (sides_refusal w.before w.after) (settle_refusal w.settle)) e in
    let q = first_none (sides_refusal w.before w.after) (settle_refusal w.settle) p.1 in
    record { file = p.0; small = sides_accepted _ _ q.0; settle_small = settle_accepted _ q.1 }

pub limits_pass :
    (f : List ℕ) (w : Window) → file_refusal f ≡ 0 → w.before ≤ max_side → w.after ≤ max_side → w.settle ≤ max_settle → limits_refusal f w ≡ 0
unfolding limits_refusal
limits_pass f w e b a p = rw (e, sides_pass _ _ b a, settle_pass _ p)

-- ---- one window

pub record WindowAccepted (f : List ℕ) (w : Window) (received : List ℕ) (fit : Bool) : Type 0 where
  pub limits : LimitsAccepted f w
  pub long : length received ≡ size w
  pub fits : fit ≡ true
  pub letters : Letters (outputs_of f) received

pub window_accepted :
    (f : List ℕ) (w : Window) (received : List ℕ) (fit : Bool) → window_refusal f w received fit ≡ 0 →
    WindowAccepted f w received fit
unfolding window_refusal
window_accepted f w received fit e =
    let p = first_none (limits_refusal f w) (received_refusal (size w) (outputs_of f) received fit) e in
    let r = received_accepted (size w) (outputs_of f) received fit p.1 in
    record { limits = limits_accepted f w p.0; long = r.long; fits = r.fits; letters = r.letters }

-- its checked part is asked rightly, whatever buffers are lent
pub window_asked :
    (f : List ℕ) (w : Window) (received : List ℕ) (others : Bool) → window_refusal f w received others ≡ 0 →
    window_refusal f w received true ≡ 0
window_asked f w received others e = rw (window_accepted f w received others e).fits at e

-- ---- a string

pub record StringAccepted (f : List ℕ) (w : Window) (received : List ℕ) (fit : Bool) : Type 0 where
  pub limits : LimitsAccepted f w
  pub fits : fit ≡ true
  pub letters : Letters (outputs_of f) received

pub string_accepted :
    (f : List ℕ) (w : Window) (received : List ℕ) (fit : Bool) → string_refusal f w received fit ≡ 0 →
    StringAccepted f w received fit
unfolding string_refusal
string_accepted f w received fit e =
    let l = letters_below (outputs_of f) received in
    let p = first_none (limits_refusal f w) (refuse (not fit) 11 (refuse (not l) 13 0)) e in
    let q = refuse_not fit _ _ (lit< tt) p.1 in
    let s = refuse_not l _ _ (lit< tt) q.1 in
    record { limits = limits_accepted f w p.0; fits = q.0; letters = letters_below_lem (outputs_of f) received s.0 }

-- its other lent buffers are long enough
pub string_others :
    (f : List ℕ) (w : Window) (received : List ℕ) (room : ℕ) (others : Bool) →
    string_refusal_in f w received room others ≡ 0 → others ≡ true
string_others f w received room others e =
    (both_true (leb (places (length received) w) room) others (string_accepted f w received _ e).fits).1

-- ---- a table

pub record TableAccepted (f : List ℕ) (w : Window) (fit : Bool) : Type 0 where
  pub limits : LimitsAccepted f w
  pub small : table_size (outputs_of f) w ≤ max_table
  pub fits : fit ≡ true

pub table_accepted : (f : List ℕ) (w : Window) (fit : Bool) → table_refusal f w fit ≡ 0 → TableAccepted f w fit
unfolding table_refusal
table_accepted f w fit e =
    let n = leb (table_size (outputs_of f) w) max_table in
    let p = first_none (limits_refusal f w) (refuse (not n) 10 (refuse (not fit) 11 0)) e in
    let q = refuse_not n _ _ (lit< tt) p.1 in
    let s = refuse_not fit _ _ (lit< tt) q.1 in
    record { limits = limits_accepted f w p.0; small = leb-true _ _ q.0; fits = s.0 }

-- the cases on O, where the file and the window's numbers are accepted
pub table_allowed_lem :
    (f : List ℕ) (w : Window) → limits_refusal f w ≡ 0 → table_allowed (outputs_of f) (size w) ≡ leb (table_size (outputs_of f) w) max_table
table_allowed_lem f w e =
    let a = accepted f (limits_accepted f w e).file in cases_exact (outputs_of f) (size w) (omega (arith, a)) (omega (arith, a))

-- 10 by the cases, and 11
pub table_by_cases :
    (f : List ℕ) (w : Window) (t fits : Bool) → limits_refusal f w ≡ 0 → table_allowed (outputs_of f) (size w) ≡ t →
    table_refusal f w fits ≡ refuse (not t) 10 (refuse (not fits) 11 0)
unfolding table_refusal
table_by_cases f w t fits z e = rw (z, ← table_allowed_lem f w z, e)

pub table_others :
    (f : List ℕ) (w : Window) (room : ℕ) (others : Bool) → table_refusal_in f w room others ≡ 0 → others ≡ true
table_others f w room others e = (both_true (leb (table_size (outputs_of f) w) room) others (table_accepted f w _ e).fits).1

-- ---- each refusal is a number of the list

pub limits_known : (f : List ℕ) (w : Window) → limits_refusal f w ≤ 17
unfolding limits_refusal
limits_known f w =
    first_either (λ k. k ≤ 17) _ _ (file_number (λ k. k ≤ 17) (λ k l. omega arith) (omega arith) f)
    (first_either (λ k. k ≤ 17) _ _ (sides_known w.before w.after) (settle_known w.settle))

pub table_known : (f : List ℕ) (w : Window) (fit : Bool) → table_refusal f w fit ≤ 17
unfolding table_refusal
table_known f w fit =
    first_either (λ k. k ≤ 17) _ _ (limits_known f w)
    (refuse_either (λ k. k ≤ 17) _ 10 _ (omega arith) (refuse_either (λ k. k ≤ 17) _ 11 0 (omega arith) (omega arith)))
