-- What a call that is not refused may rely on.
use mathlib.Core.Path.{◌≡◌}
use mathlib.Core.Bool.{Bool, true, not}
use mathlib.Core.List.{List}
use Prim.Native.Nat.{ℕ, ◌*◌}
use lib.ListN.{length}
use lib.Dec.{lit<, leb, eqb}
use borrow.Author.Tests.{leb-true, eqb-true}
use Rattle.coder.specs.Refusal.{refuse, first}
use Rattle.coder.specs.Limits.{max_states}
use Rattle.coder.specs.File.{states_of, inputs_of, outputs_of, file_refusal}
use Rattle.coder.proofs.Refusals.{refuse_not, first_none, both_true}
use Rattle.joining.specs.Join.{matching, join_refusal, join_refusal_in, joined_file, Matching, JoinAsked}

pub record JoinAccepted (f g : List ℕ) (fits : Bool) : Type 0 where
  pub matches : Matching f g
  pub fit : fits ≡ true

pub join_accepted : (f g : List ℕ) (fits : Bool) → join_refusal f g fits ≡ 0 → JoinAccepted f g fits
unfolding join_refusal
join_accepted f g fits e =
    let last = refuse (not fits) 11 0 in
    let rest = refuse (not (matching f g)) 17 last in
    let a = first_none (file_refusal f) (first (file_refusal g) rest) e in
    let b = first_none (file_refusal g) rest a.1 in
    let c = refuse_not (matching f g) 17 last (lit< tt) b.1 in
    let d = both_true (eqb (outputs_of f) (inputs_of g)) (leb (states_of f * states_of g) max_states) c.0 in
    record {
      matches = record { first = a.0; second = b.0; letters = eqb-true _ _ d.0; states = leb-true _ _ d.1 };
      fit = (refuse_not fits 11 0 (lit< tt) c.1).0;
    }

-- a call that is not refused asks its checked part rightly, and its other lent buffers are long enough
pub join_asked :
    (f g before : List ℕ) (others : Bool) → join_refusal_in f g (length before) others ≡ 0 → JoinAsked f g before × (others ≡ true)
join_asked f g before others e =
    let a = join_accepted f g _ e in
    let b = both_true (leb (length (joined_file f g)) (length before)) others a.fit in
    (record { matches = a.matches; room = leb-true _ _ b.0 }, b.1)
