-- What a call of the decoder of kinds that is not refused relies on. Its refusal is a number of the list.
use mathlib.Core.Path.{◌≡◌}
use mathlib.Core.Bool.{Bool, true}
use mathlib.Core.List.{List}
use Prim.Native.Nat.{ℕ, ◌+◌}
use native.Mathlib.Omega.{arith}
use lib.ListN.{length}
use Rattle.mealy.specs.Machine.{Letters}
use Rattle.coder.specs.Refusal.{first}
use Rattle.coder.specs.File.{outputs_of}
use Rattle.coder.proofs.Refusals.{first_none}
use Rattle.window_limits.specs.Refusal.{sides_refusal, received_refusal, SidesSmall}
use Rattle.window_limits.proofs.Limits.{sides_accepted, received_accepted}
use Rattle.values.specs.Window.{window}
use Rattle.decoder_refusal.specs.Refusal.{window_refusal}
use Rattle.decoder_refusal.proofs.Accepting.{limits_pass}
use Rattle.kind_list.specs.KindList.{list_refusal}
use Rattle.kind_list.proofs.KindLists.{ListAccepted, list_accepted}
use Rattle.window_kinds.specs.Window.{window_kinds_refusal}

pub record WindowKindsAccepted (f kinds : List ℕ) (b a : ℕ) (received : List ℕ) (fit : Bool) : Type 0 where
  pub list : ListAccepted f kinds
  pub small : SidesSmall b a
  pub long : length received ≡ b + 1 + a
  pub fits : fit ≡ true
  pub letters : Letters (outputs_of f) received

module _ (f kinds : List ℕ) (b a : ℕ) (received : List ℕ) (fit : Bool) (e : window_kinds_refusal f kinds b a received fit ≡ 0) where
  -- the three parts of the refusal
  parts : (list_refusal f kinds ≡ 0) × (sides_refusal b a ≡ 0) × (received_refusal (b + 1 + a) (outputs_of f) received fit ≡ 0)
  unfolding window_kinds_refusal
  parts =
      let rest = received_refusal (b + 1 + a) (outputs_of f) received fit in
      let p = first_none (list_refusal f kinds) (first (sides_refusal b a) rest) e in
      let q = first_none (sides_refusal b a) rest p.1 in
      (p.0, q.0, q.1)

  pub window_kinds_accepted : WindowKindsAccepted f kinds b a received fit
  window_kinds_accepted =
      let r = received_accepted (b + 1 + a) (outputs_of f) received fit parts.2 in
      record {
        list = list_accepted f kinds parts.0;
        small = sides_accepted b a parts.1;
        long = r.long;
        fits = r.fits;
        letters = r.letters;
      }

  -- the decoder of letters, with settle count 0, is not refused either
  pub as_letters : window_refusal f (window b a 0) received fit ≡ 0
  unfolding window_refusal
  as_letters =
      let h = window_kinds_accepted in
      rw (limits_pass f (window b a 0) h.list.file h.small.before_small h.small.after_small (omega arith)) parts.2

  -- the checked part is asked rightly, whatever buffers are lent
  pub window_kinds_asked : window_kinds_refusal f kinds b a received true ≡ 0
  window_kinds_asked = rw window_kinds_accepted.fits at e
