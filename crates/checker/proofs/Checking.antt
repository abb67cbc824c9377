-- What a check that is not refused may rely on, and what it then gives.
use mathlib.Core.Path.{◌≡◌, refl}
use mathlib.Core.Bool.{Bool, true, not, ◌&&◌}
use mathlib.Core.List.{List}
use mathlib.Core.Logic.{◌≢◌}
use Prim.Native.Nat.{ℕ, ◌*◌, ◌<◌}
use lib.ListN.{length}
use lib.Dec.{lit<, ltb, eqb}
use borrow.Author.Tests.{ltb-true, eqb-true}
use Rattle.mealy.specs.Machine.{Letters}
use Rattle.mealy.specs.Setting.{worded}
use Rattle.mealy.specs.LoopedPair.{LoopedPair, letters, Valid}
use Rattle.mealy.proofs.SameSettings.{valid_same, same_sym, same_trans}
use Rattle.mealy.proofs.StartStates.{same_zero}
use Rattle.coder.specs.Refusal.{refuse, letters_below}
use Rattle.coder.specs.File.{file_refusal, states_of, inputs_of, setting_of, machine_of}
use Rattle.coder.specs.Table.{coder_of, machine_of_coder}
use Rattle.coder.specs.declared.inner.tables.Coder.{Coder}
use Rattle.coder.proofs.Refusals.{both_true, refuse_not, first_none, letters_below_lem}
use Rattle.coder.proofs.Accepted.{accepted}
use Rattle.coder.specs.Refusal.{Judges}
use Rattle.setting.specs.Words.{WordsOf}
use Rattle.setting.proofs.Same.{coder_sound, same_setting}
use Rattle.checker.specs.Check.{check_refusal, CheckedRight}
use Rattle.valid_pair.specs.Follow.{CheckOf}
use Rattle.std.specs.Prelude.{Ok}
use Rattle.coder.proofs.Judging.{judges_map}

pub record CheckAccepted (f : List ℕ) (p : LoopedPair) (fit : Bool) : Type 0 where
  pub file : file_refusal f ≡ 0
  pub first_state : p.s < states_of f
  pub second_state : p.t < states_of f
  pub size : length p.bytes ≡ 2 * letters p
  pub fits : fit ≡ true
  pub below : Letters (inputs_of f) p.bytes

pub check_accepted : (f : List ℕ) (p : LoopedPair) (fit : Bool) → check_refusal f p fit ≡ 0 → CheckAccepted f p fit
unfolding check_refusal
check_accepted f p fit e =
    let l = letters_below (inputs_of f) p.bytes in
    let n = eqb (length p.bytes) (2 * letters p) in
    let starts = (ltb p.s (states_of f) && ltb p.t (states_of f)) in
    let rest = refuse (not starts) 7 (refuse (not n) 9 (refuse (not fit) 11 (refuse (not l) 12 0))) in
    let a = first_none (file_refusal f) rest e in
    let b = refuse_not starts _ _ (lit< tt) a.1 in
    let s = both_true _ _ b.0 in
    let d = refuse_not n _ _ (lit< tt) b.1 in
    let w = refuse_not fit _ _ (lit< tt) d.1 in
    let t = refuse_not l _ _ (lit< tt) w.1 in
    record {
      file = a.0;
      first_state = ltb-true _ _ s.0;
      second_state = ltb-true _ _ s.1;
      size = eqb-true _ _ d.0;
      fits = w.0;
      below = letters_below_lem (inputs_of f) p.bytes t.0;
    }

-- its checked part is asked rightly, whatever buffers are lent
pub check_asked : (f : List ℕ) (p : LoopedPair) (others : Bool) → check_refusal f p others ≡ 0 → check_refusal f p true ≡ 0
check_asked f p others e = rw (check_accepted f p others e).fits at e

pub right :
    {f : List ℕ} {p : LoopedPair} {answer : Bool} → Judges (Valid (setting_of f) p) answer →
    CheckedRight f p (Ok answer)
right {answer = answer} j = record { answer = answer; is = refl; yes' = j.yes'; no' = j.no' }

-- on the tables of the file
module _ {c : Coder} {f : List ℕ} {p : LoopedPair} {fit : Bool} (e : c ≡ coder_of f) (r : CheckAccepted f p fit) where
  pub check_of : CheckOf c c.next c.output p
  unfolding coder_of
  check_of = record {
    tables = record {
      sound = coder_sound e (accepted f r.file);
      next_is = refl;
      output_is = refl;
      bytes_are = refl;
      below = rw e r.below;
    };
    first = rw e r.first_state;
    second = rw e r.second_state;
    size = r.size;
  }

  -- what is judged in the setting of the words is judged in that of the file
  pub file_judged :
      {starts : ℕ} {conflicts : List ℕ} {answer : Bool} → WordsOf c 0 (λ i j. i ≢ j) starts conflicts →
      Judges (Valid (worded (machine_of_coder c) starts conflicts) p) answer → Judges (Valid (setting_of f) p) answer
  file_judged w =
      let m = same_trans (same_setting e (accepted f r.file) w) (same_sym (same_zero (machine_of f))) in
      judges_map (valid_same m p) (valid_same (same_sym m) p)
