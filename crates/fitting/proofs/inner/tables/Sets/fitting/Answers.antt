-- `fitting` meets its contract: no state is left before the present letter, or the letters that fit from those that are.
use Prim.Native.Nat.{◌+◌, ◌-◌}
use lib.ListN.{length, drop}
use Rattle.mealy.proofs.RunParts.{letters_take, letters_drop}
use Rattle.mealy.proofs.Letters.{letter_at_lem}
use Rattle.fitting.proofs.Present.{rest, window_fits, none_fits}
use native.Mathlib.Omega.{arith}
use Rattle.fitting.proofs.inner.tables.Sets.fitting.Goals as goal

pub follow-set-requires : goal.follow-set-requires
follow-set-requires c = (c.requires.0.successors_words, letters_take 64 c.args.b c.args.window.now c.requires.1)

pub returns-then-set-eq0 : goal.returns-then-set-eq0
returns-then-set-eq0 c =
    let a = c.args in
    none_fits a.self.now.next a.self.now.successors a.self.now.letters a.window.now a.b a.self.now.starts
    (rw c.if-set-eq0.true at c.follow-set.ensures)

pub present-requires : goal.present-requires
present-requires c =
    let w = c.args.window.now in
    let k = c.args.b + 1 in
    let e = c.from-o.ensures in
    record {
      next_high = c.requires.0.next_high;
      predecessors_words = c.requires.0.predecessors_words;
      letters_words = c.requires.0.letters_words;
      letter = rw e (letter_at_lem 64 w c.requires.1 _ (omega (arith, c.requires.2)));
      after_letters = letters_take 64 (length w - k) (drop k w) (letters_drop 64 k w c.requires.1);
    }

pub returns : goal.returns
returns c =
    let a = c.args in
    let w = a.window.now in
    window_fits a.self.now.next a.self.now.successors a.self.now.letters w a.b a.self.now.starts c.requires.2 c.from-o.ensures
    c.follow-set.ensures (rw (rest w a.b) at (c.present.ensures a.self.now.successors c.requires.0))
