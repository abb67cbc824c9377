use lib.ListN.{take, drop, length-drop, length}
use lib.Seq.{length-take-le}
use mathlib.Core.List.{List}
use Prim.Native.Nat.{ℕ, ◌+◌, ◌≤◌, ◌<◌, ◌-◌}
use mathlib.Core.Path.{◌≡◌}
use borrow.Author.Rules.{rules}
use native.Mathlib.Omega.{arith}
use Rattle.setting.specs.Words.{from_word}
use Rattle.fitting.proofs.Answers.{letters_byte}
use Rattle.fitting.proofs.Meaning.{tables_asked, fits_in, some_far}
use Rattle.decoder.proofs.Writing.{written_more}
use Rattle.mealy.proofs.RunParts.{letters_take, letters_drop}
use Rattle.decoder.proofs.inner.places.decode_places.Goals as goal

-- a part of m letters that lies in w has its present letter
part_long : {b : ℕ} (m : ℕ) (w : List ℕ) (k : ℕ) → k + m ≤ length w → b < m → b < length (take m (drop k w))
part_long m w k l h =
    let long : m ≤ length (drop k w) = simp length-drop (omega arith) in
    rw (length-take-le m (drop k w) long) h

pub fitting-fit-requires : goal.fitting-fit-requires
fitting-fit-requires c =
    let q = c.requires.windows in
    let t = c.loop-k-test.true in
    let h = c.requires.present in (
      tables_asked c.requires.tables.is,
      search (letters_take, letters_drop, c.requires.below),
      search (part_long, rules),
    )

pub loop-k-preserved : goal.loop-k-preserved
loop-k-preserved c =
    let p = c.args in
    let i = c.loop-k in
    let from = drop i.k p.received.now in
    let part = take (i.k + p.n - i.k) from in
    let n : i.k + p.n - i.k ≡ p.n = omega arith in
    let t = c.loop-k-test.true in
    let q = c.requires.windows in
    let h = c.requires.present in
    let below = letters_take 64 (i.k + p.n - i.k) from (letters_drop 64 i.k p.received.now c.requires.below) in
    let inside : p.b < length part = rw n (part_long p.n p.received.now i.k (omega arith) h) in (
      search rules,
      λ e a. written_more (i.invariant.1 e a) (omega (arith, c.requires, i.invariant, c.loop-k-test))
          (rw (c.answer_byte.ensures, c.answer_of.ensures)
          (rw n at
          (letters_byte (from_word e p.sets.now.starts) part p.b inside (some_far a.sound a.starts_are part) 0
          (fits_in a part p.b below c.fitting-fit.ensures)))),
    )

pub returns : goal.returns
returns c = λ d a. let q : c.loop-k.k ≡ c.args.m = omega arith in rw q at (c.loop-k.invariant.1 d a)
