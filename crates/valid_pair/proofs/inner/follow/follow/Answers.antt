use Prim.Native.Nat.{◌+◌}
use native.Mathlib.Omega.{arith}
use Rattle.valid_pair.proofs.Following.{next_low, letters_low, equal_bytes, table_edge, passed_more, passed_not, passed_all}
use Rattle.valid_pair.proofs.inner.follow.follow.Goals as goal

pub entry-requires : goal.entry-requires
entry-requires c = (c.loop-k.invariant.0, rw c.from-i.ensures (letters_low c.requires _ c.loop-k-test.true).0)

pub entry-requires-in-loop-k : goal.entry-requires-in-loop-k
entry-requires-in-loop-k c =
    let l = letters_low c.requires _ c.loop-k-test.true in
    omega (arith, c.loop-k.invariant.0, c.loop-k.invariant.1, c.from-i.ensures, c.from-j.ensures)

pub returns-then-entry : goal.returns-then-entry
returns-then-entry c =
    let l = c.loop-k in
    λ d p w.
    passed_not (l.invariant.2 d p w) c.loop-k-test.true
    (λ e.
    c.if-entry.true
    (equal_bytes w (c.args.place + l.k) l.u l.v c.from-i.ensures c.from-j.ensures c.entry.ensures.0
    c.entry-in-loop-k.ensures.0 e))

pub entry-u-requires : goal.entry-u-requires
entry-u-requires c = (c.loop-k.invariant.0, rw c.from-i.ensures (letters_low c.requires _ c.loop-k-test.true).0)

pub entry-v-requires : goal.entry-v-requires
entry-v-requires c = (c.loop-k.invariant.1, rw c.from-j.ensures (letters_low c.requires _ c.loop-k-test.true).1)

pub loop-k-preserved : goal.loop-k-preserved
loop-k-preserved c =
    let l = c.loop-k in
    let more = c.loop-k-test.true in (
      rw c.entry-u.ensures.0 (next_low c.requires _ _),
      rw c.entry-v.ensures.0 (next_low c.requires _ _),
      λ d p w.
          passed_more (l.invariant.2 d p w) more
          (table_edge w (c.args.place + l.k) l.u l.v c.from-i.ensures c.from-j.ensures c.entry.ensures.0
          c.entry-in-loop-k.ensures.0 (omega (arith, c.requires.within)) c.if-entry.false c.entry-u.ensures.0
          c.entry-v.ensures.0),
    )

pub returns : goal.returns
returns c = λ d p w. passed_all (c.loop-k.invariant.2 d p w) (omega arith)
