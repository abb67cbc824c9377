use native.Mathlib.Omega.{arith}
use borrow.Author.Rules.{rules}
use Rattle.joining.proofs.Coding.{entries_few, entry_asked, entries_more, entries_all}
use Rattle.joining.proofs.inner.entries.Goals as goal

pub joined_entry-e-requires : goal.joined_entry-e-requires
joined_entry-e-requires c = entry_asked _ _ c.requires c.loop-j.j c.loop-j.at c.loop-j.invariant.0 (search rules)

pub loop-j-preserved : goal.loop-j-preserved
loop-j-preserved c =
    let j = c.loop-j.j in (
      c.next_place-at.ensures j c.loop-j.invariant.0,
      entries_more _ _ c.requires j c.loop-j.at c.loop-j.invariant.0 c.loop-j.invariant.1 (omega (arith, entries_few _ _ c.requires))
          c.joined_entry-e.ensures,
    )

pub returns : goal.returns
returns c = entries_all _ _ c.requires c.loop-j.j c.loop-j.invariant.1 (omega arith)
