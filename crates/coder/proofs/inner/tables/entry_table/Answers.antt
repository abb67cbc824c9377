use Rattle.std.proofs.Common.{◌∙◌, sym, arith}
use Rattle.coder.proofs.Tables.{no_entry_from}
use Rattle.coder.proofs.Fill.{get_or_zeros, filled_all}
use Rattle.coder.proofs.inner.tables.entry_table.Goals as goal

pub returns : goal.returns
returns c = filled_all c.loop-k.invariant (λ j l m. get_or_zeros 256 j ∙ sym (no_entry_from _ _ _ _ j (omega arith)))
