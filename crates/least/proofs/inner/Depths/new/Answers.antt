-- `Depths::new` meets its contract.
use Rattle.chains.proofs.Entries.{output_keys}
use Rattle.least.proofs.inner.Depths.new.Goals as goal

pub by_key-requires : goal.by_key-requires
by_key-requires c = output_keys _ c.requires.0
