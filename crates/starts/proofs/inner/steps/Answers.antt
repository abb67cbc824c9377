-- `steps` meets its contract: the entries by state, with output letter 0 for all.
use Rattle.starts.proofs.Steps.{steps_asked, steps_of}
use Rattle.starts.proofs.inner.steps.Goals as goal

pub by_output-requires : goal.by_output-requires
by_output-requires c = rw c.place_states.ensures (steps_asked c.requires)

pub returns : goal.returns
returns c =
    steps_of c.requires (rw c.place_states.ensures at c.by_output.ensures)
