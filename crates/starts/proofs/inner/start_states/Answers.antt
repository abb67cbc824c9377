-- `start_states` meets its contract: the closure of state 0 under the steps of the coder, and as many steps more as there are letters.
use mathlib.Core.Path.{refl}
use Rattle.coder.specs.Table.{machine_of_coder}
use Rattle.starts.proofs.inner.start_states.Goals as goal

pub closure-reachable-requires : goal.closure-reachable-requires
closure-reachable-requires c = c.steps-words.ensures.each

pub after-requires : goal.after-requires
after-requires c = c.steps-words.ensures.each

pub returns : goal.returns
returns c =
    let sound = c.requires in
    let M = machine_of_coder c.args.c.now in
    c.after.ensures M sound.states_low (λ s i l m. sound.next_state s i) c.steps-words.ensures
    (c.closure-reachable.ensures M refl sound.states_low (λ s i l m. sound.next_state s i) c.steps-words.ensures)
