-- `checked::sets_of` meets its contract: the tables and the start states of the file's coder.
use Rattle.decoder.proofs.Decoding.{CoderOf, sound_of, tables_of}
use Rattle.decoder.proofs.inner.checked.sets_of.Goals as goal

pub start_states-starts-requires : goal.start_states-starts-requires
start_states-starts-requires c =
    let h : CoderOf c.from_checked-c.result c.args.file.now = record { is = c.from_checked-c.ensures; file = c.requires } in sound_of h

pub of_coder-requires : goal.of_coder-requires
of_coder-requires c =
    let h : CoderOf c.from_checked-c.result c.args.file.now = record { is = c.from_checked-c.ensures; file = c.requires } in sound_of h

pub returns-clause-tables : goal.returns-clause-tables
returns-clause-tables c =
    let h : CoderOf c.from_checked-c.result c.args.file.now = record { is = c.from_checked-c.ensures; file = c.requires } in
    let e = c.of_coder.ensures in
    rw (← c.from_checked-c.ensures, e.1, e.2) (tables_of h c.args.settle c.start_states-starts.ensures e.0)
