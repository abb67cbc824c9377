-- What the contracts cite: the entry bytes of a machine, two coders in a row as tables, and the call.
pub mod EntryBytes
pub mod Tables
pub mod Join
