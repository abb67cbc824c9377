-- The entry bytes of a machine, as its coder file has them (document 01, "Coder file"). Reading them gives the machine's entries
-- (`entries_same` of proofs/Entries.antt).
use Rattle.std.specs.Prelude.{ℕ, ◌*◌, ◌/◌, ◌%◌, cond, List, eqb}
use Rattle.mealy.specs.Machine.{Machine}
use Rattle.coder.specs.Table.{table}

-- Byte k is one of the two of entry k / 2, the first being the next state, the second the output letter. Entry j is that of state j / I and
-- input letter j % I.
abbrev pub entry_byte_of : Machine → ℕ → ℕ
entry_byte_of M k =
    cond (eqb (k % 2) 0) (M.next (k / 2 / M.inputs) (k / 2 % M.inputs)) (M.out (k / 2 / M.inputs) (k / 2 % M.inputs))

abbrev pub entry_bytes_of : Machine → List ℕ
entry_bytes_of M = table (2 * (M.states * M.inputs)) (entry_byte_of M)
