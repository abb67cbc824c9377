-- Two machines in a row (document 02, 11/13, second sentence): the output letters of the first are the input letters of the second.
use Rattle.std.specs.Prelude.{ℕ, ◌+◌, ◌*◌, ◌/◌, ◌%◌, ◌<◌}
use Rattle.mealy.specs.Machine.{Machine, Total}

-- State s of the first with state t of the second is numbered s × N + t, N being the number of states of the second, B.
abbrev pub joined_state : Machine → ℕ → ℕ → ℕ
joined_state B s t = s * B.states + t

-- and the two states that a number stands for (`joined_state_lem`, `first_state_lem`, `second_state_lem` of proofs/Runs.antt)
abbrev pub first_state : Machine → ℕ → ℕ
first_state B q = q / B.states

abbrev pub second_state : Machine → ℕ → ℕ
second_state B q = q % B.states

-- The joined machine of A and, behind it, B. On an input letter A goes on and puts a letter out, on which B goes on and puts out the letter
-- of both.
abbrev pub joined : Machine → Machine → Machine
joined A B =
    record {
      states = A.states * B.states;
      inputs = A.inputs;
      next = λ q i. joined_state B (A.next (first_state B q) i) (B.next (second_state B q) (A.out (first_state B q) i));
      out = λ q i. B.out (second_state B q) (A.out (first_state B q) i);
    }

-- Every entry puts out a letter below o.
abbrev pub OutputsBelow : Machine → ℕ → Type 0
OutputsBelow M o = (s i : ℕ) → s < M.states → i < M.inputs → M.out s i < o

-- What the laws ask of the two: each has a state, each entry leads to a state, and what A puts out B takes.
pub record Joinable (A B : Machine) : Type 0 where
  pub states₁ : 0 < A.states
  pub states₂ : 0 < B.states
  pub total₁ : Total A
  pub total₂ : Total B
  pub outputs : OutputsBelow A B.inputs
