-- Worked examples: the numbers of the states, by the states of the second machine; the second goes on by what the first puts out; and two
-- delays in a row, whose windows add up and whose sum cannot be cut.
use mathlib.Core.Path.{◌≡◌, refl}
use mathlib.Core.List.{List, [], ◌∷◌}
use Prim.Native.Nat.{ℕ, ◌+◌, ◌%◌}
use native.Mathlib.Omega.{arith}
use lib.ListN.{get_or}
use lib.Dec.{lit<}
use Rattle.mealy.specs.Machine.{Machine, outs, end}
use Rattle.mealy.specs.Setting.{from_reachable}
use Rattle.mealy.specs.Window.{EqualOutputs, Works}
use Rattle.mealy.proofs.ReachableStates.{reachable_zero}
use Rattle.joined.specs.Joined.{joined, Joinable}
use Rattle.joined.proofs.Windows.{reachable_add}

-- n letters; each state is the letter before, and is put out
abbrev delay : ℕ → Machine
delay n = record { states = n; inputs = n; next = λ s i. i; out = λ s i. s }

-- two states, the parity of the letters so far, and three input letters; it puts out the state ahead of each letter
abbrev sum_parity : Machine
sum_parity = record { states = 2; inputs = 3; next = λ s i. (s + i) % 2; out = λ s i. s }

-- From state 0, the delay puts 0 2 1 out on 2 1 1 and ends in 1; on these letters the parity goes to 0, 0, 1 and ends in 1. State 1 of the
-- first with state 1 of the second is number 1 × 2 + 1.
pub joined_ends : end (joined (delay 3) sum_parity) 0 (2 ∷ 1 ∷ 1 ∷ []) ≡ 3
joined_ends = refl

-- from state 1 of the parity, and from state 2 of the delay with it: number 2 × 2 + 1
pub joined_run : outs (joined (delay 3) sum_parity) 5 (1 ∷ 1 ∷ 0 ∷ []) ≡ 1 ∷ 1 ∷ 0 ∷ []
joined_run = refl

pub joined_states : (joined (delay 3) sum_parity).states ≡ 6
joined_states = refl

-- ---- two delays: one letter of lookahead for each

pub delays_run : outs (joined (delay 3) (delay 3)) 0 (2 ∷ 1 ∷ 0 ∷ 1 ∷ []) ≡ 0 ∷ 0 ∷ 2 ∷ 1 ∷ []
delays_run = refl

joinable : Joinable (delay 3) (delay 3)
joinable =
    record {
      states₁ = lit< tt;
      states₂ = lit< tt;
      total₁ = λ s i l m. m;
      total₂ = λ s i l m. m;
      outputs = λ s i l m. l;
    }

delay_works : Works (from_reachable (delay 3)) 0 1
delay_works s t xs ys p q w conflict = go xs ys w conflict
  where
    go : (xs ys : List ℕ) (w : EqualOutputs (delay 3) 2 s t xs ys) → (get_or xs 0 0 ≡ get_or ys 0 0 → ⊥) → ⊥
    go [] ys w c = absurd (omega arith)
    go (x ∷ []) ys w c = absurd (omega arith)
    go (x ∷ x' ∷ xs) [] w c = absurd (omega arith)
    go (x ∷ x' ∷ xs) (y ∷ []) w c = absurd (omega arith)
    go (x ∷ x' ∷ xs) (y ∷ y' ∷ ys) w c = c (let e = w.outputs in cc)

pub delays_work : Works (from_reachable (joined (delay 3) (delay 3))) 0 2
delays_work = reachable_add (delay 3) (delay 3) joinable 0 1 0 1 delay_works delay_works

-- one letter less does not work: from state 0, the letters 0 0 and 1 0 give the outputs 0 0
pub delays_no_less : Works (from_reachable (joined (delay 3) (delay 3))) 0 1 → ⊥
delays_no_less works =
    works 0 0 (0 ∷ 0 ∷ []) (1 ∷ 0 ∷ []) (reachable_zero _) (reachable_zero _)
    (record { letters₁ = (lit< tt, (lit< tt, tt)); letters₂ = (lit< tt, (lit< tt, tt)); length₁ = refl; length₂ = refl; outputs = refl })
    (λ e. omega arith)
