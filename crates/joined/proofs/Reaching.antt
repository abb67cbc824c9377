-- A reachable state of two machines in a row stands for reachable states of both.
use mathlib.Core.Path.{◌≡◌, sym, ap, ◌∙◌}
use mathlib.Core.List.{List}
use Prim.Native.Nat.{ℕ, ◌<◌}
use native.Mathlib.Omega.{arith}
use Rattle.mealy.specs.Machine.{Machine, outs, end, Letters}
use Rattle.mealy.specs.Setting.{any_state}
use Rattle.mealy.specs.Reachable.{Reachable}
use Rattle.mealy.proofs.RunParts.{end_start}
use Rattle.joined.specs.Joined.{joined_state, first_state, second_state, joined, Joinable}
use Rattle.joined.proofs.Runs.{first_state_lem, second_state_lem, letters_outs, joined_end}

module _ (A B : Machine) (j : Joinable A B) where
  joined_reached : (q : ℕ) (r : Reachable (joined A B) q) → q ≡ joined_state B (end A 0 r.xs) (end B 0 (outs A 0 r.xs))
  joined_reached q r =
      let e : 0 ≡ joined_state B 0 0 = omega arith in
      sym r.ends ∙ ap (λ u. end (joined A B) u r.xs) e ∙ joined_end A B j 0 0 r.xs j.states₁ j.states₂ r.letters

  second_letters : (xs : List ℕ) → Letters A.inputs xs → Letters B.inputs (outs A 0 xs)
  second_letters xs l = letters_outs A B j 0 xs j.states₁ l

  second_end : (xs : List ℕ) → Letters A.inputs xs → end B 0 (outs A 0 xs) < B.states
  second_end xs l = end_start (any_state B) j.total₂ 0 (outs A 0 xs) j.states₂ (second_letters xs l)

  pub first_reachable : (q : ℕ) → Reachable (joined A B) q → Reachable A (first_state B q)
  first_reachable q r = record {
    xs = r.xs;
    letters = r.letters;
    ends = sym (ap (first_state B) (joined_reached q r) ∙ first_state_lem B (end A 0 r.xs) _ (second_end r.xs r.letters));
  }

  pub second_reachable : (q : ℕ) → Reachable (joined A B) q → Reachable B (second_state B q)
  second_reachable q r = record {
    xs = outs A 0 r.xs;
    letters = second_letters r.xs r.letters;
    ends = sym (ap (second_state B) (joined_reached q r) ∙ second_state_lem B (end A 0 r.xs) _ (second_end r.xs r.letters));
  }
