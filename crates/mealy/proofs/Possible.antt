-- How far a window was possible: there is one count, it is that of the longest part, and where there is one no run gives the window. By
-- runs and by sets of states the same.
use mathlib.Core.Path.{◌≡◌, sym, ap, ◌∙◌}
use mathlib.Core.List.{List, ◌∷◌}
use Prim.Native.Nat.{ℕ, suc, ◌<◌, ◌≤◌}
use native.Mathlib.Omega.{arith}
use native.Mathlib.Decide.{dec_le, dec_lt}
use lib.ListN.{length, take}
use lib.Seq.{take-take, take_all}
use Rattle.mealy.specs.Machine.{end, Total}
use Rattle.mealy.specs.Setting.{Setting, Bounded}
use Rattle.mealy.specs.HowFar.{SomeRun, NoRun, HowFar}
use Rattle.mealy.specs.Word.{Has}
use Rattle.mealy.specs.Image.{Image, Transitions, Reached, FarIn, Successor}
use Rattle.mealy.proofs.RunParts.{take_outs, letters_take}
use Rattle.mealy.proofs.Members.{least_member}
use Rattle.mealy.proofs.Images.{Within, following_same, following_run, run_following}

-- a shorter part can be produced where a longer one can
run_shorter : (S : Setting) (w : List ℕ) (m n : ℕ) → m ≤ n → SomeRun S (take n w) → SomeRun S (take m w)
run_shorter S w m n l r =
    record {
      s = r.s;
      xs = take m r.xs;
      start = r.start;
      letters = letters_take S.M.inputs m r.xs r.letters;
      outputs = sym (take_outs S.M r.s m r.xs) ∙ ap (take m) r.outputs ∙ take-take m n w l;
    }

module _ {S : Setting} {w : List ℕ} where
  pub far_longest : {k : ℕ} → HowFar S w k → (m : ℕ) → SomeRun S (take m w) → m ≤ k
  far_longest {k} h m r = elim (dec_le m k) [ yes l ↦ l | no l ↦ absurd (h.no_further (run_shorter S w (suc k) m (omega arith) r)) ]

  pub far_unique : {k j : ℕ} → HowFar S w k → HowFar S w j → k ≡ j
  far_unique {k} {j} p q = omega (arith, far_longest p j q.possible, far_longest q k p.possible)

  pub far_no_run : {k : ℕ} → HowFar S w k → NoRun S w
  far_no_run h r = omega (arith, h.inside, far_longest h (length w) (rw (take_all (length w) w (omega arith)) r))

-- ---- by sets of states

-- from the states of a word, of which there is one, no letter leads to a state
pub far_none :
    (R : Transitions) (w : List ℕ) (u : ℕ) → u < 65536 → (u ≡ 0 → ⊥) → (0 < length w → Reached R (Has u) (take 1 w) → ⊥) →
    FarIn R (Has u) w 0
far_none R w u l some stops =
    record { within = omega arith; reached = record { t = _; is = (least_member 16 u l some).taken.member }; stops = stops }

module _ {R : Transitions} {P : ℕ → Type 0} where
  -- one letter in front
  pub far_later : {o : ℕ} {w : List ℕ} {n : ℕ} → FarIn R (Image (R o) P) w n → FarIn R P (o ∷ w) (suc n)
  far_later h =
      record {
        within = omega (arith, h.within);
        reached = record { t = h.reached.t; is = h.reached.is };
        stops = λ l r. h.stops (omega arith) (record { t = r.t; is = r.is });
      }

  -- other transitions, from other states, that lead to a state where these do
  pub far_map :
      {R' : Transitions} {P' : ℕ → Type 0} {w : List ℕ} {n : ℕ} → ((m : ℕ) → Reached R P (take m w) → Reached R' P' (take m w)) →
      ((m : ℕ) → Reached R' P' (take m w) → Reached R P (take m w)) → FarIn R P w n → FarIn R' P' w n
  far_map {n = n} f g h = record { within = h.within; reached = f n h.reached; stops = λ l r. h.stops l (g (suc n) r) }

-- the same states, said in two ways
pub far_states :
    (R : Transitions) {P P' : ℕ → Type 0} (w : List ℕ) {n : ℕ} → Within P P' → Within P' P → FarIn R P w n → FarIn R P' w n
far_states R {P} {P'} w f g =
    far_map
    (λ m r. record { t = r.t; is = following_same R (take m w) {P = P} {P' = P'} f r.t r.is })
    (λ m r. record { t = r.t; is = following_same R (take m w) {P = P'} {P' = P} g r.t r.is })

-- by the transitions of a machine: where no run gives all letters, the same count
module _ (S : Setting) (total : Total S.M) (bounded : Bounded S) where
  reached_run : (w : List ℕ) → Reached (Successor S.M) S.Start w → SomeRun S w
  reached_run w r = following_run S S.Start w r.t r.is

  run_reached : (w : List ℕ) → SomeRun S w → Reached (Successor S.M) S.Start w
  run_reached w r =
      record {
        t = end S.M r.s r.xs;
        is = run_following S total w r.xs r.s S.Start bounded r.start r.letters r.outputs;
      }

  pub far_runs : (w : List ℕ) {n : ℕ} → NoRun S w → FarIn (Successor S.M) S.Start w n → HowFar S w n
  far_runs w {n} none h =
      let possible = reached_run (take n w) h.reached in
      let inside : n < length w = elim (dec_lt n (length w)) [
        | yes l ↦ l
        | no l ↦ absurd (none (rw (take_all n w (omega arith)) at possible))
      ] in
      record { inside = inside; possible = possible; no_further = λ r. h.stops inside (run_reached (take (suc n) w) r) }
