-- Reachable states: state 0 is one, no entry leaves them, they are states, and N - 1 steps lead to them all.
use mathlib.Core.Path.{◌≡◌, refl, ap, ◌∙◌}
use mathlib.Core.Logic.Dec
use mathlib.Core.Logic.{◌⊎◌, ◌↔◌, ◌≢◌, inl, inr}
use mathlib.Core.List.{List, [], ◌∷◌, ◌++◌}
use Prim.Native.Nat.{ℕ, zero, suc, ◌+◌, ◌≤◌, ◌<◌}
use native.Mathlib.Omega.{arith}
use native.Mathlib.Decide.{ℕ_discrete, map_dec, le_ind}
use Rattle.mealy.specs.Machine.{Machine, end, Letters, Total}
use Rattle.mealy.specs.Reachable.{Reachable, EntryTo}
use Rattle.mealy.specs.Setting.{Setting}
use Rattle.mealy.specs.Image.{Image}
use Rattle.mealy.proofs.RunParts.{end_start}
use Rattle.mealy.proofs.Decisions.{dec_below}
use Rattle.mealy.proofs.Sums.{stops_rising}

-- ---- one string after the other

pub end_append : (M : Machine) (s : ℕ) (xs ys : List ℕ) → end M s (xs ++ ys) ≡ end M (end M s xs) ys
end_append M s [] ys = refl
end_append M s (x ∷ xs) ys = end_append M (M.next s x) xs ys

pub letters_both : (n : ℕ) (xs ys : List ℕ) → Letters n xs → Letters n ys → Letters n (xs ++ ys)
letters_both n [] ys p q = q
letters_both n (x ∷ xs) ys p q = (p.0, letters_both n xs ys p.1 q)

-- ---- steps from state 0

-- s is state 0 or within k steps of it: a step more adds the states that an entry leads to
abbrev pub InSteps : Machine → ℕ → ℕ → Type 0
InSteps M zero s = s ≡ 0
InSteps M (suc k) s = InSteps M k s ⊎ Image (EntryTo M) (InSteps M k) s

pub dec_image :
    (M : Machine) (P : ℕ → Type 0) → ((s : ℕ) → Dec (P s)) → ((s : ℕ) → P s → s < M.states) → (t : ℕ) → Dec (Image (EntryTo M) P t)
dec_image M P decide small t =
    map_dec (λ z. record { s = z.0; from = z.2.2.0; step = record { x = z.2.0; letter = z.2.1; to = z.2.2.1 } })
    (λ h. (h.s, small h.s h.from, (h.step.x, h.step.letter, (h.from, h.step.to))))
    (dec_below M.states _ (λ s. dec_below M.inputs _ (λ i. Dec.and (decide s) (ℕ_discrete (M.next s i) t))))

dec_either : {A B : Type 0} → Dec A → Dec B → Dec (A ⊎ B)
dec_either (yes a) d = yes (inl a)
dec_either (no a) (yes b) = yes (inr b)
dec_either (no a) (no b) = no (elim [ inl x ↦ a x | inr x ↦ b x ])

module _ (M : Machine) where
  pub reachable_zero : Reachable M 0
  reachable_zero = record { xs = []; letters = tt; ends = refl }

  pub reachable_along : (s : ℕ) (ys : List ℕ) → Reachable M s → Letters M.inputs ys → Reachable M (end M s ys)
  reachable_along s ys r l =
      record {
        xs = r.xs ++ ys;
        letters = letters_both M.inputs r.xs ys r.letters l;
        ends = end_append M 0 r.xs ys ∙ ap (λ z. end M z ys) r.ends;
      }

  pub reachable_closed : (s i : ℕ) → Reachable M s → i < M.inputs → Reachable M (M.next s i)
  reachable_closed s i r l = reachable_along s (i ∷ []) r (l, tt)

  -- the least set with state 0 that no entry leaves
  pub reachable_least :
      (P : ℕ → Type 0) → P 0 → ((s i : ℕ) → P s → i < M.inputs → P (M.next s i)) → (s : ℕ) → Reachable M s → P s
  reachable_least P base closed s r =
      let S : Setting = record { M = M; Start = P; Conflict = λ i j. i ≢ j } in
      rw r.ends at (end_start S closed 0 r.xs base r.letters)

  in_steps_zero : (k : ℕ) → InSteps M k 0
  in_steps_zero zero = refl
  in_steps_zero (suc k) = inl (in_steps_zero k)

  pub in_steps_reachable : (k s : ℕ) → InSteps M k s → Reachable M s
  in_steps_reachable zero s h = rw h reachable_zero
  in_steps_reachable (suc k) s (inl h) = in_steps_reachable k s h
  in_steps_reachable (suc k) s (inr h) =
      rw h.step.to at (reachable_closed h.s h.step.x (in_steps_reachable k h.s h.from) h.step.letter)

  -- where a step more adds none, these are all
  pub in_steps_all : (K : ℕ) → ((s : ℕ) → InSteps M (suc K) s → InSteps M K s) → (s : ℕ) → Reachable M s → InSteps M K s
  in_steps_all K settled =
      reachable_least (InSteps M K) (in_steps_zero K)
      (λ s i h l. settled _ (inr (record { s = s; from = h; step = record { x = i; letter = l; to = refl } })))

  in_steps_more : (K k : ℕ) → K ≤ k → (s : ℕ) → InSteps M K s → InSteps M k s
  in_steps_more K k l s h = le_ind (λ k. InSteps M k s) h (λ k _ h. inl h) k l

  module _ (total : Total M) (some : 0 < M.states) where
    pub reachable_bounded : (s : ℕ) → Reachable M s → s < M.states
    reachable_bounded = reachable_least (λ s. s < M.states) some total

    pub in_steps_bounded : (k s : ℕ) → InSteps M k s → s < M.states
    in_steps_bounded k s h = reachable_bounded s (in_steps_reachable k s h)

    dec_in_steps : (k s : ℕ) → Dec (InSteps M k s)
    dec_in_steps zero s = ℕ_discrete s 0
    dec_in_steps (suc k) s = dec_either (dec_in_steps k s) (dec_image M (InSteps M k) (dec_in_steps k) (in_steps_bounded k) s)

    reachable_in_steps : (k : ℕ) → M.states ≤ k + 1 → (s : ℕ) → Reachable M s → InSteps M k s
    reachable_in_steps k l s r =
        let z = stops_rising M.states (InSteps M) dec_in_steps in_steps_bounded (λ k s h. inl h) 0 refl in
        in_steps_more z.0 k (omega arith) s (in_steps_all z.0 z.2 s r)

    -- N - 1 steps lead to all reachable states
    pub in_steps↔reachable : (k : ℕ) → M.states ≤ k + 1 → (s : ℕ) → InSteps M k s ↔ Reachable M s
    in_steps↔reachable k l s = (in_steps_reachable k s, reachable_in_steps k l s)

    pub dec_reachable : (s : ℕ) → Dec (Reachable M s)
    dec_reachable s =
        let f = in_steps↔reachable M.states (omega arith) s in
        map_dec f.0 f.1 (dec_in_steps M.states s)
