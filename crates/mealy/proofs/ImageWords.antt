-- The states that entries lead to from a set of states, as words that are computed; and so computed, how far letters lead.
use mathlib.Core.Path.{◌≡◌, refl, sym}
use mathlib.Core.Bool.{Bool, true, false, cond}
use mathlib.Core.List.{List, [], ◌∷◌}
use Prim.Native.Nat.{ℕ, zero, suc, ◌/◌, ◌%◌, ◌^◌, ◌≤◌, ◌<◌}
use native.Mathlib.Omega.{arith}
use lib.Bits.{bit_or}
use lib.Dec.{eqb}
use borrow.Author.Tests.{eq-eqb, eqb-true, eqb-false}
use Rattle.mealy.specs.Machine.{Machine, Total}
use Rattle.mealy.specs.Setting.{Setting, Bounded}
use Rattle.mealy.specs.HowFar.{NoRun, HowFar}
use Rattle.mealy.specs.Image.{Image, FarIn, Successor}
use Rattle.mealy.specs.Word.{Has, Holds}
use Rattle.mealy.proofs.Words.{holds_map, holds_none, holds_one, holds_empty}
use Rattle.mealy.proofs.Members.{holds_member}
use Rattle.mealy.proofs.OneMore.{next_below, holds_more}
use Rattle.mealy.proofs.Possible.{far_none, far_later, far_states, far_runs}

-- the states that the entries of state s on its first n letters lead to, of such as have an output letter that `on` takes
unfoldable pub entries_word : Machine → (ℕ → Bool) → ℕ → ℕ → ℕ
entries_word M on s zero = 0
entries_word M on s (suc n) = bit_or (entries_word M on s n) (cond (on (M.out s n)) (2 ^ M.next s n) 0)

-- those of the first n states, of such as are in the set u
unfoldable pub image_word : Machine → (ℕ → Bool) → ℕ → ℕ → ℕ
image_word M on u zero = 0
image_word M on u (suc n) = bit_or (image_word M on u n) (cond (eqb (u / 2 ^ n % 2) 1) (entries_word M on n M.inputs) 0)

-- how many letters, from the first on, lead to some state from the states of u
unfoldable pub far_word : Machine → ℕ → List ℕ → ℕ
far_word M u [] = 0
far_word M u (o ∷ w) = let t = image_word M (eqb o) u M.states in cond (eqb t 0) 0 (suc (far_word M t w))

-- some entry of state s with such an output letter leads to state t
pub record EntryOn (M : Machine) (on : ℕ → Bool) (s t : ℕ) : Type 0 where
  pub x : ℕ
  pub letter : x < M.inputs
  pub output : on (M.out s x) ≡ true
  pub to : M.next s x ≡ t

-- the word of a set, or none of it, by a test
holds_if : {P : ℕ → Type 0} {u : ℕ} (b : Bool) → Holds P u → Holds (λ t. (b ≡ true) × P t) (cond b u 0)
holds_if true h = holds_map (λ t p. (refl, p)) (λ t p. p.1) h
holds_if false h = holds_none (λ t p. let e = p.0 in let z : ◌≡◌ {A = ℕ} 0 1 = cc in omega arith)

module _ (M : Machine) (total : Total M) (few : M.states ≤ 16) (on : ℕ → Bool) where
  entries_hold :
      (s n : ℕ) → s < M.states → n ≤ M.inputs →
      Holds (Image (λ i t. (on (M.out s i) ≡ true) × (M.next s i ≡ t)) (λ i. i < n)) (entries_word M on s n)
  unfolding entries_word
  entries_hold s zero l m = holds_none (λ t h. let z = h.from in omega arith)
  entries_hold s (suc n) l m =
      holds_more (next_below (omega arith)) (entries_hold s n l (omega arith))
      (holds_if (on (M.out s n)) (holds_one (M.next s n) (omega (arith, total s n l (omega arith))) refl (λ t e. sym e)))

  all_entries : (s : ℕ) → s < M.states → Holds (EntryOn M on s) (entries_word M on s M.inputs)
  all_entries s l =
      holds_map (λ t h. record { x = h.s; letter = h.from; output = h.step.0; to = h.step.1 })
      (λ t e. record { s = e.x; from = e.letter; step = (e.output, e.to) })
      (entries_hold s M.inputs l (omega arith))

  image_holds : (u n : ℕ) → n ≤ M.states → Holds (Image (λ s t. Has u s × EntryOn M on s t) (λ s. s < n)) (image_word M on u n)
  unfolding image_word
  image_holds u zero m = holds_none (λ t h. let z = h.from in omega arith)
  image_holds u (suc n) m =
      holds_more (next_below (omega arith)) (image_holds u n (omega arith))
      (holds_map (λ t h. (eqb-true _ _ h.0, h.1)) (λ t h. (eq-eqb _ _ h.0, h.1))
      (holds_if (eqb (u / 2 ^ n % 2) 1) (all_entries n (omega arith))))

  pub image_word_lem : (u : ℕ) → ((s : ℕ) → Has u s → s < M.states) → Holds (Image (EntryOn M on) (Has u)) (image_word M on u M.states)
  image_word_lem u states =
      holds_map (λ t h. record { s = h.s; from = h.step.0; step = h.step.1 })
      (λ t h. record { s = h.s; from = states h.s h.from; step = (h.from, h.step) }) (image_holds u M.states (omega arith))

-- ---- how far letters lead

module _ (M : Machine) (total : Total M) (few : M.states ≤ 16) where
  -- the states that the letter o leads to
  successors_word :
      (u o : ℕ) → ((s : ℕ) → Has u s → s < M.states) → Holds (Image (Successor M o) (Has u)) (image_word M (eqb o) u M.states)
  successors_word u o states =
      holds_map
      (λ t i.
      let e = i.step in
      record {
        s = i.s;
        from = i.from;
        step = record {
          x = e.x;
          entry = record { state = states i.s i.from; letter = e.letter; output = sym (eqb-true _ _ e.output); to = e.to };
        };
      })
      (λ t i.
      let e = i.step.entry in
      record {
        s = i.s;
        from = i.from;
        step = record { x = i.step.x; letter = e.letter; output = eq-eqb _ _ (sym e.output); to = e.to };
      })
      (image_word_lem M total few (eqb o) u states)

  -- the first letter leads to no state, or further
  far_one :
      (w : List ℕ) (o u t n : ℕ) → u < 65536 → (u ≡ 0 → ⊥) → Holds (Image (Successor M o) (Has u)) t →
      ((t ≡ 0 → ⊥) → FarIn (Successor M) (Has t) w n) → (b : Bool) → eqb t 0 ≡ b → FarIn (Successor M) (Has u) (o ∷ w) (cond b 0 (suc n))
  far_one w o u t n l some h rest true e = far_none (Successor M) (o ∷ w) u l some (λ m r. holds_empty h (eqb-true t 0 e) r.t r.is)
  far_one w o u t n l some h rest false e =
      far_later (far_states (Successor M) w (holds_member h) h.has (rest (eqb-false t 0 e)))

  far_in_word :
      (w : List ℕ) (u : ℕ) → u < 65536 → (u ≡ 0 → ⊥) → ((s : ℕ) → Has u s → s < M.states) → FarIn (Successor M) (Has u) w (far_word M u w)
  unfolding far_word
  far_in_word [] u l some states = far_none (Successor M) [] u l some (λ m r. absurd (omega arith))
  far_in_word (o ∷ w) u l some states =
      let t = image_word M (eqb o) u M.states in
      let h = successors_word u o states in
      far_one w o u t (far_word M t w) l some h
      (λ more. far_in_word w t h.bound more (λ s m.
      let i = holds_member h s m in
      let e = i.step.entry in
      rw (← e.to) (total i.s i.step.x e.state e.letter)))
      (eqb t 0) refl

-- Where no run gives the window there is a count, and it is the one computed.
pub far_word_lem :
    (S : Setting) → Total S.M → S.M.states ≤ 16 → Bounded S → (u : ℕ) → Holds S.Start u → (u ≡ 0 → ⊥) → (w : List ℕ) → NoRun S w →
    HowFar S w (far_word S.M u w)
far_word_lem S total few bounded u h some w none =
    far_runs S total bounded w none
    (far_states (Successor S.M) w (holds_member h) h.has
    (far_in_word S.M total few w u h.bound some (λ s m. bounded s (holds_member h s m))))
