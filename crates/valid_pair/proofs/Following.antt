-- Two runs in step, place by place.
use mathlib.Core.Path.{◌≡◌, sym, ◌∙◌}
use mathlib.Core.List.{List, ◌∷◌}
use Prim.Native.Nat.{ℕ, ◌+◌, ◌*◌, ◌-◌, ◌≤◌, ◌<◌}
use native.Mathlib.Omega.{arith}
use lib.ListN.{length, get_or}
use Rattle.mealy.specs.Machine.{Machine}
use Rattle.mealy.specs.LoopedPair.{LoopedPair, Run, first, second, letter_at, letters_from}
use Rattle.mealy.specs.Product.{Edge}
use Rattle.mealy.specs.Walk.{Part}
use Rattle.mealy.proofs.Edges.{equal_edge}
use Rattle.mealy.proofs.Walks.{walk_nil, walk_cons, walk_tail}
use Rattle.mealy.proofs.PairParts.{letters_append}
use Rattle.mealy.proofs.Letters.{letter_at_lem}
use Rattle.coder.specs.Limits.{max_states, max_inputs}
use Rattle.coder.specs.Table.{table_at, machine_of_coder}
use Rattle.coder.specs.declared.inner.tables.Coder.{Coder}
use Rattle.std.specs.Prelude.{Some, None}
use Rattle.valid_pair.specs.Follow.{PairTables, FollowAsked, Follows}

-- the first run's letter stands at the even place
pub letter_first : (p : LoopedPair) (place x : ℕ) → x ≡ get_or p.bytes (2 * place) 0 → x ≡ letter_at p first place
letter_first p place x e = let z : 2 * place + 0 ≡ 2 * place = omega arith in rw z e

-- the two letters of a place as bytes, and what the tables hold for them
module _ {c : Coder} {p : LoopedPair} {next output bytes : List ℕ} (w : PairTables c p next output bytes) (place u v : ℕ)
    {i j x y : ℕ} (ei : i ≡ get_or bytes (2 * place) 0) (ej : j ≡ get_or bytes (2 * place + 1) 0)
    (ex : x ≡ table_at output u i) (ey : y ≡ table_at output v j) where
  first_is : i ≡ letter_at p first place
  first_is = letter_first p place i (rw w.bytes_are ei)

  second_is : j ≡ letter_at p second place
  second_is = rw w.bytes_are ej

  output_first : x ≡ (machine_of_coder c).out u (letter_at p first place)
  output_first = rw (w.output_is, ← first_is) ex

  output_second : y ≡ (machine_of_coder c).out v (letter_at p second place)
  output_second = rw (w.output_is, ← second_is) ey

  pub equal_bytes : (machine_of_coder c).out u (letter_at p first place) ≡ (machine_of_coder c).out v (letter_at p second place) → x ≡ y
  equal_bytes e = output_first ∙ e ∙ sym output_second

  pub table_edge :
      {u' v' : ℕ} → 2 * place + 1 < length bytes → x ≡ y → u' ≡ table_at next u i → v' ≡ table_at next v j →
      Edge (machine_of_coder c) u v (letter_at p first place) (letter_at p second place) u' v'
  table_edge l e eu ev = record {
    below₁ = rw (← first_is, ei) (letter_at_lem c.inputs bytes w.below (2 * place) (omega arith));
    below₂ = rw (← second_is, ej) (letter_at_lem c.inputs bytes w.below (2 * place + 1) l);
    output = sym output_first ∙ e ∙ output_second;
    to₁ = sym (rw (w.next_is, ← first_is) eu);
    to₂ = sym (rw (w.next_is, ← second_is) ev);
  }

-- a next state is a state
pub next_low :
    {next output bytes : List ℕ} {s t place n : ℕ} → FollowAsked next output bytes s t place n → (u i : ℕ) → table_at next u i < max_states
next_low a u i =
    let h = a.tables.sound in
    omega (arith, h.states_high, rw a.tables.next_is at (h.next_state u i))

-- the two letters of a place that is to be followed are input letters
pub letters_low :
    {next output bytes : List ℕ} {s t place n : ℕ} → FollowAsked next output bytes s t place n → (k : ℕ) → k < n →
    (get_or bytes (2 * (place + k)) 0 < max_inputs) × (get_or bytes (2 * (place + k) + 1) 0 < max_inputs)
letters_low {bytes = bytes} {place = place} a k l =
    let h = a.tables.sound in
    let w = a.within in (
      omega (arith, letter_at_lem a.c.inputs bytes a.tables.below (2 * (place + k)) (omega arith), h.inputs_high),
      omega (arith, letter_at_lem a.c.inputs bytes a.tables.below (2 * (place + k) + 1) (omega arith), h.inputs_high),
    )

-- the letter of a place, and the letters after it
letters_next :
    (p : LoopedPair) (r : Run) (place n k : ℕ) → k < n →
    letters_from p r (place + k) (n - k) ≡ letter_at p r (place + k) ∷ letters_from p r (place + (k + 1)) (n - (k + 1))
letters_next p r place n k l =
    letters_append p r 1 (n - (k + 1)) (n - k) (place + k) (place + (k + 1)) (omega arith) (omega arith)

-- n letters from `place` on are to be followed from s and t; k of them lead to u and v, so that the rest decides
pub record Passed (M : Machine) (p : LoopedPair) (s t place n u v k : ℕ) : Type 0 where
  pub bound : k ≤ n
  pub all : (x y : ℕ) → Part M p (place + k) (n - k) u v x y → Part M p place n s t x y
  pub rest : (x y : ℕ) → Part M p place n s t x y → Part M p (place + k) (n - k) u v x y

pub passed_none : (M : Machine) (p : LoopedPair) (s t place n : ℕ) → Passed M p s t place n s t 0
passed_none M p s t place n =
    let e : place + 0 ≡ place = omega arith in
    let f : n - 0 ≡ n = omega arith in
    record { bound = omega arith; all = λ x y. rw (e, f) (λ h. h); rest = λ x y. rw (e, f) (λ h. h) }

module _ {M : Machine} {p : LoopedPair} {s t place n u v k : ℕ} (a : Passed M p s t place n u v k) where
  module _ (l : k < n) where
    abbrev i : ℕ
    i = letter_at p first (place + k)

    abbrev j : ℕ
    j = letter_at p second (place + k)

    pub passed_more :
        {u' v' : ℕ} → Edge M u v i j u' v' → Passed M p s t place n u' v' (k + 1)
    passed_more e = record {
      bound = omega arith;
      all = λ x y w. a.all x y (rw (letters_next p first place n k l, letters_next p second place n k l) (walk_cons e w));
      rest = λ x y w.
          let w' = rw (letters_next p first place n k l, letters_next p second place n k l) at (a.rest x y w) in
          rw (e.to₁, e.to₂) at (walk_tail w');
    }

    pub passed_not : (M.out u i ≡ M.out v j → ⊥) → Follows M p s t place n None
    passed_not h x y w =
        let w' = rw (letters_next p first place n k l, letters_next p second place n k l) at (a.rest x y w) in
        h (equal_edge w'.equal).output

  pub passed_all : n ≤ k → Follows M p s t place n (Some (u, v))
  passed_all l =
      let b = a.bound in
      let f : n - k ≡ 0 = omega arith in
      a.all u v (rw f walk_nil)
