-- Sets of states, one received letter after the other, and the letters that fit.
use Rattle.std.specs.Prelude.{ℕ, zero, suc, ◌<◌, ◌≤◌, ◌≡◌, List, [], ◌∷◌, length, take}
use Rattle.mealy.specs.Machine.{Machine}

-- the numbers that Q leads to from the set P
pub record Image (Q : ℕ → ℕ → Type 0) (P : ℕ → Type 0) (t : ℕ) : Type 0 where
  pub s : ℕ
  pub from : P s
  pub step : Q s t

-- Transitions: R o s t says that some entry of state s with the output letter o leads to state t.
abbrev pub Transitions : Type 1
Transitions = ℕ → ℕ → ℕ → Type 0

-- the states after all letters of w, from the states of P
abbrev pub Following : Transitions → (ℕ → Type 0) → List ℕ → ℕ → Type 0
Following R P [] = P
Following R P (o ∷ w) = Following R (Image (R o) P) w

-- the states before all letters of w, to the states of P, with Q the transitions from their ends back
abbrev pub Leading : Transitions → (ℕ → Type 0) → List ℕ → ℕ → Type 0
Leading Q P [] = P
Leading Q P (o ∷ w) = Image (Q o) (Leading Q P w)

-- there is such a state
pub record Reached (R : Transitions) (P : ℕ → Type 0) (w : List ℕ) : Type 0 where
  pub t : ℕ
  pub is : Following R P w t

-- n letters of w, from the first on, lead to some state from P, and one more leads to none
pub record FarIn (R : Transitions) (P : ℕ → Type 0) (w : List ℕ) (n : ℕ) : Type 0 where
  pub within : n ≤ length w
  pub reached : Reached R P (take n w)
  pub stops : n < length w → Reached R P (take (suc n) w) → ⊥

-- The letter x fits at place b of the letters w: E x has the transitions on input letter x, R those on any.
abbrev pub Fitting : Transitions → (ℕ → Transitions) → (ℕ → Type 0) → List ℕ → ℕ → ℕ → Type 0
Fitting R E P [] b x = ⊥
Fitting R E P (o ∷ w) zero x = Reached R (Image (E x o) P) w
Fitting R E P (o ∷ w) (suc b) x = Fitting R E (Image (R o) P) w b x

-- The transitions of a machine: on one input letter, and on any.
pub record Entry (M : Machine) (x o s t : ℕ) : Type 0 where
  pub state : s < M.states
  pub letter : x < M.inputs
  pub output : M.out s x ≡ o
  pub to : M.next s x ≡ t

pub record Successor (M : Machine) (o s t : ℕ) : Type 0 where
  pub x : ℕ
  pub entry : Entry M x o s t
