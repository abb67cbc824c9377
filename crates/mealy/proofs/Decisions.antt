-- What can be decided: edges, level sets, windows.
use mathlib.Core.Path.{refl}
use mathlib.Core.Logic.Dec
use Prim.Native.Nat.{ℕ, zero, suc, ◌<◌}
use native.Mathlib.Omega.{arith}
use native.Mathlib.Decide.{dec_lt, ℕ_discrete, map_dec}
use Rattle.mealy.specs.Machine.{Machine}
use Rattle.mealy.specs.Setting.{Setting, Closed, Bounded}
use Rattle.mealy.specs.Window.{Works}
use Rattle.mealy.specs.Product.{Edge, Direction, back, forward, Step, Neighbour, Level, Ambiguous}
use Rattle.mealy.proofs.Levels.{level_start}
use Rattle.mealy.proofs.Windows.{works→unambiguous, unambiguous→works}

-- some number below n has P
pub dec_below : (n : ℕ) (P : ℕ → Type 0) → ((i : ℕ) → Dec (P i)) → Dec ((i : ℕ) × (i < n) × P i)
dec_below zero P d = no (λ z. omega arith)
dec_below (suc n) P d = go (d n) (dec_below n P d)
  where
    go : Dec (P n) → Dec ((i : ℕ) × (i < n) × P i) → Dec ((i : ℕ) × (i < suc n) × P i)
    go (yes p) e = yes (n, omega arith, p)
    go (no p) (yes z) = yes (z.0, omega arith, z.2)
    go (no p) (no z) = no (λ y. elim (ℕ_discrete y.0 n) [ yes q ↦ p (rw q at y.2) | no q ↦ z (y.0, omega arith, y.2) ])

-- two numbers below n, and two numbers below m
dec_below² : (n : ℕ) (P : ℕ → ℕ → Type 0) → ((i j : ℕ) → Dec (P i j)) → Dec ((i : ℕ) × (i < n) × ((j : ℕ) × (j < n) × P i j))
dec_below² n P d = dec_below n _ (λ i. dec_below n _ (d i))

pub dec_edge : (M : Machine) (s t i j u v : ℕ) → Dec (Edge M s t i j u v)
dec_edge M s t i j u v =
    map_dec (λ z. record { below₁ = z.0.0; below₂ = z.0.1; output = z.1.0; to₁ = z.1.1.0; to₂ = z.1.1.1 })
    (λ e. ((e.below₁, e.below₂), (e.output, (e.to₁, e.to₂))))
    (Dec.and (Dec.and (dec_lt i M.inputs) (dec_lt j M.inputs))
    (Dec.and (ℕ_discrete (M.out s i) (M.out t j)) (Dec.and (ℕ_discrete (M.next s i) u) (ℕ_discrete (M.next t j) v))))

dec_step : (M : Machine) (d : Direction) (u v i j s t : ℕ) → Dec (Step M d u v i j s t)
dec_step M back u v i j s t = dec_edge M s t i j u v
dec_step M forward u v i j s t = dec_edge M u v i j s t

step_below : (M : Machine) (d : Direction) (u v i j s t : ℕ) → Step M d u v i j s t → (i < M.inputs) × (j < M.inputs)
step_below M back u v i j s t e = (e.below₁, e.below₂)
step_below M forward u v i j s t e = (e.below₁, e.below₂)

module _ (M : Machine) (d : Direction) (P : ℕ → ℕ → Type 0) (decide : (s t : ℕ) → Dec (P s t)) (small : (s t : ℕ) → P s t → (s < M.states) × (t < M.states)) where
  dec_neighbour : (u v : ℕ) → Dec (Neighbour M d P u v)
  dec_neighbour u v =
      map_dec (λ z. let y = z.2.2 in record { s = z.0; t = z.2.0; i = y.0; j = y.2.0; step = y.2.2.0; within = y.2.2.1 })
      (λ n. let b = small _ _ n.within in let l = step_below M d u v _ _ _ _ n.step in
      (n.s, b.0, (n.t, b.1, (n.i, l.0, (n.j, l.1, (n.step, n.within))))))
      (dec_below² M.states _ (λ s t. dec_below² M.inputs _ (λ i j. Dec.and (dec_step M d u v i j s t) (decide s t))))

module _ (S : Setting) (decide_start : (s : ℕ) → Dec (S.Start s)) (bounded : Bounded S) where
  open S use {M, Start, Conflict}

  pub level_bounded : (d : Direction) (k u v : ℕ) → Level S d k u v → (u < M.states) × (v < M.states)
  level_bounded d k u v h = let z = level_start S d k u v h in (bounded u z.0, bounded v z.1)

  pub dec_level : (d : Direction) (k u v : ℕ) → Dec (Level S d k u v)
  dec_level d zero u v = Dec.and (decide_start u) (decide_start v)
  dec_level d (suc k) u v =
      map_dec (λ z. (z.0, z.1.0, z.1.1)) (λ z. (z.0, (z.1, z.2)))
      (Dec.and (decide_start u) (Dec.and (decide_start v) (dec_neighbour M d (Level S d k) (dec_level d k) (level_bounded d k) u v)))

  module _ (closed : Closed S) (decide_conflict : (i j : ℕ) → Dec (Conflict i j)) where
    pub dec_ambiguous : (b a : ℕ) → Dec (Ambiguous S b a)
    dec_ambiguous b a =
        map_dec (λ z. let y = z.2.2 in let x = y.2.2 in
        record { s = z.0; t = z.2.0; i = y.0; j = y.2.0; u = _; v = _; from = x.0; edge = x.1.0; conflict = x.1.1.0; to = x.1.1.1 })
        (λ c. let l = level_bounded back b _ _ c.from in let e = c.edge in
        (c.s, l.0, (c.t, l.1, (c.i, e.below₁, (c.j, e.below₂, (c.from, (record { below₁ = e.below₁; below₂ = e.below₂; output = e.output; to₁ = refl; to₂ = refl }, (c.conflict, rw (← e.to₁, ← e.to₂) at c.to))))))))
        (dec_below² M.states _ (λ s t. dec_below² M.inputs _ (λ i j.
        Dec.and (dec_level back b s t) (Dec.and (dec_edge M s t i j (M.next s i) (M.next t j)) (Dec.and (decide_conflict i j) (dec_level forward a (M.next s i) (M.next t j)))))))

    -- whether a window works can be decided
    pub dec_works : (b a : ℕ) → Dec (Works S b a)
    dec_works b a = map_dec (unambiguous→works S closed b a) (works→unambiguous S b a) (Dec.not (dec_ambiguous b a))
