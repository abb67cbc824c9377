-- A set with one number more, and what a relation leads to from it.
use mathlib.Core.Path.{◌≡◌}
use mathlib.Core.Logic.{◌⊎◌, inl, inr, ⊎_elim}
use Prim.Native.Nat.{ℕ, ◌+◌, ◌<◌}
use native.Mathlib.Decide.{ℕ_discrete}
use native.Mathlib.Omega.{arith}
use lib.Bits.{bit_or}
use Rattle.mealy.specs.Word.{Holds}
use Rattle.mealy.specs.Image.{Image}
use Rattle.mealy.proofs.Words.{holds_map, holds_union}

-- the set P' has the numbers of the set P and x
pub record OneMore (P : ℕ → Type 0) (x : ℕ) (P' : ℕ → Type 0) : Type 0 where
  pub was : (s : ℕ) → P s → P' s
  pub new : P' x
  pub only : (s : ℕ) → P' s → P s ⊎ (s ≡ x)

pub next_below : {n m : ℕ} → m ≡ n + 1 → OneMore (λ k. k < n) n (λ k. k < m)
next_below {n} e =
    record {
      was = λ k l. omega arith;
      new = omega arith;
      only = λ k l. elim (ℕ_discrete k n) [ yes q ↦ inr q | no d ↦ inl (omega arith) ];
    }

module _ {P P' : ℕ → Type 0} {x : ℕ} {Q : ℕ → ℕ → Type 0} (m : OneMore P x P') where
  pub more_image : (y : ℕ) → Image Q P y ⊎ Q x y → Image Q P' y
  more_image y =
      ⊎_elim (λ i. record { s = i.s; from = m.was i.s i.from; step = i.step }) (λ q. record { s = x; from = m.new; step = q })

  pub image_cases : (y : ℕ) → Image Q P' y → Image Q P y ⊎ Q x y
  image_cases y i =
      ⊎_elim (λ p. inl (record { s = i.s; from = p; step = i.step })) (λ (e : i.s ≡ x). inr (rw e at i.step))
      (m.only i.s i.from)

  -- and the word of that
  pub holds_more : {u v : ℕ} → Holds (Image Q P) u → Holds (Q x) v → Holds (Image Q P') (bit_or u v)
  holds_more a h = holds_map more_image image_cases (holds_union a h)
