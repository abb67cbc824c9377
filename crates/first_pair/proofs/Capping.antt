-- The least number with a cap: of none, of one number, of two sets one after the other, and of all that loops pass.
use mathlib.Core.Path.{◌≡◌, refl, subst}
use mathlib.Core.Logic.{◌≢◌, ◌⊎◌, inl, inr, ⊎_elim}
use Prim.Native.Nat.{ℕ, ◌+◌, ◌-◌, ◌<◌, min}
use native.Mathlib.Decide.{dec_lt}
use native.Mathlib.Omega.{arith}
use lib.Bits.{bit_and}
use lib.Count.{count_trailing_zeros}
use Rattle.mealy.specs.Word.{Has}
use Rattle.mealy.specs.Image.{Image}
use Rattle.mealy.proofs.Images.{image_within}
use Rattle.mealy.proofs.OneMore.{OneMore, next_below, more_image, image_cases}
use Rattle.mealy.proofs.Members.{Rest, IsPassed, rest_whole, none_passed, all_passed, rest_less, one_passed}
use Rattle.first_pair.specs.Cost.{Capped}

-- ---- one number more

pub capped_none : {P : ℕ → Type 0} {cap : ℕ} → ((n : ℕ) → P n → ⊥) → Capped P cap cap
capped_none h = record { high = omega arith; holds = λ l. absurd (omega arith); least = λ n p. absurd (h n p) }

pub capped_map :
    {P Q : ℕ → Type 0} {cap r : ℕ} → ((n : ℕ) → P n → Q n) → ((n : ℕ) → Q n → P n) → Capped P cap r → Capped Q cap r
capped_map f g a = record { high = a.high; holds = λ l. f _ (a.holds l); least = λ n q. a.least n (g n q) }

-- the least of P caps Q
pub capped_then :
    {P Q : ℕ → Type 0} {cap m r : ℕ} → Capped P cap m → Capped Q m r → Capped (λ n. P n ⊎ Q n) cap r
capped_then {P} {Q} {cap} {m} {r} a b =
    let h = b.high in
    record {
      high = omega (arith, a.high);
      holds = λ l. elim (dec_lt r m) [
        | yes k ↦ inr (b.holds k)
        | no k ↦ let e : m ≡ r = omega arith in inl (subst P e (a.holds (omega arith)))
      ];
      least = λ n. ⊎_elim (λ p. omega (arith, a.least n p)) (b.least n);
    }

-- what Q leads to from a set with one number more
capped_more :
    {P P' : ℕ → Type 0} {Q : ℕ → ℕ → Type 0} {x cap so_far r : ℕ} → OneMore P x P' → Capped (Image Q P) cap so_far →
    Capped (Q x) so_far r → Capped (Image Q P') cap r
capped_more m a h = capped_map (more_image m) (image_cases m) (capped_then a h)

-- one number n, read as m
pub capped_min : {n m cap r : ℕ} → n ≡ m → r ≡ min cap m → Capped (λ k. n ≡ k) cap r
capped_min e l = record { high = omega arith; holds = λ k. omega arith; least = λ k q. omega arith }

-- ---- a loop over the members of a set

-- the least so far
pub record LeastPassed (set rest : ℕ) (Q : ℕ → ℕ → Type 0) (cap so_far : ℕ) : Type 0 where
  pub left : Rest set rest
  pub capped : Capped (Image Q (IsPassed set rest)) cap so_far

pub least_none : {set cap : ℕ} {Q : ℕ → ℕ → Type 0} → set < 65536 → LeastPassed set set Q cap cap
least_none l = record { left = rest_whole l; capped = capped_none none_passed }

pub least_more :
    {set rest cap so_far r : ℕ} {Q : ℕ → ℕ → Type 0} → LeastPassed set rest Q cap so_far → rest ≢ 0 →
    Capped (Q (count_trailing_zeros 16 rest)) so_far r → LeastPassed set (bit_and rest (rest - 1)) Q cap r
least_more a n h = record { left = rest_less a.left n; capped = capped_more (one_passed a.left n) a.capped h }

pub least_all :
    {set rest cap so_far : ℕ} {Q : ℕ → ℕ → Type 0} → LeastPassed set rest Q cap so_far → rest ≡ 0 →
    Capped (Image Q (Has set)) cap so_far
least_all a e =
    capped_map (image_within (λ s y q. q) (λ s p. p.member)) (image_within (λ s y q. q) (all_passed e)) a.capped

-- ---- a loop over the numbers below a bound

pub below_none : {Q : ℕ → ℕ → Type 0} {cap : ℕ} → Capped (Image Q (λ i. i < 0)) cap cap
below_none = capped_none (λ n q. let l = q.from in omega arith)

pub below_one :
    {Q : ℕ → ℕ → Type 0} {k cap so_far r : ℕ} → Capped (Image Q (λ i. i < k)) cap so_far → Capped (Q k) so_far r →
    Capped (Image Q (λ i. i < k + 1)) cap r
below_one = capped_more (next_below refl)
