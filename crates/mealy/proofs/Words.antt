-- Words that hold sets: the empty set, one number, unions, intersections, complements, the greatest number; a set has one word.
use mathlib.Core.Path.{◌≡◌, refl, sym, ap, subst, ◌∙◌}
use mathlib.Core.Logic.{◌⊎◌, ◌↔◌, ◌≢◌, inl, inr, ⊎_elim}
use Prim.Native.Nat.{ℕ, zero, suc, ◌+◌, ◌-◌, ◌*◌, ◌/◌, ◌%◌, ◌^◌, ◌<◌, ◌≤◌, max, min}
use native.Mathlib.Decide.{ℕ_discrete, dec_lt}
use native.Mathlib.Nat.{le_refl, max_comm, zero-max, pow-suc, one-mul, div-eq_of_lt, div-eq_of_lt-le, div-eq_of_eq-mul_left}
use native.Mathlib.Omega.{arith}
use lib.Bits.{bit_or, bit_and, or_step, or_shr, or_lt, or_shifted, and_step, and_shr, and_lt}
use lib.Count.{count_leading_zeros, leading_le, leading_top}
use lib.Pow.{pow_pos, pow-lt, pow_mono, pow-add, shl_exact, shr-shr}
use lib.Dec.{lit<}
use Rattle.mealy.specs.Word.{Has, HoldsIn, Holds}

-- the union's bits
one_max : (b : ℕ) → b < 2 → max 1 b ≡ 1
one_max zero l = refl
one_max (suc zero) l = refl
one_max (suc (suc b)) l = absurd (omega arith)

max_bit : (a b : ℕ) → a < 2 → b < 2 → max a b < 2
max_bit zero b k l = rw (zero-max b) l
max_bit (suc zero) b k l = rw (one_max b l) (omega arith)
max_bit (suc (suc a)) b k l = absurd (omega arith)

low_bit : (a m : ℕ) → m < 2 → (a * 2 + m) % 2 ≡ m
low_bit a m l = omega arith

or_bit : (u v x : ℕ) → bit_or u v / 2 ^ x % 2 ≡ max (u / 2 ^ x % 2) (v / 2 ^ x % 2)
or_bit u v x =
    let a = u / 2 ^ x in
    let b = v / 2 ^ x in
    ap (λ n. n % 2) (or_shr u v x ∙ or_step a b) ∙
    low_bit (bit_or (a / 2) (b / 2)) (max (a % 2) (b % 2)) (max_bit (a % 2) (b % 2) (omega arith) (omega arith))

pub has_left : (u v x : ℕ) → Has u x → Has (bit_or u v) x
has_left u v x h = or_bit u v x ∙ rw h (one_max (v / 2 ^ x % 2) (omega arith))

pub has_right : (u v x : ℕ) → Has v x → Has (bit_or u v) x
has_right u v x h = or_bit u v x ∙ max_comm (u / 2 ^ x % 2) (v / 2 ^ x % 2) ∙ rw h (one_max (u / 2 ^ x % 2) (omega arith))

pub has_or : (u v x : ℕ) → Has (bit_or u v) x → Has u x ⊎ Has v x
has_or u v x h =
    elim (ℕ_discrete (u / 2 ^ x % 2) 1) [
      | yes e ↦ inl e
      | no n ↦
          let z : u / 2 ^ x % 2 ≡ 0 = omega arith in
          inr (sym (zero-max (v / 2 ^ x % 2)) ∙ ap (λ a. max a (v / 2 ^ x % 2)) (sym z) ∙ sym (or_bit u v x) ∙ h)
    ]

-- the highest bit
has_top : (a j : ℕ) → 2 ^ j ≤ a → a < 2 ^ suc j → Has a j
has_top a j l h =
    let e : a / 2 ^ j ≡ 1 = div-eq_of_lt-le {k = 1} (2 ^ j) (omega arith) (omega (arith, pow-suc 2 j)) in
    ap (λ n. n % 2) e

-- the empty set, and the set of one letter
pub has_empty : (x : ℕ) → Has 0 x → ⊥
has_empty x h = let e : 0 / 2 ^ x ≡ 0 = div-eq_of_lt (pow_pos x) in omega arith

pub has_itself : (x : ℕ) → Has (2 ^ x) x
has_itself x = has_top (2 ^ x) x (le_refl (2 ^ x)) (pow-lt (omega arith))

even : (k x y : ℕ) → y ≡ suc k + x → 2 ^ y / 2 ^ x ≡ 2 ^ k * 2
even k x y e = div-eq_of_eq-mul_left (pow_pos x) (ap (λ n. 2 ^ n) e ∙ pow-add 2 (suc k) x ∙ ap (λ n. n * 2 ^ x) (pow-suc 2 k))

pub has_alone : (x y : ℕ) → Has (2 ^ y) x → x ≡ y
has_alone x y h =
    elim (dec_lt x y) [
      | yes l ↦ absurd (let e = even (y - suc x) x y (omega arith) in omega arith)
      | no n ↦
          elim (dec_lt y x) [
            | yes l ↦ absurd (let e : 2 ^ y / 2 ^ x ≡ 0 = div-eq_of_lt (pow-lt l) in omega arith)
            | no m ↦ omega arith
          ]
    ]

-- the set of one letter, as it is made
pub shifted : (w x : ℕ) → x < w → 1 * 2 ^ x % 2 ^ w ≡ 2 ^ x
shifted w x l = shl_exact {a = 1} 1 x w (lit< tt) (omega arith) ∙ one-mul (2 ^ x)

-- a set that is not empty has a greatest letter
pub leading_high : (u : ℕ) → (u ≡ 0 → ⊥) → count_leading_zeros 16 u ≤ 15
unfolding count_leading_zeros
leading_high zero n = absurd (n refl)
leading_high (suc u) n = leading_le 15 (suc u / 2)

pub holds_map :
    {w : ℕ} {P Q : ℕ → Type 0} {u : ℕ} → ((x : ℕ) → P x → Q x) → ((x : ℕ) → Q x → P x) → HoldsIn w P u → HoldsIn w Q u
holds_map f g a =
    record {
      bound = a.bound;
      below = λ x q. a.below x (g x q);
      has = λ x q. a.has x (g x q);
      only = λ x l h. f x (a.only x l h);
    }

pub holds_none : {w : ℕ} {P : ℕ → Type 0} → ((x : ℕ) → P x → ⊥) → HoldsIn w P 0
holds_none {w} h =
    record {
      bound = pow_pos w;
      below = λ x p. absurd (h x p);
      has = λ x p. absurd (h x p);
      only = λ x l e. absurd (has_empty x e);
    }

pub holds_one : {w : ℕ} {P : ℕ → Type 0} (x : ℕ) → x < w → P x → ((y : ℕ) → P y → y ≡ x) → HoldsIn w P (2 ^ x)
holds_one x l p h =
    record {
      bound = pow-lt l;
      below = λ y q. rw (h y q) l;
      has = λ y q. rw (h y q) (has_itself x);
      only = λ y m e. rw (has_alone y x e) p;
    }

pub holds_shifted : {w : ℕ} {P : ℕ → Type 0} (x : ℕ) → x < w → P x → ((y : ℕ) → P y → y ≡ x) → HoldsIn w P (1 * 2 ^ x % 2 ^ w)
holds_shifted {w} {P} x l p h = subst (λ (u : ℕ). HoldsIn w P u) (sym (shifted w x l)) (holds_one x l p h)

-- 0 says that the set is empty, and any other word that it is not
pub holds_empty : {w : ℕ} {P : ℕ → Type 0} {u : ℕ} → HoldsIn w P u → u ≡ 0 → (x : ℕ) → P x → ⊥
holds_empty a e x p = has_empty x (rw e at (a.has x p))

-- its greatest letter
pub holds_greatest :
    {w : ℕ} {P : ℕ → Type 0} {u : ℕ} → HoldsIn w P u → (u ≡ 0 → ⊥) →
    (x : ℕ) × (w - 1 - count_leading_zeros w u ≡ x) × (2 ^ x ≤ u) × (u < 2 ^ suc x) × P x
holds_greatest {w} {P} {u} a n =
    let t = leading_top w u (omega arith) a.bound in
    let x = t.0 in
    let l : x < w = let e = t.1 in omega arith in
    (x, (let e = t.1 in omega arith), t.2, t.3, a.only x l (has_top u x t.2 t.3))

-- where that is not all, another one
pub holds_another :
    {P : ℕ → Type 0} {u : ℕ} → Holds P u → (x : ℕ) → x < 16 → 2 ^ x < u → u < 2 ^ suc x →
    (y : ℕ) × (y < x) × P y
holds_another {P} {u} a x l k m =
    let r = u - 2 ^ x in
    let s = pow-suc 2 x in
    let t = leading_top x r (omega arith) (omega arith) in
    let y = t.0 in
    let h : y < x = let e = t.1 in omega arith in
    let e : bit_or (1 * 2 ^ x) r ≡ u = or_shifted 1 x r (omega arith) ∙ omega arith in
    (y, h, a.only y (omega arith) (rw e at (has_right (1 * 2 ^ x) r y (has_top r y t.2 t.3))))

module _ {w : ℕ} {P Q : ℕ → Type 0} where
  pub holds_union : {u v : ℕ} → HoldsIn w P u → HoldsIn w Q v → HoldsIn w (λ x. P x ⊎ Q x) (bit_or u v)
  holds_union {u} {v} a b =
      record {
        bound = or_lt w u v a.bound b.bound;
        below = λ x. ⊎_elim (a.below x) (b.below x);
        has = λ x. ⊎_elim (λ p. has_left u v x (a.has x p)) (λ q. has_right u v x (b.has x q));
        only = λ x l h. ⊎_elim (λ e. inl (a.only x l e)) (λ e. inr (b.only x l e)) (has_or u v x h);
      }

-- ---- intersections and complements

one_min : (b : ℕ) → b < 2 → min 1 b ≡ b
one_min zero l = refl
one_min (suc zero) l = refl
one_min (suc (suc b)) l = absurd (omega arith)

min_bit : (a b : ℕ) → a < 2 → b < 2 → min a b < 2
min_bit zero b k l = omega arith
min_bit (suc zero) b k l = rw (one_min b l) l
min_bit (suc (suc a)) b k l = absurd (omega arith)

both_bits : (a b : ℕ) → a < 2 → b < 2 → min a b ≡ 1 → (a ≡ 1) × (b ≡ 1)
both_bits zero b k l e = absurd (omega arith)
both_bits (suc zero) b k l e = (refl, sym (one_min b l) ∙ e)
both_bits (suc (suc a)) b k l e = absurd (omega arith)

-- the intersection's bits
and_bit : (u v x : ℕ) → bit_and u v / 2 ^ x % 2 ≡ min (u / 2 ^ x % 2) (v / 2 ^ x % 2)
and_bit u v x =
    let a = u / 2 ^ x in
    let b = v / 2 ^ x in
    ap (λ n. n % 2) (and_shr u v x ∙ and_step a b) ∙
    low_bit (bit_and (a / 2) (b / 2)) (min (a % 2) (b % 2)) (min_bit (a % 2) (b % 2) (omega arith) (omega arith))

pub has_both : (u v x : ℕ) → Has u x → Has v x → Has (bit_and u v) x
has_both u v x h k = and_bit u v x ∙ rw (h, k) refl

pub has_and : (u v x : ℕ) → Has (bit_and u v) x → Has u x × Has v x
has_and u v x h = both_bits (u / 2 ^ x % 2) (v / 2 ^ x % 2) (omega arith) (omega arith) (sym (and_bit u v x) ∙ h)

-- bit y + 1 is bit y of the half
pub halved : (u y : ℕ) → u / 2 / 2 ^ y ≡ u / 2 ^ suc y
halved u y = let e : 1 + y ≡ suc y = omega arith in rw e at (shr-shr u 1 y)

-- of two words that have together all n bits, one or the other has bit x
complement_bit : (n x u v : ℕ) → x < n → u + v + 1 ≡ 2 ^ n → u / 2 ^ x % 2 + v / 2 ^ x % 2 ≡ 1
complement_bit zero x u v l e = absurd (omega arith)
complement_bit (suc n) zero u v l e = omega (arith, pow-suc 2 n)
complement_bit (suc n) (suc x) u v l e =
    rw (← halved u x, ← halved v x) (complement_bit n x (u / 2) (v / 2) (omega arith) (omega (arith, pow-suc 2 n)))

pub has_not : (v x : ℕ) → v < 65536 → x < 16 → (Has v x → ⊥) → Has (65535 - v) x
has_not v x b l n =
    let e = complement_bit 16 x (65535 - v) v l (omega arith) in
    let z : v / 2 ^ x % 2 ≡ 0 = let m : v / 2 ^ x % 2 ≢ 1 = n in omega arith in
    omega arith

pub not_has : (v x : ℕ) → v < 65536 → x < 16 → Has (65535 - v) x → Has v x → ⊥
not_has v x b l h k = let e = complement_bit 16 x (65535 - v) v l (omega arith) in omega arith

pub holds_both : {w : ℕ} {P Q : ℕ → Type 0} {u v : ℕ} → HoldsIn w P u → HoldsIn w Q v → HoldsIn w (λ x. P x × Q x) (bit_and u v)
holds_both {w} {P} {Q} {u} {v} a b =
    record {
      bound = and_lt w u v a.bound b.bound;
      below = λ x p. a.below x p.0;
      has = λ x p. has_both u v x (a.has x p.0) (b.has x p.1);
      only = λ x l h. let z = has_and u v x h in (a.only x l z.0, b.only x l z.1);
    }

pub holds_not : {P : ℕ → Type 0} {u : ℕ} → Holds P u → Holds (λ x. (x < 16) × (P x → ⊥)) (65535 - u)
holds_not {P} {u} a =
    let m : u < 65536 = a.bound in
    record {
      bound = omega arith;
      below = λ x p. p.0;
      has = λ x p. has_not u x m p.0 (λ h. p.1 (a.only x p.0 h));
      only = λ x l h. (l, λ p. not_has u x m l h (a.has x p));
    }

-- ---- all numbers below n

pub full_has : (n x : ℕ) → x < n → Has (2 ^ n - 1) x
full_has n x l =
    let e = complement_bit n x (2 ^ n - 1) 0 l (omega (arith, pow_pos n)) in
    let z : 0 / 2 ^ x ≡ 0 = div-eq_of_lt (pow_pos x) in
    omega arith

-- the word of n bits that has them all
full : (n u : ℕ) → u < 2 ^ n → ((x : ℕ) → x < n → Has u x) → u ≡ 2 ^ n - 1
full zero u b h = omega arith
full (suc n) u b h =
    let s = pow-suc 2 n in
    let low : u / 1 % 2 ≡ 1 = h 0 (omega arith) in
    let e = full n (u / 2) (omega arith) (λ x l. rw (halved u x) (h (suc x) (omega arith))) in
    omega (arith, pow_pos n)

-- The word of numbers below n tells whether it has them all.
module _ {w n : ℕ} {P : ℕ → Type 0} {u : ℕ} (a : HoldsIn w P u) (low : (x : ℕ) → P x → x < n) where
  narrow : u < 2 ^ n
  narrow =
      elim (ℕ_discrete u 0) [
        | yes e ↦ rw e (pow_pos n)
        | no z ↦
            let g = holds_greatest a z in
            let m : 2 ^ suc g.0 ≤ 2 ^ n = pow_mono (low g.0 g.4) in
            omega (arith, g.3)
      ]

  pub holds_full : ((x : ℕ) → x < n → P x) → u ≡ 2 ^ n - 1
  holds_full all = full n u narrow (λ x l. a.has x (all x l))

  pub full_holds : n ≤ w → u ≡ 2 ^ n - 1 → (x : ℕ) → x < n → P x
  full_holds k e x l = a.only x (omega arith) (rw e (full_has n x l))

-- ---- a set has one word

word_unique : (n u v : ℕ) → u < 2 ^ n → v < 2 ^ n → ((x : ℕ) → x < n → Has u x ↔ Has v x) → u ≡ v
word_unique zero u v l m f = omega arith
word_unique (suc n) u v l m f =
    let s = pow-suc 2 n in
    let h : u / 2 ≡ v / 2 =
    word_unique n (u / 2) (v / 2) (omega arith) (omega arith)
    (λ x q. let g = f (suc x) (omega arith) in rw (halved u x, halved v x) (g.0, g.1)) in
    let g = f 0 (omega arith) in
    let low : u % 2 ≡ v % 2 = elim (ℕ_discrete (u % 2) 1) [
      | yes e ↦ e ∙ sym (first v (g.0 (back u e)))
      | no e ↦ elim (ℕ_discrete (v % 2) 1) [ yes d ↦ absurd (e (first u (g.1 (back v d)))) | no d ↦ omega arith ]
    ] in
    omega arith
  where
    first : (x : ℕ) → Has x 0 → x % 2 ≡ 1
    first x h = let z : x / 1 % 2 ≡ 1 = h in omega arith

    back : (x : ℕ) → x % 2 ≡ 1 → Has x 0
    back x e = let z : x / 1 % 2 ≡ 1 = omega arith in z

pub holds_unique : {w : ℕ} {P : ℕ → Type 0} {u v : ℕ} → HoldsIn w P u → HoldsIn w P v → u ≡ v
holds_unique {w} {P} {u} {v} a b =
    word_unique w u v a.bound b.bound (λ x l. ((λ h. b.has x (a.only x l h)), λ h. a.has x (b.only x l h)))
