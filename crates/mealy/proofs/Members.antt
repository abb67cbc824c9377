-- The members of a set one after the other: the least one, by the zeros below it, the word without it, which are passed, and unions over them.
use mathlib.Core.Path.{◌≡◌, refl, sym, ap, ◌∙◌}
use mathlib.Core.Logic.{◌≢◌, inl, inr}
use Prim.Native.Nat.{ℕ, zero, suc, ◌-◌, ◌*◌, ◌/◌, ◌%◌, ◌^◌, ◌<◌}
use native.Mathlib.Decide.{ℕ_discrete, dec_lt}
use native.Mathlib.Nat.{pow-suc, div-eq_of_lt, lt_of_lt_of_le}
use native.Mathlib.Omega.{arith}
use lib.Bits.{bit_and, bit_or, and_step, and_self}
use lib.Count.{count_trailing_zeros}
use lib.Pow.{pow_mono}
use Rattle.mealy.specs.Word.{Has, Holds}
use Rattle.mealy.specs.Image.{Image}
use Rattle.mealy.proofs.Words.{holds_map, holds_none, has_empty, halved}
use Rattle.mealy.proofs.Images.{image_within}
use Rattle.mealy.proofs.OneMore.{OneMore, holds_more}

-- x is in the set of the word u, and v is the word of the others
pub record Taken (u x v : ℕ) : Type 0 where
  pub member : Has u x
  pub less : v < u
  pub others : (y : ℕ) → Has u y → y ≢ x → Has v y
  pub was : (y : ℕ) → Has v y → Has u y
  pub other : (y : ℕ) → Has v y → y ≢ x

has_half : (u y : ℕ) → Has u (suc y) → Has (u / 2) y
has_half u y h = ap (λ n. n % 2) (halved u y) ∙ h

half_has : (u y : ℕ) → Has (u / 2) y → Has u (suc y)
half_has u y h = sym (ap (λ n. n % 2) (halved u y)) ∙ h

-- an odd number, without its lowest bit
taken_odd : (u v : ℕ) → u % 2 ≡ 1 → v ≡ u / 2 * 2 → Taken u 0 v
taken_odd u v o e =
    let half : v / 2 ≡ u / 2 = omega arith in
    record {
      member = omega arith;
      less = omega arith;
      others = kept half;
      was = was half;
      other = other;
    }
  where
    kept : v / 2 ≡ u / 2 → (y : ℕ) → Has u y → y ≢ 0 → Has v y
    kept half zero h n = absurd (n refl)
    kept half (suc y) h n = half_has v y (rw half (has_half u y h))

    was : v / 2 ≡ u / 2 → (y : ℕ) → Has v y → Has u y
    was half zero h = absurd (omega arith)
    was half (suc y) h = half_has u y (rw half at (has_half v y h))

    other : (y : ℕ) → Has v y → y ≢ 0
    other zero h n = omega arith
    other (suc y) h n = omega arith

-- an even number, by its half
taken_even : (u v x w : ℕ) → u % 2 ≡ 0 → v ≡ w * 2 → Taken (u / 2) x w → Taken u (suc x) v
taken_even u v x w o e t =
    let half : v / 2 ≡ w = omega arith in
    record {
      member = half_has u x t.member;
      less = omega (arith, t.less);
      others = kept half;
      was = was half;
      other = other half;
    }
  where
    kept : v / 2 ≡ w → (y : ℕ) → Has u y → y ≢ suc x → Has v y
    kept half zero h n = absurd (omega arith)
    kept half (suc y) h n = half_has v y (rw half (t.others y (has_half u y h) (λ (q : y ≡ x). n (ap suc q))))

    was : v / 2 ≡ w → (y : ℕ) → Has v y → Has u y
    was half zero h = absurd (omega arith)
    was half (suc y) h = half_has u y (t.was y (rw half at (has_half v y h)))

    other : v / 2 ≡ w → (y : ℕ) → Has v y → y ≢ suc x
    other half zero h q = omega arith
    other half (suc y) h q = t.other y (rw half at (has_half v y h)) (omega arith)

pub record LeastMember (k u : ℕ) : Type 0 where
  pub below : count_trailing_zeros k u < k
  pub taken : Taken u (count_trailing_zeros k u) (bit_and u (u - 1))

pub least_member : (k u : ℕ) → u < 2 ^ k → u ≢ 0 → LeastMember k u
unfolding count_trailing_zeros
least_member zero u l n = absurd (n (omega arith))
least_member (suc k) u l n =
    elim (ℕ_discrete (u % 2) 0) [
      | yes z ↦
          let h = least_member k (u / 2) (omega (arith, pow-suc 2 k)) (λ (q : u / 2 ≡ 0). n (omega arith)) in
          let e : (u - 1) / 2 ≡ u / 2 - 1 = omega arith in
          let f : (u - 1) % 2 ≡ 1 = omega arith in
          let v : bit_and u (u - 1) ≡ bit_and (u / 2) (u / 2 - 1) * 2 = and_step u (u - 1) ∙ rw (z, e, f) (omega arith) in
          record { below = rw z (omega (arith, h.below)); taken = rw z (taken_even u _ _ _ z v h.taken) }
      | no z ↦
          let o : u % 2 ≡ 1 = omega arith in
          let e : (u - 1) / 2 ≡ u / 2 = omega arith in
          let f : (u - 1) % 2 ≡ 0 = omega arith in
          let v : bit_and u (u - 1) ≡ u / 2 * 2 = and_step u (u - 1) ∙ rw (o, e, f, and_self (u / 2)) (omega arith) in
          record { below = rw o (omega arith); taken = rw o (taken_odd u _ o v) }
    ]

-- ---- a loop over the members of a set

pub has_below : {u : ℕ} (x : ℕ) → u < 65536 → Has u x → x < 16
has_below {u} x l h =
    elim (dec_lt x 16) [
      | yes m ↦ m
      | no m ↦
          let z : u / 2 ^ x ≡ 0 = div-eq_of_lt (lt_of_lt_of_le {m = 65536} l (pow_mono {i = 16} {j = x} (omega arith))) in
          absurd (omega arith)
    ]

pub holds_member : {P : ℕ → Type 0} {u : ℕ} → Holds P u → (x : ℕ) → Has u x → P x
holds_member a x h = a.only x (has_below x a.bound h) h

pub holds_itself : {u : ℕ} → u < 65536 → Holds (Has u) u
holds_itself l = record { bound = l; below = λ x h. has_below x l h; has = λ x h. h; only = λ x m h. h }

-- Of a set, those members are passed that are not in the rest.
pub record Rest (set rest : ℕ) : Type 0 where
  pub bound : rest < 65536
  pub within : (s : ℕ) → Has rest s → Has set s

pub record IsPassed (set rest s : ℕ) : Type 0 where
  pub member : Has set s
  pub past : Has rest s → ⊥

pub rest_whole : {set : ℕ} → set < 65536 → Rest set set
rest_whole l = record { bound = l; within = λ s h. h }

pub none_passed : {Q : ℕ → ℕ → Type 0} {set : ℕ} (y : ℕ) → Image Q (IsPassed set set) y → ⊥
none_passed y i = i.from.past i.from.member

pub all_passed : {set rest : ℕ} → rest ≡ 0 → (s : ℕ) → Has set s → IsPassed set rest s
all_passed e s h = record { member = h; past = λ k. has_empty s (rw e at k) }

module _ {set rest : ℕ} (a : Rest set rest) (n : rest ≢ 0) where
  pub rest_less : Rest set (bit_and rest (rest - 1))
  rest_less =
      let t = (least_member 16 rest a.bound n).taken in
      record { bound = omega (arith, t.less, a.bound); within = λ s k. a.within s (t.was s k) }

  pub one_passed : OneMore (IsPassed set rest) (count_trailing_zeros 16 rest) (IsPassed set (bit_and rest (rest - 1)))
  one_passed =
      let x = count_trailing_zeros 16 rest in
      let t = (least_member 16 rest a.bound n).taken in
      record {
        was = λ s p. record { member = p.member; past = λ k. p.past (t.was s k) };
        new = record { member = a.within x t.member; past = λ k. t.other x k refl };
        only = λ s p. elim (ℕ_discrete s x) [
          | yes e ↦ inr e
          | no d ↦ inl (record { member = p.member; past = λ k. p.past (t.others s k d) })
        ];
      }

-- the union so far
pub record Passed (set rest : ℕ) (Q : ℕ → ℕ → Type 0) (so_far : ℕ) : Type 0 where
  pub left : Rest set rest
  pub holds : Holds (Image Q (IsPassed set rest)) so_far

pub passed_none : {set : ℕ} {Q : ℕ → ℕ → Type 0} → set < 65536 → Passed set set Q 0
passed_none l = record { left = rest_whole l; holds = holds_none none_passed }

pub passed_more :
    {set rest so_far v : ℕ} {Q : ℕ → ℕ → Type 0} → Passed set rest Q so_far → rest ≢ 0 → Holds (Q (count_trailing_zeros 16 rest)) v →
    Passed set (bit_and rest (rest - 1)) Q (bit_or so_far v)
passed_more a n h = record { left = rest_less a.left n; holds = holds_more (one_passed a.left n) a.holds h }

pub passed_all :
    {set rest so_far : ℕ} {Q : ℕ → ℕ → Type 0} → Passed set rest Q so_far → rest ≡ 0 → Holds (Image Q (Has set)) so_far
passed_all a e =
    holds_map (image_within (λ s y q. q) (λ s p. p.member)) (image_within (λ s y q. q) (all_passed e)) a.holds
