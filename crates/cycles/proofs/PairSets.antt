-- Sets of pairs, row by row: as they are made, united and parted.
use mathlib.Core.Path.{◌≡◌, refl, ◌∙◌}
use mathlib.Core.Logic.{◌⊎◌, inl, inr, ⊎_elim}
use mathlib.Core.Bool.{Bool, false}
use mathlib.Core.List.{List}
use Prim.Native.Nat.{ℕ, ◌+◌, ◌-◌, ◌*◌, ◌/◌, ◌%◌, ◌^◌, ◌<◌}
use native.Mathlib.Decide.{ℕ_discrete, dec_lt}
use native.Mathlib.Omega.{arith}
use lib.Bits.{bit_and, bit_or, and_lt, or_lt}
use lib.ListN.{length, get_or, set, replicate, get_or-eq_default}
use Rattle.mealy.specs.Word.{Has}
use Rattle.mealy.proofs.Words.{has_left, has_right, has_or, has_empty, has_both, has_and, has_not, not_has}
use Rattle.mealy.specs.Image.{Image}
use Rattle.mealy.proofs.OneMore.{next_below, more_image, image_cases}
use Rattle.mealy.proofs.Members.{has_below, Rest, IsPassed, rest_whole, none_passed, all_passed, rest_less, one_passed}
use Rattle.setting.specs.Members.{Least}
use Rattle.setting.specs.declared.inner.members.Members.{Members}
use Rattle.coder.proofs.Fill.{Filled, filled_none, filled_more, get_or_zeros}
use Rattle.cycles.specs.Successors.{In, Rows, word_at, WithBesides, FollowsRow, FollowsSet, ExactlyPairs, Parted}

-- the pairs of a set are pairs of numbers below 16
pub in_below : {s : List ℕ} → Rows s → (x y : ℕ) → In s x y → (x < 16) × (y < 16)
in_below {s} r x y h =
    elim (dec_lt x 16) [
      | yes l ↦ (l, has_below y (r.bound x) h)
      | no n ↦ absurd (has_empty y (rw (get_or-eq_default s 0 {n = x} (omega (arith, r.size))) at h))
    ]

-- no pair
pub rows_none : Rows (replicate 16 0)
rows_none = record { size = refl; bound = λ x. omega (arith, get_or_zeros 16 x) }

-- ---- one row after the other

rows_all :
    {f : ℕ → ℕ} {s r : List ℕ} {n : ℕ} → Filled 16 f s n r → n ≡ 16 → Rows s → ((x : ℕ) → f x < 65536) → Rows r
rows_all {n = n} a e b l =
    record {
      size = a.size;
      bound = λ x. elim (dec_lt x n) [ yes m ↦ rw (a.is x m) (l x) | no m ↦ rw (a.left x (omega arith)) (b.bound x) ];
    }

-- ---- a set with more pairs

-- the rows of s with those of g besides
abbrev pub besides : (ℕ → ℕ) → List ℕ → ℕ → ℕ
besides g s x = bit_or (get_or s x 0) (g x)

pub besides_all :
    {g : ℕ → ℕ} {s r : List ℕ} {n : ℕ} → Filled 16 (besides g s) s n r → n ≡ 16 → Rows s → ((x : ℕ) → g x < 65536) →
    WithBesides (λ x y. Has (g x) y) s r
besides_all {g} {s} {r} {n} a e b l =
    record {
      rows = rows_all a e b (λ x. or_lt 16 (get_or s x 0) (g x) (b.bound x) (l x));
      has = λ x y m. ⊎_elim
          (λ h. rw (a.is x (omega arith)) (has_left (get_or s x 0) (g x) y h))
          (λ h. rw (a.is x (omega arith)) (has_right (get_or s x 0) (g x) y h));
      only = λ x y m h. has_or (get_or s x 0) (g x) y (rw (a.is x (omega arith)) at h);
    }

besides_none : {P : ℕ → ℕ → Type 0} {s : List ℕ} → Rows s → ((x y : ℕ) → P x y → ⊥) → WithBesides P s s
besides_none b n = record { rows = b; has = λ x y l. ⊎_elim (λ h. h) (λ p. absurd (n x y p)); only = λ x y l h. inl h }

module _ {P Q : ℕ → ℕ → Type 0} (f : (x y : ℕ) → P x y → Q x y) (g : (x y : ℕ) → Q x y → P x y) where
  besides_map : {s r : List ℕ} → WithBesides P s r → WithBesides Q s r
  besides_map a =
      record {
        rows = a.rows;
        has = λ x y l. ⊎_elim (λ h. a.has x y l (inl h)) (λ q. a.has x y l (inr (g x y q)));
        only = λ x y l h. ⊎_elim (λ k. inl k) (λ p. inr (f x y p)) (a.only x y l h);
      }

  exactly_map : {r : List ℕ} → ExactlyPairs P r → ExactlyPairs Q r
  exactly_map a = record { rows = a.rows; has = λ x y l q. a.has x y l (g x y q); only = λ x y l h. f x y (a.only x y l h) }

module _ {P Q : ℕ → ℕ → Type 0} where
  besides_then : {s t r : List ℕ} → WithBesides P s t → WithBesides Q t r → WithBesides (λ x y. P x y ⊎ Q x y) s r
  besides_then a b =
      record {
        rows = b.rows;
        has = λ x y l. ⊎_elim
            (λ h. b.has x y l (inl (a.has x y l (inl h))))
            (⊎_elim (λ p. b.has x y l (inl (a.has x y l (inr p)))) (λ q. b.has x y l (inr q)));
        only = λ x y l h. ⊎_elim (λ k. ⊎_elim (λ i. inl i) (λ p. inr (inl p)) (a.only x y l k)) (λ q. inr (inr q)) (b.only x y l h);
      }

  exactly_then : {s t : List ℕ} → ExactlyPairs P s → WithBesides Q s t → ExactlyPairs (λ x y. P x y ⊎ Q x y) t
  exactly_then a b =
      record {
        rows = b.rows;
        has = λ x y l. ⊎_elim (λ p. b.has x y l (inl (a.has x y l p))) (λ q. b.has x y l (inr q));
        only = λ x y l h. ⊎_elim (λ k. inl (a.only x y l k)) (λ q. inr q) (b.only x y l h);
      }

-- ---- the successors of the pairs of a row

-- (x, y) follows some pair (u, v) with v in the set P
abbrev pub FollowsIn : List ℕ → ℕ → (ℕ → Type 0) → ℕ → ℕ → Type 0
FollowsIn words u P x = Image (λ v. Has (word_at words (16 * u + v) x)) P

-- r has the pairs of s and those that follow pairs of the row that are passed
pub record RowPassed (words : List ℕ) (u row : ℕ) (s r : List ℕ) (rest : ℕ) : Type 0 where
  pub left : Rest row rest
  pub passed : WithBesides (FollowsIn words u (IsPassed row rest)) s r

module _ {words : List ℕ} {u row : ℕ} {s : List ℕ} where
  pub row_none : row < 65536 → Rows s → RowPassed words u row s s row
  row_none l b = record { left = rest_whole l; passed = besides_none b (λ x. none_passed) }

  pub row_more :
      {t r : List ℕ} {m n : Members} {v : ℕ} → Least m v n → RowPassed words u row s t m.rest →
      WithBesides (λ x y. Has (word_at words (16 * u + v) x) y) t r → RowPassed words u row s r n.rest
  row_more q p w =
      let o = one_passed p.left q.some in
      rw q.left
      (record {
        left = rest_less p.left q.some;
        passed = besides_map (λ x. more_image o) (λ x. image_cases o) (besides_then p.passed (rw q.least at w));
      })

  pub row_all : {r : List ℕ} {rest : ℕ} → RowPassed words u row s r rest → rest ≡ 0 → WithBesides (FollowsRow words u row) s r
  row_all p e =
      besides_map (λ x y i. record { v = i.s; within = i.from.member; word = i.step })
      (λ x y f. record { s = f.v; from = all_passed e f.v f.within; step = f.word })
      p.passed

-- ---- the successors of the pairs of a set

-- the pairs that some u below n gives
abbrev pub SomeBelow : (ℕ → ℕ → ℕ → Type 0) → ℕ → ℕ → ℕ → Type 0
SomeBelow F n x = Image (λ u. F u x) (λ u. u < n)

module _ {F : ℕ → ℕ → ℕ → Type 0} where
  pub image_none : {r : List ℕ} → Rows r → ((x : ℕ) → get_or r x 0 ≡ 0) → ExactlyPairs (SomeBelow F 0) r
  image_none b z = record {
    rows = b;
    has = λ x y l i. let m = i.from in absurd (omega arith);
    only = λ x y l h. absurd (has_empty y (rw (z x) at h));
  }

  pub image_more : {t r : List ℕ} {n : ℕ} → ExactlyPairs (SomeBelow F n) t → WithBesides (F n) t r → ExactlyPairs (SomeBelow F (n + 1)) r
  image_more a w = exactly_map (λ x. more_image (next_below refl)) (λ x. image_cases (next_below refl)) (exactly_then a w)

pub image_all :
    {words s r : List ℕ} {n : ℕ} → ExactlyPairs (SomeBelow (λ u. FollowsRow words u (get_or s u 0)) n) r →
    ExactlyPairs (FollowsSet words n s) r
image_all =
    exactly_map (λ x y i. record { u = i.s; below = i.from; row = i.step })
    (λ x y f. record { s = f.u; from = f.below; step = f.row })

-- ---- what one set has and another has not

-- the second states of the pairs (x, y) that are in `to` and not in `seen`
abbrev pub fresh_row : List ℕ → List ℕ → ℕ → ℕ
fresh_row to seen x = bit_and (get_or to x 0) (65535 - get_or seen x 0)

-- the first n rows of both sets are parted
pub record RowsParted (to seen to' seen' : List ℕ) (n : ℕ) : Type 0 where
  pub fresh : Filled 16 (fresh_row to seen) to n to'
  pub more : Filled 16 (besides (fresh_row to seen) seen) seen n seen'

module _ {to seen : List ℕ} where
  pub parted_none : length to ≡ 16 → length seen ≡ 16 → RowsParted to seen to seen 0
  parted_none d e = record { fresh = filled_none d; more = filled_none e }

  pub parted_more :
      {to' seen' : List ℕ} {n v w : ℕ} → RowsParted to seen to' seen' n → n < 16 →
      v ≡ bit_and (get_or to' n 0) (65535 - get_or seen' n 0) → w ≡ bit_or (get_or seen' n 0) v →
      RowsParted to seen (set to' n v) (set seen' n w) (n + 1)
  parted_more {to'} {seen'} {n} {v} {w} a l e f =
      let q : v ≡ fresh_row to seen n = e ∙ rw (a.fresh.left n (omega arith), a.more.left n (omega arith)) refl in
      record {
        fresh = filled_more a.fresh l q;
        more = filled_more a.more l (f ∙ rw (q, a.more.left n (omega arith)) refl);
      }

  module _ (b : Rows to) (d : Rows seen) where
    fresh_low : (x : ℕ) → fresh_row to seen x < 65536
    fresh_low x = and_lt 16 (get_or to x 0) (65535 - get_or seen x 0) (b.bound x) (omega arith)

    has_fresh : (x y : ℕ) → In to x y → (In seen x y → ⊥) → Has (fresh_row to seen x) y
    has_fresh x y h n =
        has_both (get_or to x 0) (65535 - get_or seen x 0) y h (has_not (get_or seen x 0) y (d.bound x) (has_below y (b.bound x) h) n)

    fresh_has : (x y : ℕ) → Has (fresh_row to seen x) y → In to x y × (In seen x y → ⊥)
    fresh_has x y h =
        let k = has_and (get_or to x 0) (65535 - get_or seen x 0) y h in
        (k.0, not_has (get_or seen x 0) y (d.bound x) (has_below y (b.bound x) k.0) k.1)

    pub parted_all :
        {to' seen' : List ℕ} {r : Bool} {n : ℕ} → RowsParted to seen to' seen' n → n ≡ 16 →
        (r ≡ false → (x : ℕ) → x < 16 → get_or to' x 0 ≡ 0) → Parted to seen to' seen' r
    parted_all {to'} {seen'} {r} {n} a e z =
        let w = besides_all a.more e d fresh_low in
        record {
          fresh = record {
            rows = rows_all a.fresh e b fresh_low;
            has = λ x y l h. rw (a.fresh.is x (omega arith)) (has_fresh x y h.0 h.1);
            only = λ x y l h. fresh_has x y (rw (a.fresh.is x (omega arith)) at h);
          };
          more = record {
            rows = w.rows;
            has = λ x y l. ⊎_elim
                (λ h. w.has x y l (inl h))
                (λ h. elim (ℕ_discrete (get_or seen x 0 / 2 ^ y % 2) 1) [
                  | yes k ↦ w.has x y l (inl k)
                  | no k ↦ w.has x y l (inr (has_fresh x y h k))
                ]);
            only = λ x y l h. ⊎_elim (λ k. inl k) (λ k. inr (fresh_has x y k).0) (w.only x y l h);
          };
          some = λ q x y l h. has_empty y (rw (z q x l) at h);
        }
