-- The most past each place, from the end; and the first of the candidates.
use mathlib.Core.Path.{◌≡◌, ◌∙◌}
use mathlib.Core.List.{List}
use Prim.Native.Nat.{ℕ, ◌-◌, ◌≤◌, ◌<◌, max}
use native.Mathlib.Omega.{arith}
use native.Mathlib.Decide.{ℕ_discrete, dec_le}
use lib.ListN.{length, get_or, set, length-set}
use lib.Seq.{get_or-set_same, get_or-set_other}
use Rattle.mealy.specs.Order.{Relation}
use Rattle.coder.specs.Limits.{max_side}
use Rattle.product.specs.Depth.{endless}
use Rattle.least.specs.Need.{MostPast}

-- ---- from the end to place f: `most` is the most from f on, and the places from f on are filled

pub record NeedsFrom (worst : List ℕ) (f : ℕ) (need : List ℕ) (most : ℕ) : Type 0 where
  pub size : length need ≡ 256
  pub past : MostPast worst f most
  pub filled : (a : ℕ) → f ≤ a → a < endless → MostPast worst a (get_or need a 0)

module _ {worst need : List ℕ} {f most : ℕ} (n : NeedsFrom worst f need most) (inside : f < 256) (some : 0 < f) where
  -- one place earlier the number at f counts too
  past_more : MostPast worst (f - 1) (max (get_or worst f 0) most)
  past_more =
      let p = n.past in
      record {
        upper = λ g l m. elim (ℕ_discrete g f) [
          | yes e ↦ rw e (omega arith)
          | no e ↦ omega (arith, p.upper g (omega arith) m)
        ];
        source = λ l. elim (dec_le (get_or worst f 0) most) [
          | yes e ↦ (let s = p.source (omega arith) in (s.0, omega (arith, s.1), s.2, omega (arith, s.3)))
          | no e ↦ (f, omega arith, inside, omega arith)
        ];
      }

  pub needs_more : {g x : ℕ} → g ≡ f → x ≡ max (get_or worst g 0) most → NeedsFrom worst (f - 1) (set need (f - 1) x) x
  needs_more {g} {x} z d = let e : x ≡ max (get_or worst f 0) most = rw z at d in record {
    size = length-set need (f - 1) x ∙ n.size;
    past = rw e past_more;
    filled = λ a l m. elim (ℕ_discrete a (f - 1)) [
      | yes z ↦ rw (z, get_or-set_same need (f - 1) x 0 (omega (arith, n.size)), e) past_more
      | no z ↦ rw (get_or-set_other need (f - 1) a x 0 z) (n.filled a (omega arith) m)
    ];
  }

-- ---- the first in R of the candidates of lookahead a to max_side

pub record FirstFrom (R : Relation) (need : List ℕ) (a before after : ℕ) : Type 0 where
  pub lookahead : after ≤ max_side
  pub finite : before < endless
  pub is : before ≡ get_or need after 0
  pub first : (c : ℕ) → a ≤ c → c ≤ max_side → get_or need c 0 < endless → R before after (get_or need c 0) c
