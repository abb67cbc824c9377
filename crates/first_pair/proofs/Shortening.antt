-- A walk of the product machine that meets a pair twice can be shortened.
use mathlib.Core.Path.{◌≡◌, refl, sym, ap, ◌∙◌}
use Prim.Native.Nat.{ℕ, suc, ◌+◌, ◌*◌, ◌≤◌, ◌<◌, ◌-◌, ◌/◌, ◌%◌}
use native.Mathlib.Omega.{arith}
use native.Mathlib.Decide.{dec_le, dec_lt}
use lib.Arith.{digits_lt, digits_div, digits_mod}
use Rattle.mealy.specs.Machine.{Machine}
use Rattle.mealy.proofs.Pigeonhole.{pigeonhole}
use Rattle.first_pair.specs.Reach.{Reach, At, Cycle}
use Rattle.first_pair.proofs.Reaching.{reach_append, reach_end}

-- the pairs of a walk of L letters, place by place
module _ (M : Machine) (N L : ℕ) (σ τ : ℕ → ℕ)
    (segment : (n a b : ℕ) → a + n ≡ b → b ≤ L → Reach M (At (σ b) (τ b)) n (σ a) (τ a))
    (small : (k : ℕ) → k ≤ L → (σ k < N) × (τ k < N)) where
  -- two of N × N + 1 places have the same pair
  pub record Twice (ι : ℕ → ℕ) : Type 0 where
    pub i : ℕ
    pub j : ℕ
    pub less : i < j
    pub most : j ≤ N * N
    pub same₁ : σ (ι i) ≡ σ (ι j)
    pub same₂ : τ (ι i) ≡ τ (ι j)

  pub twice : (ι : ℕ → ℕ) → ((k : ℕ) → k ≤ N * N → ι k ≤ L) → Twice ι
  twice ι inside =
      let b : (k : ℕ) → k ≤ N * N → (σ (ι k) < N) × (τ (ι k) < N) = λ k l. small (ι k) (inside k l) in
      let r = pigeonhole (N * N) (λ k. σ (ι k) * N + τ (ι k)) (λ k l. digits_lt (b k l).0 (b k l).1) in
      let x = (b r.0 (omega arith)).1 in
      let y = (b r.1 (omega arith)).1 in
      record {
        i = r.0;
        j = r.1;
        less = r.2;
        most = r.3;
        same₁ = sym (digits_div (σ (ι r.0)) x) ∙ ap (λ z. z / N) r.4 ∙ digits_div (σ (ι r.1)) y;
        same₂ = sym (digits_mod (σ (ι r.0)) x) ∙ ap (λ z. z % N) r.4 ∙ digits_mod (σ (ι r.1)) y;
      }

  -- the letters between two places with the same pair left out
  pub skip : (m k n from a b to : ℕ) → from + m ≡ a → b + k ≡ to → m + k ≡ n → a ≤ L → to ≤ L → σ a ≡ σ b → τ a ≡ τ b
      → Reach M (At (σ to) (τ to)) n (σ from) (τ from)
  skip m k n from a b to e f g l l' s t =
      reach_append M (At (σ to) (τ to)) m k n (σ from) (τ from) (σ a) (τ a) g (segment m from a e l) (rw (s, t) (segment k b to f l'))

  -- ---- a loop of bl letters and li after it

  -- Of a loop at place 0 and letters after it to the place `mark`: a shorter loop, or fewer letters after it, perhaps from
  -- another place.
  pub record FewerBefore (mark b : ℕ) : Type 0 where
    pub at : ℕ
    pub bl : ℕ
    pub li : ℕ
    pub inside : at ≤ L
    pub loop : Cycle M bl (σ at) (τ at)
    pub on : Reach M (At (σ mark) (τ mark)) li (σ at) (τ at)
    pub fewer : bl + li < b

  module _ (bl li mark : ℕ) (sum : bl + li ≡ mark) (inside : mark ≤ L) (letter : 0 < bl) (closed₁ : σ bl ≡ σ 0) (closed₂ : τ bl ≡ τ 0) where
    -- two places past the first
    before_case : (a b : ℕ) → 0 < a → a < b → b ≤ mark → σ a ≡ σ b → τ a ≡ τ b → FewerBefore mark mark
    before_case a b n l m s t = elim (dec_le b bl) [
      | yes c ↦ record {
        at = 0;
        bl = a + (bl - b);
        li = li;
        inside = omega arith;
        loop = record {
          letter = omega arith;
          closed = rw (closed₁, closed₂) at (skip a (bl - b) (a + (bl - b)) 0 a b bl (omega arith) (omega arith) refl (omega arith) (omega arith) s t);
        };
        on = rw (closed₁, closed₂) at (segment li bl mark sum inside);
        fewer = omega arith;
      }
      | no c ↦ elim (dec_le a bl) [
        | yes d ↦ record {
          at = a;
          bl = bl;
          li = mark - b;
          inside = omega arith;
          loop = record {
            letter = letter;
            closed = reach_append M (At (σ a) (τ a)) (bl - a) a bl (σ a) (τ a) (σ 0) (τ 0) (omega arith)
                (rw (closed₁, closed₂) at (segment (bl - a) a bl (omega arith) (omega arith))) (segment a 0 a (omega arith) (omega arith));
          };
          on = rw (s, t) (segment (mark - b) b mark (omega arith) inside);
          fewer = omega arith;
        }
        | no d ↦ record {
          at = 0;
          bl = bl;
          li = (a - bl) + (mark - b);
          inside = omega arith;
          loop = record { letter = letter; closed = rw (closed₁, closed₂) at (segment bl 0 bl (omega arith) (omega arith)) };
          on = rw (closed₁, closed₂) at (skip (a - bl) (mark - b) ((a - bl) + (mark - b)) bl a b mark (omega arith) (omega arith) refl (omega arith) inside s t);
          fewer = omega arith;
        }
      ]
    ]

    pub fewer_before : N * N < mark → FewerBefore mark mark
    fewer_before long =
        let w = twice suc (λ k l. omega arith) in
        before_case (suc w.i) (suc w.j) (omega arith) (omega (arith, w.less)) (omega (arith, w.most)) w.same₁ w.same₂

  -- ---- lo letters and a loop of fl after them

  -- Of letters from the place `from` to a loop: fewer, or a shorter loop.
  pub record FewerAfter (from b : ℕ) : Type 0 where
    pub lo : ℕ
    pub fl : ℕ
    pub on : Reach M (Cycle M fl) lo (σ from) (τ from)
    pub fewer : lo + fl < b

  module _ (lo fl from mid to : ℕ) (sum : from + lo ≡ mid) (sum' : mid + fl ≡ to) (inside : to ≤ L) (letter : 0 < fl)
      (closed₁ : σ to ≡ σ mid) (closed₂ : τ to ≡ τ mid) where
    after_case : (a b : ℕ) → from ≤ a → a < b → b < to → σ a ≡ σ b → τ a ≡ τ b → FewerAfter from (lo + fl)
    after_case a b n l m s t = elim (dec_le b mid) [
      | yes c ↦ record {
        lo = (a - from) + (mid - b);
        fl = fl;
        on = reach_end M (Cycle M fl) ((a - from) + (mid - b)) (σ from) (τ from) (σ mid) (τ mid)
            (skip (a - from) (mid - b) ((a - from) + (mid - b)) from a b mid (omega arith) (omega arith) refl (omega arith) (omega arith) s t)
            (record { letter = letter; closed = rw (closed₁, closed₂) at (segment fl mid to sum' inside) });
        fewer = omega arith;
      }
      | no c ↦ elim (dec_lt a mid) [
        | yes d ↦ record {
          lo = a - from;
          fl = fl;
          on = reach_end M (Cycle M fl) (a - from) (σ from) (τ from) (σ a) (τ a)
              (segment (a - from) from a (omega arith) (omega arith))
              (record {
                letter = letter;
                closed = rw (s, t) (reach_append M (At (σ b) (τ b)) (to - b) (b - mid) fl (σ b) (τ b) (σ mid) (τ mid) (omega arith)
                    (rw (closed₁, closed₂) at (segment (to - b) b to (omega arith) inside)) (segment (b - mid) mid b (omega arith) (omega arith)));
              });
          fewer = omega arith;
        }
        | no d ↦ record {
          lo = lo;
          fl = (a - mid) + (to - b);
          on = reach_end M (Cycle M ((a - mid) + (to - b))) lo (σ from) (τ from) (σ mid) (τ mid)
              (segment lo from mid sum (omega arith))
              (record {
                letter = omega arith;
                closed = rw (closed₁, closed₂) at (skip (a - mid) (to - b) ((a - mid) + (to - b)) mid a b to (omega arith) (omega arith) refl (omega arith) inside s t);
              });
          fewer = omega arith;
        }
      ]
    ]

    pub fewer_after : N * N < lo + fl → FewerAfter from (lo + fl)
    fewer_after long =
        let w = twice (λ k. from + k) (λ k l. omega arith) in
        after_case (from + w.i) (from + w.j) (omega arith) (omega (arith, w.less)) (omega (arith, w.most)) w.same₁ w.same₂
