-- The chains of the entries below place p, one entry at a time.
use mathlib.Core.Path.{◌≡◌, refl, sym, ap, ◌∙◌}
use mathlib.Core.Bool.{Bool, true, false, cond}
use mathlib.Core.List.{List}
use Prim.Native.Nat.{ℕ, ◌+◌, ◌*◌, ◌≤◌, ◌<◌}
use native.Mathlib.Numerals.{add-one}
use native.Mathlib.Omega.{arith}
use native.Mathlib.Decide.{ℕ_discrete, dec_lt}
use lib.ListN.{length, get_or, set, replicate, length-set, get_or-replicate}
use lib.Seq.{get_or-set_same, get_or-set_other}
use borrow.Author.Tests.{eq-eqb, ne_eqb}
use Rattle.chains.specs.Chain.{is_entry, has_key, last_below, Chained}
use Rattle.chains.specs.declared.inner.Chain.{Chain}
use Rattle.coder.proofs.Refusals.{true_false}
use Rattle.chains.proofs.Chains.{last_skip}
use Rattle.chains.proofs.Entries.{past_states, no_key, key_test}

module _ (keys : List ℕ) (n i : ℕ) where
  -- the chains of the entries below place p
  pub record ChainedBelow (p : ℕ) (last previous : List ℕ) : Type 0 where
    pub size_last : length last ≡ 64
    pub size_previous : length previous ≡ 256
    pub last_is : (k : ℕ) → k < 64 → get_or last k 0 ≡ last_below (has_key keys n i k) p
    pub previous_is : (q : ℕ) → q < p → is_entry n i q ≡ true → get_or previous q 0 ≡ last_below (has_key keys n i (get_or keys q 0)) q

  pub below_none : ChainedBelow 0 (replicate 64 0) (replicate 256 0)
  unfolding last_below
  below_none = record {
    size_last = refl;
    size_previous = refl;
    last_is = λ k l. get_or-replicate {A = ℕ} 64 k 0 0 l;
    previous_is = λ q l e. absurd (omega arith);
  }

  step_last :
      (k p : ℕ) (b : Bool) → has_key keys n i k p ≡ b →
      last_below (has_key keys n i k) (p + 1) ≡ cond b (p + 1) (last_below (has_key keys n i k) p)
  unfolding last_below
  step_last k p b e = rw (add-one, e)

  module _ {p : ℕ} {last previous : List ℕ} (c : ChainedBelow p last previous) where
    -- a place with no entry
    pub below_skip : is_entry n i p ≡ false → ChainedBelow (p + 1) last previous
    below_skip e = record {
      size_last = c.size_last;
      size_previous = c.size_previous;
      last_is = λ k l. c.last_is k l ∙ sym (step_last k p false (no_key keys n i k p e));
      previous_is = λ q l f. elim (ℕ_discrete q p) [
        | yes g ↦ absurd (true_false (rw g at f) e)
        | no g ↦ c.previous_is q (omega arith) f
      ];
    }

    -- an entry with the key k
    pub below_more : (k : ℕ) → is_entry n i p ≡ true → k ≡ get_or keys p 0 → k < 64 → p < 256 →
        ChainedBelow (p + 1) (set last k (p + 1)) (set previous p (get_or last k 0))
    below_more k e f l m = record {
      size_last = length-set last k (p + 1) ∙ c.size_last;
      size_previous = length-set previous p (get_or last k 0) ∙ c.size_previous;
      last_is = λ j lj. elim (ℕ_discrete j k) [
        | yes g ↦ rw g
            (get_or-set_same last k (p + 1) 0 (omega (arith, c.size_last)) ∙
            sym (step_last k p true (key_test keys n i k p e ∙ eq-eqb _ _ (sym f))))
        | no g ↦
            get_or-set_other last k j (p + 1) 0 g ∙ c.last_is j lj ∙
            sym (step_last j p false (key_test keys n i j p e ∙ ne_eqb _ _ (λ z. g (sym (f ∙ z)))))
      ];
      previous_is = λ q lq fq. elim (ℕ_discrete q p) [
        | yes g ↦ rw g
            (get_or-set_same previous p (get_or last k 0) 0 (omega (arith, c.size_previous)) ∙ c.last_is k l ∙
            ap (λ j. last_below (has_key keys n i j) p) f)
        | no g ↦ get_or-set_other previous p q (get_or last k 0) 0 g ∙ c.previous_is q (omega arith) fq
      ];
    }

  pub below_all : (p : ℕ) (c : Chain) → p ≡ 16 * n → n ≤ 16 → ChainedBelow p c.last c.previous → Chained keys n i c
  below_all p c e l b = record {
    last =
        λ k lk. b.last_is k lk ∙ sym
        (last_skip (has_key keys n i k) p 256 (omega arith) (λ q lq _. no_key keys n i k q (past_states n i q (omega arith))));
    previous = λ q lq f. elim (dec_lt q p) [
      | yes m ↦ b.previous_is q m f
      | no m ↦ absurd (true_false f (past_states n i q (omega arith)))
    ];
  }
