-- The search for an edge of a pair whose far ends stand, from one edge to the next.
use mathlib.Core.Path.{◌≡◌, ap, ◌∙◌}
use mathlib.Core.Bool.{Bool, true, false, ◌&&◌}
use mathlib.Core.List.{List}
use Prim.Native.Nat.{ℕ, suc, ◌-◌, ◌≤◌, ◌<◌}
use native.Mathlib.Omega.{arith}
use native.Mathlib.Decide.{ℕ_discrete}
use lib.ListN.{get_or}
use lib.Dec.{ltb, eqb}
use borrow.Author.Tests.{eq-eqb, lt-ltb, eqb-true, ltb-true}
use Rattle.mealy.specs.Product.{Direction}
use Rattle.coder.proofs.Refusals.{both_true}
use Rattle.coder.specs.Table.{Sound}
use Rattle.coder.specs.declared.inner.tables.Coder.{Coder}
use Rattle.chains.specs.Chain.{has_key, last_below}
use Rattle.chains.specs.declared.inner.Chain.{Chain}
use Rattle.coder.proofs.Refusals.{true_false}
use Rattle.chains.proofs.Chains.{last_bound, last_passes, last_above}
use Rattle.chains.proofs.Entries.{has_key_lem, key_entry}
use Rattle.product.specs.Entries.{near_ends, far, Joins, ArraysOf}
use Rattle.product.specs.Depth.{at}
use Rattle.product.specs.Rounds.{OnChain, Above, Seeking, Sought, NoEdge}
use Rattle.product.proofs.Entries.{entry_below, far_below}

module _ (c : Coder) (d : Direction) (sound : Sound c) where
  abbrev Key : ℕ → ℕ → Bool
  Key u p = has_key (near_ends d c) c.states c.inputs u p

  -- the last entry below p with the near end u
  pub chain_last : (u p : ℕ) → p ≤ 256 → OnChain c d u (last_below (Key u) p)
  chain_last u p l = record {
    high = omega (arith, last_bound (Key u) p);
    entry = λ q e. last_passes (Key u) p q e;
  }

  module _ {chain : Chain} {far' : List ℕ} (arrays : ArraysOf c d chain far') where
    -- the array `last` at a near end, and `previous` at an entry
    pub last_is : (u : ℕ) → u < 64 → get_or chain.last u 0 ≡ last_below (Key u) 256
    last_is u l = arrays.chained.last u l

    pub previous_is : (u p : ℕ) → Key u p ≡ true → get_or chain.previous p 0 ≡ last_below (Key u) p
    previous_is u p e =
        let k = key_entry _ _ _ u p e in
        arrays.chained.previous p (entry_below c sound p k.0) k.0 ∙ ap (λ w. last_below (Key w) p) k.1

  module _ (P : ℕ → ℕ → Type 0) {u v x y : ℕ} (k : Seeking c d P u v x y) where
    -- both chains are passed: the next first entry, with the second chain from its end
    pub seek_row : (p : ℕ) → x ≡ suc p → y ≡ 0 → Seeking c d P u v (last_below (Key u) p) (last_below (Key v) 256)
    seek_row p e f =
        let h = k.on₁.high in
        record {
          column = k.column;
          on₁ = chain_last u p (omega arith);
          on₂ = chain_last v 256 (omega arith);
          none_before = record {
            first = λ a b j s. last_above (Key u) a p (has_key_lem _ _ _ u a j.entry₁ j.near₁) (earlier a b j s);
            second = λ a b j s g. last_above (Key v) b 256 (has_key_lem _ _ _ v b j.entry₂ j.near₂) (entry_below c sound b j.entry₂);
          };
        }
      where
        earlier : (a b : ℕ) → Joins c d u v a b → P (far d c a) (far d c b) → a < p
        earlier a b j s =
            let l = k.none_before.first a b j s in
            elim (ℕ_discrete (suc a) x) [ yes g ↦ absurd (omega (arith, k.none_before.second a b j s g)) | no g ↦ omega arith ]

    -- an edge that does not stand is passed
    pub seek_next :
        (p q : ℕ) → x ≡ suc p → y ≡ suc q → (Joins c d u v p q → P (far d c p) (far d c q) → ⊥) →
        Seeking c d P u v x (last_below (Key v) q)
    seek_next p q e f none =
        let h = k.on₂.high in
        record {
          column = k.column;
          on₁ = k.on₁;
          on₂ = chain_last v q (omega arith);
          none_before = record {
            first = k.none_before.first;
            second = λ a b j s g. last_above (Key v) b q (has_key_lem _ _ _ v b j.entry₂ j.near₂) (earlier a b j s g);
          };
        }
      where
        earlier : (a b : ℕ) → Joins c d u v a b → P (far d c a) (far d c b) → suc a ≡ x → b < q
        earlier a b j s g =
            let l = k.none_before.second a b j s g in
            let i : a ≡ p = omega arith in
            elim (ℕ_discrete b q) [ yes m ↦ absurd (none (rw (i, m) at j) (rw (i, m) at s)) | no m ↦ omega arith ]

    -- the entries at which the search stands
    pub seek_joins : (p q : ℕ) → x ≡ suc p → y ≡ suc q → get_or c.output p 0 ≡ get_or c.output q 0 → Joins c d u v p q
    seek_joins p q e f o =
        let a = key_entry _ _ _ u p (k.on₁.entry p e) in
        let b = key_entry _ _ _ v q (k.on₂.entry q f) in
        record { entry₁ = a.0; entry₂ = b.0; near₁ = a.1; near₂ = b.1; output = o }

    -- nothing is left
    pub seek_none : x ≡ 0 → NoEdge c d P u v
    seek_none e p q j s = omega (arith, k.none_before.first p q j s)

-- ---- the same on the arrays

module _ {c : Coder} {d : Direction} {chain : Chain} {far' : List ℕ} (arrays : ArraysOf c d chain far')
    {P : ℕ → ℕ → Type 0} {u v x y : ℕ} (k : Seeking c d P u v x y) where
  next_first : {p : ℕ} → 0 < x → p ≡ x - 1 → get_or chain.previous p 0 ≡ last_below (Key c d arrays.sound u) p
  next_first {p} l e = previous_is c d arrays.sound arrays u p (k.on₁.entry p (omega arith))

  next_second : {q : ℕ} → 0 < y → q ≡ y - 1 → get_or chain.previous q 0 ≡ last_below (Key c d arrays.sound v) q
  next_second {q} l e = previous_is c d arrays.sound arrays v q (k.on₂.entry q (omega arith))

  pub first_less : {p : ℕ} → 0 < x → p ≡ x - 1 → get_or chain.previous p 0 < x
  first_less {p} l e = omega (arith, next_first l e, last_bound (Key c d arrays.sound u) p)

  pub second_less : {q : ℕ} → 0 < y → q ≡ y - 1 → get_or chain.previous q 0 < y
  second_less {q} l e = omega (arith, next_second l e, last_bound (Key c d arrays.sound v) q)

  pub last_high : get_or chain.last v 0 ≤ 256
  last_high =
      let l = k.column in
      omega (arith, last_is c d arrays.sound arrays v (omega arith), last_bound (Key c d arrays.sound v) 256)

  pub row_step :
      {p : ℕ} → 0 < x → y ≡ 0 → p ≡ x - 1 → Seeking c d P u v (get_or chain.previous p 0) (get_or chain.last v 0)
  row_step {p} l z e =
      let m = k.column in
      rw (next_first l e, last_is c d arrays.sound arrays v (omega arith))
      (seek_row c d arrays.sound P k p (omega arith) z)

  -- the far ends of the entries at which the search stands are states
  pub far_first : {p : ℕ} → 0 < x → p ≡ x - 1 → get_or far' p 0 < 16
  far_first {p} l e =
      let g = key_entry _ _ _ u p (k.on₁.entry p (omega arith)) in
      let h = arrays.sound.states_high in
      rw arrays.far_is (omega (arith, far_below c arrays.sound d p g.0))

  pub far_second : {q : ℕ} → 0 < y → q ≡ y - 1 → get_or far' q 0 < 16
  far_second {q} l e =
      let g = key_entry _ _ _ v q (k.on₂.entry q (omega arith)) in
      let h = arrays.sound.states_high in
      rw arrays.far_is (omega (arith, far_below c arrays.sound d q g.0))

-- with the depths of a square, and the test of an edge
module _ {c : Coder} {d : Direction} {chain : Chain} {far' : List ℕ} (arrays : ArraysOf c d chain far')
    (square : List (List ℕ)) (n : ℕ) {u v x y : ℕ} (k : Seeking c d (Above square n) u v x y) where
  module _ {p q : ℕ} (first : 0 < x) (second : 0 < y) (p_is : p ≡ x - 1) (q_is : q ≡ y - 1) where
    abbrev test : Bool
    test = eqb (get_or c.output p 0) (get_or c.output q 0) && ltb n (at square (get_or far' p 0) (get_or far' q 0))

    pub passed : test ≡ false → Seeking c d (Above square n) u v x (get_or chain.previous q 0)
    passed e =
        rw (next_second arrays k second q_is)
        (seek_next c d arrays.sound (Above square n) k p q (omega arith) (omega arith) (λ j s.
        true_false (rw arrays.far_is (rw (eq-eqb _ _ j.output, lt-ltb _ _ s))) e))

    pub taken : test ≡ true → Sought c d (Above square n) u v (record { x = x; y = y })
    taken e =
        let b = both_true _ _ e in
        record {
          seeking = k;
          first = first;
          second = second;
          joins =
              rw (← p_is, ← q_is)
              (seek_joins c d arrays.sound (Above square n) k p q (omega arith) (omega arith)
              (eqb-true (get_or c.output p 0) (get_or c.output q 0) b.0));
          stands = rw (← p_is, ← q_is) (rw arrays.far_is at (ltb-true n (at square (get_or far' p 0) (get_or far' q 0)) b.1));
        }
