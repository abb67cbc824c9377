-- Counting the conflicting edges, one at a time.
use mathlib.Core.Path.{◌≡◌, refl, sym, ap, ◌∙◌, subst}
use mathlib.Core.Bool.{Bool, true, false}
use mathlib.Core.List.{List}
use Prim.Native.Nat.{ℕ, suc, ◌+◌, ◌-◌, ◌*◌, ◌%◌, ◌≤◌, ◌<◌}
use native.Mathlib.Omega.{arith}
use native.Mathlib.Decide.{ℕ_discrete, dec_lt}
use lib.ListN.{length, get_or, set, replicate, length-set}
use lib.Dec.{ltb}
use borrow.Author.Tests.{ltb-true, ltb-false}
use lib.Seq.{get_or-set_same, get_or-set_other}
use Rattle.coder.proofs.Fill.{get_or_zeros}
use Rattle.coder.specs.declared.inner.tables.Coder.{Coder}
use Rattle.chains.specs.Chain.{is_entry, has_key, last_below}
use Rattle.chains.specs.declared.inner.Chain.{Chain}
use Rattle.coder.proofs.Refusals.{true_false}
use Rattle.chains.proofs.Chains.{last_bound, last_passes, last_above}
use Rattle.chains.proofs.Entries.{entry_place, has_key_lem, key_entry}
use Rattle.mealy.specs.Word.{Has}
use Rattle.product.specs.Conflict.{Conflicting, EndlessConflict, back_of, forward_of}
use Rattle.product.proofs.Entries.{entry_below, far_below}
use Rattle.coder.proofs.Tables.{output_high}
use Rattle.mealy.specs.Product.{forward}
use Rattle.mealy.proofs.Words.{has_empty}
use Rattle.least.specs.Need.{Counted, CountedAt, EachCounted, raised, Grows}
use Rattle.least.specs.Need.{CountAsked, CountedOne, RowOf, RowDone, AllCounted}

-- ---- the table with one number taken in

-- one of zeros has nothing to show a source of
pub no_sources :
    {c : Coder} {conflicts : List ℕ} {backs forwards : List (List ℕ)} → EachCounted c conflicts backs forwards (replicate 256 0)
no_sources f l = absurd (omega (arith, get_or_zeros 256 f))

module _ (worst : List ℕ) (f x : ℕ) where
  raised_cases : (P : List ℕ → Type 0) → (get_or worst f 0 < x → P (set worst f x)) → (x ≤ get_or worst f 0 → P worst) → P (raised worst f x)
  raised_cases P h k = go (ltb (get_or worst f 0) x) refl
    where
      go : (b : Bool) → ltb (get_or worst f 0) x ≡ b → P (raised worst f x)
      go true e = rw e (h (ltb-true _ _ e))
      go false e = rw e (k (ltb-false _ _ e))

  pub raised_size : length (raised worst f x) ≡ length worst
  raised_size = raised_cases (λ w. length w ≡ length worst) (λ l. length-set worst f x) (λ l. refl)

  module _ (inside : f < length worst) where
    pub raised_grows : Grows worst (raised worst f x)
    raised_grows g = raised_cases (λ w. get_or worst g 0 ≤ get_or w g 0)
        (λ l. elim (ℕ_discrete g f) [
          | yes e ↦ rw (e, get_or-set_same worst f x 0 inside) (omega arith)
          | no e ↦ rw (get_or-set_other worst f g x 0 e) (omega arith)
        ])
        (λ l. omega arith)

    pub raised_least : x ≤ get_or (raised worst f x) f 0
    raised_least = raised_cases (λ w. x ≤ get_or w f 0) (λ l. rw (get_or-set_same worst f x 0 inside) (omega arith)) (λ l. l)

    pub raised_sources :
        {c : Coder} {conflicts : List ℕ} {backs forwards : List (List ℕ)} → CountedAt c conflicts backs forwards f x →
        EachCounted c conflicts backs forwards worst → EachCounted c conflicts backs forwards (raised worst f x)
    raised_sources {c} {conflicts} {backs} {forwards} s h = raised_cases (EachCounted c conflicts backs forwards)
        (λ l g m. elim (ℕ_discrete g f) [
          | yes e ↦ (let z : get_or (set worst f x) g 0 ≡ x = rw e (get_or-set_same worst f x 0 inside) in rw (z, e) s)
          | no e ↦ (let z = get_or-set_other worst f g x 0 e in rw z (h g (rw z at m)))
        ])
        (λ l. h)

counted_grows :
    {c : Coder} {backs forwards : List (List ℕ)} {worst later : List ℕ} {p q : ℕ} → Grows worst later →
    Counted c backs forwards worst p q → Counted c backs forwards later p q
counted_grows {c} {backs} {forwards} {worst} {later} {p} {q} g k = record {
  least = omega (arith, k.least, g (forward_of c.next forwards p q));
  finite = k.finite;
}

-- ---- a row: the walk along the chain has come to the entry numbered y

module _ (c : Coder) (conflicts : List ℕ) (backs forwards : List (List ℕ)) (p : ℕ) where
  abbrev Key : ℕ → Bool
  Key = has_key c.output c.states c.inputs (get_or c.output p 0)

  pub record RowAt (before : List ℕ) (y : ℕ) (worst : List ℕ) : Type 0 where
    pub high : y ≤ 256
    pub entry : (q : ℕ) → y ≡ suc q → Key q ≡ true
    pub size : length worst ≡ 256
    pub grows : Grows before worst
    pub sources : EachCounted c conflicts backs forwards before → EachCounted c conflicts backs forwards worst
    pub counted : (q : ℕ) → Conflicting c conflicts p q → y < suc q → Counted c backs forwards worst p q

  module _ {chain : Chain} (r : RowOf c chain p) where
    from_is : get_or chain.last (get_or c.output p 0) 0 ≡ last_below Key 256
    from_is = r.chained.last (get_or c.output p 0) (omega (arith, output_high c r.sound p, r.sound.outputs_high))

    conflicting_key : (q : ℕ) → Conflicting c conflicts p q → Key q ≡ true
    conflicting_key q k = has_key_lem _ _ _ _ q k.entry₂ (sym k.output)

    pub row_start : {before : List ℕ} → length before ≡ 256 → RowAt before (get_or chain.last (get_or c.output p 0) 0) before
    row_start e = record {
      high = omega (arith, from_is, last_bound Key 256);
      entry = λ q f. last_passes Key 256 q (sym from_is ∙ f);
      size = e;
      grows = λ f. omega arith;
      sources = λ s. s;
      counted = λ q k l.
          let m = last_above Key q 256 (conflicting_key q k) (entry_below c r.sound q k.entry₂) in
          absurd (omega (arith, from_is, m));
    }

    module _ {before worst : List ℕ} {y : ℕ} {here : ℕ} (a : RowAt before y worst) (some : 0 < y)
        (here_is : here ≡ y - 1) where
      key_here : Key here ≡ true
      key_here = a.entry here (omega arith)

      pub entry_here : (is_entry c.states c.inputs here ≡ true) × (get_or c.output here 0 ≡ get_or c.output p 0)
      entry_here = key_entry _ _ _ _ here key_here

      next_is_last : get_or chain.previous here 0 ≡ last_below Key here
      next_is_last =
          r.chained.previous here (entry_below c r.sound here entry_here.0) entry_here.0 ∙
          ap (λ o. last_below (has_key c.output c.states c.inputs o) here) entry_here.1

      pub row_less : get_or chain.previous here 0 < y
      row_less = omega (arith, next_is_last, last_bound Key here)

      -- the entry at y - 1 is seen to: it does not conflict, or it is counted in the table `later`
      row_next :
          {later : List ℕ} → length later ≡ 256 → Grows worst later →
          (EachCounted c conflicts backs forwards worst → EachCounted c conflicts backs forwards later) →
          (Conflicting c conflicts p here → Counted c backs forwards later p here) → RowAt before (get_or chain.previous here 0) later
      row_next s g h k = record {
        high = let l = a.high in omega (arith, row_less);
        entry = λ q f. last_passes Key here q (sym (next_is_last) ∙ f);
        size = s;
        grows = λ f. omega (arith, a.grows f, g f);
        sources = λ z. h (a.sources z);
        counted = λ q l m. elim (ℕ_discrete q here) [
          | yes n ↦ rw n (k (rw n at l))
          | no n ↦ elim (dec_lt y (suc q)) [
            | yes o ↦ counted_grows g (a.counted q l o)
            | no o ↦ absurd (omega (arith, next_is_last, last_above Key q here (conflicting_key q l) (omega arith)))
          ]
        ];
      }

      pub row_asked : CountAsked c.next p here
      row_asked =
          let h = r.sound.states_high in
          record {
            first = entry_below c r.sound p r.entry;
            second = entry_below c r.sound here entry_here.0;
            next₁ = omega (arith, far_below c r.sound forward p r.entry);
            next₂ = omega (arith, far_below c r.sound forward here entry_here.0);
          }

      pub row_apart : (Has (get_or conflicts (p % 16) 0) (here % 16) → ⊥) → RowAt before (get_or chain.previous here 0) worst
      row_apart f = row_next a.size (λ f. omega arith) (λ z. z) (λ k. absurd (f k.conflict))

      conflicting_here : Has (get_or conflicts (p % 16) 0) (here % 16) → Conflicting c conflicts p here
      conflicting_here n = record { entry₁ = r.entry; entry₂ = entry_here.0; output = sym entry_here.1; conflict = n }

      module _ (conflict : Has (get_or conflicts (p % 16) 0) (here % 16)) {b : Bool} {later : List ℕ}
          (one : CountedOne c.next backs forwards p here worst b later) where
        pub row_counted : b ≡ false → RowAt before (get_or chain.previous here 0) later
        row_counted z =
            let f = forward_of c.next forwards p here in
            let x = back_of backs p here in
            let l : f < length worst = omega (arith, a.size, one.high) in
            rw (one.raises z)
            (row_next (raised_size worst f x ∙ a.size) (raised_grows worst f x l)
            (raised_sources worst f x l
            (record { p = p; q = here; conflicting = conflicting_here conflict; forward_is = refl; back_is = refl }))
            (λ k. record { least = raised_least worst f x l; finite = one.finite z }))

        pub row_found : b ≡ true → RowDone c conflicts backs forwards p before true later
        row_found z =
            rw (one.stays z)
            record {
              size = a.size;
              grows = a.grows;
              sources = a.sources;
              none = λ e. absurd (true_false refl e);
              some = λ e. (here, record { edge = conflicting_here conflict; ends = one.both z });
            }

    pub row_end : {before worst : List ℕ} → RowAt before 0 worst → RowDone c conflicts backs forwards p before false worst
    row_end a = record {
      size = a.size;
      grows = a.grows;
      sources = a.sources;
      none = λ e q k. a.counted q k (omega arith);
      some = λ e. absurd (true_false e refl);
    }

    -- no letter conflicts with the one of the entry at place p
    pub row_empty :
        {before : List ℕ} → length before ≡ 256 → get_or conflicts (p % 16) 0 ≡ 0 → RowDone c conflicts backs forwards p before false before
    row_empty size e = record {
      size = size;
      grows = λ f. omega arith;
      sources = λ z. z;
      none = λ z q k. absurd (has_empty (q % 16) (rw e at k.conflict));
      some = λ z. absurd (true_false z refl);
    }

-- ---- all rows: the entries before place a have been counted

module _ (c : Coder) (conflicts : List ℕ) (backs forwards : List (List ℕ)) where
  pub record RowsTo (a : ℕ) (worst : List ℕ) : Type 0 where
    pub size : length worst ≡ 256
    pub sources : EachCounted c conflicts backs forwards worst
    pub counted : (p q : ℕ) → p < a → Conflicting c conflicts p q → Counted c backs forwards worst p q

  pub rows_start : RowsTo 0 (replicate 256 0)
  rows_start = record { size = refl; sources = no_sources; counted = λ p q l. absurd (omega arith) }

  -- the same place, said otherwise
  pub rows_at : {a b : ℕ} {worst : List ℕ} → a ≡ b → RowsTo a worst → RowsTo b worst
  rows_at {a} {b} {worst} e = subst (λ x. RowsTo x worst) e

  -- no entries of the state s follow those of its letters
  pub rows_state : (s : ℕ) {worst : List ℕ} → RowsTo (16 * s + c.inputs) worst → RowsTo (16 * (s + 1)) worst
  rows_state s h = record {
    size = h.size;
    sources = h.sources;
    counted = λ p q m k. h.counted p q (let e = (entry_place _ _ p k.entry₁).letter in omega arith) k;
  }

  module _ (s i : ℕ) {worst later : List ℕ} (h : RowsTo (16 * s + i) worst) {b : Bool}
      (r : RowDone c conflicts backs forwards (16 * s + i) worst b later) where
    pub rows_more : b ≡ false → RowsTo (16 * s + (i + 1)) later
    rows_more z = record {
      size = r.size;
      sources = r.sources h.sources;
      counted = λ p q m k. elim (ℕ_discrete p (16 * s + i)) [
        | yes e ↦ rw e (r.none z q (rw e at k))
        | no e ↦ counted_grows r.grows (h.counted p q (omega arith) k)
      ];
    }

    pub rows_found : b ≡ true → (p : ℕ) × (q : ℕ) × EndlessConflict c conflicts backs forwards p q
    rows_found z = let w = r.some z in (16 * s + i, w.0, w.1)

  -- no place past the last state holds an entry
  pub rows_end : {worst : List ℕ} → RowsTo (16 * c.states) worst → AllCounted c conflicts backs forwards worst
  rows_end h = record {
    sources = h.sources;
    counted = λ p q k. h.counted p q (omega (arith, entry_place _ _ p k.entry₁)) k;
  }
