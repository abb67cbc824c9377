-- The set of a state before the first letter; the loop over the entries of a row, one turn at a time.
use mathlib.Core.Path.{◌≡◌, sym, ◌∙◌}
use mathlib.Core.Bool.{true}
use mathlib.Core.List.{List}
use Prim.Native.Nat.{ℕ, suc, ◌+◌, ◌/◌, ◌%◌, ◌^◌, ◌≤◌, ◌<◌}
use native.Mathlib.Omega.{arith}
use lib.ListN.{get_or}
use Rattle.coder.specs.declared.inner.tables.Coder.{Coder}
use Rattle.chains.specs.Chain.{last_below, over}
use Rattle.chains.specs.Rows.{ahead}
use Rattle.chains.proofs.Chains.{last_bound, last_passes, over_last, over_step}
use Rattle.chains.proofs.Rows.{ahead_in, ahead_end}
use Rattle.filling.specs.Sets.{has_output, RowsAsked, RowsOf}

abbrev pub start_set : ℕ → ℕ → ℕ
start_set starts s = starts / 2 ^ s % 2

-- the number of the entry at place j of the row of o, counted from 1; 0 at the row's end
abbrev pub number_at : List ℕ → List ℕ → ℕ → ℕ → ℕ
number_at start entries o j = ahead entries (get_or start (o + 1) 0) 0 j

-- The walk along the row of o, which takes each entry by f, has come to place j, from `from` to `to`.
pub record Walked {A : Type 0} (start entries : List ℕ) (o : ℕ) (f : A → ℕ → A) (from to : A) (j : ℕ) : Type 0 where
  pub within : get_or start o 0 ≤ j
  pub bound : number_at start entries o j ≤ 256
  pub entry :
      (c : Coder) → RowsOf c start entries → (p : ℕ) → number_at start entries o j ≡ suc p → has_output c o p ≡ true
  pub rest :
      (c : Coder) → RowsOf c start entries → over (has_output c o) f to (number_at start entries o j) ≡ over (has_output c o) f from 256

module _ {start entries : List ℕ} where
  pub start_high : RowsAsked start entries → (k : ℕ) → k ≤ 64 → get_or start k 0 ≤ 256
  start_high a k l = a.is.rowed.bound k l

  pub walked_none :
      {A : Type 0} {f : A → ℕ → A} {from : A} {o : ℕ} → RowsAsked start entries → o < 64 →
      Walked start entries o f from from (get_or start o 0)
  walked_none {f = f} {from = from} {o = o} a l =
      record {
        within = omega arith;
        bound = rw (a.is.rowed.row o l).first (last_bound (has_output a.coder o) 256);
        entry = λ c b p e. last_passes (has_output c o) 256 p (sym (b.rowed.row o l).first ∙ e);
        rest = λ c b. rw (b.rowed.row o l).first (sym (over_last (has_output c o) f from 256));
      }

  module _ {A : Type 0} {f : A → ℕ → A} {from to : A} {o j : ℕ} (w : Walked start entries o f from to j)
      (l : j < get_or start (o + 1) 0) where
    number_is : number_at start entries o j ≡ suc (get_or entries j 0)
    number_is = ahead_in entries (get_or start (o + 1) 0) 0 j l

    pub entry_high : get_or entries j 0 < 256
    entry_high = omega (arith, w.bound, number_is)

    pub walked_more :
        {to' : A} → RowsAsked start entries → o < 64 → to' ≡ f to (get_or entries j 0) →
        Walked start entries o f from to' (j + 1)
    walked_more {to'} a k e =
        let p = get_or entries j 0 in
        record {
          within = omega (arith, w.within);
          bound = rw (after a.is) (omega (arith, entry_high, last_bound (has_output a.coder o) p));
          entry = λ c b r g. last_passes (has_output c o) p r (sym (after b) ∙ g);
          rest = λ c b.
              rw (after b, e)
              (sym (over_last (has_output c o) f (f to p) p)
              ∙ sym (over_step (has_output c o) f to p (w.entry c b p number_is)) ∙ rw (← number_is) (w.rest c b));
        }
      where
        after :
            {c : Coder} → RowsOf c start entries →
            number_at start entries o (j + 1) ≡ last_below (has_output c o) (get_or entries j 0)
        after b = (b.rowed.row o k).more j w.within l

  pub walked_all :
      {A : Type 0} {f : A → ℕ → A} {from to : A} {o j : ℕ} → Walked start entries o f from to j →
      get_or start (o + 1) 0 ≤ j → (c : Coder) → RowsOf c start entries → to ≡ over (has_output c o) f from 256
  unfolding over
  walked_all {o = o} {j = j} w l c a = rw (ahead_end entries (get_or start (o + 1) 0) 0 j l) at (w.rest c a)
