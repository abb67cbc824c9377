-- What a call returns has the number of the first rule that applies: from demand 1, as each rule's number is one of the list.
use mathlib.Core.Path.{◌≡◌, refl, ap, ◌∙◌}
use mathlib.Core.Bool.{Bool, true, ◌&&◌}
use mathlib.Core.List.{List, [], ◌∷◌}
use Prim.Native.Nat.{ℕ, zero, suc, ◌≤◌}
use native.Mathlib.Omega.{arith}
use lib.Dec.{leb}
use borrow.Author.Tests.{leb-true}
use Rattle.std.specs.Prelude.{Result}
use Rattle.coder.specs.declared.refusal.Refusal.{Refusal}
use Rattle.coder.specs.Refusal.{upon}
use Rattle.coder.specs.Refused.{Refused, number_in}
use Rattle.coder.proofs.Refusals.{both_true, refuse_either}
use Rattle.coder.proofs.Refused.{number_back}
use Rattle.published.specs.Published.{Rule, first_number, file_rules, given_run, given_window, given_string, given_table, given_search, given_check}
use Rattle.published.specs.Published.{given_search_kinds, given_window_kinds, given_write, given_join}
use Rattle.theorems.specs.Demands.{Judged}
use Rattle.theorems.specs.Numbers.{ByNumber}
use Rattle.theorems.proofs.Demands.{demand_1}

-- each rule has one of the numbers of the list
abbrev listed : List Rule → Bool
listed [] = true
listed (r ∷ rs) = leb r.number 17 && listed rs

low : (rules : List Rule) → listed rules ≡ true → first_number rules ≤ 17
low [] e = omega arith
low (r ∷ rs) e =
    let b = both_true (leb r.number 17) (listed rs) e in
    refuse_either (λ k. k ≤ 17) r.applies r.number (first_number rs) (leb-true _ _ b.0) (low rs b.1)

module _ {A : Type 0} (r : Result A Refusal) (rules : List Rule) (all : listed rules ≡ true) where
  by : (k : ℕ) → k ≤ 17 → (Done : Type 0) → (Done → number_in r ≡ 0) → upon k (λ j. r ≡ Refused j) Done → number_in r ≡ k
  by zero l Done none p = none p
  by (suc k) l Done none p = ap number_in p ∙ number_back (suc k) (omega arith) l

  numbered : (Done : Type 0) → Judged rules (λ k. r ≡ Refused k) Done → (Done → number_in r ≡ 0) → number_in r ≡ first_number rules
  numbered Done p none = by (first_number rules) (low rules all) Done none p

  -- with a lent buffer
  numbered_with :
      (Kept Done : Type 0) → Judged rules (λ k. (r ≡ Refused k) × Kept) Done → (Done → number_in r ≡ 0) → number_in r ≡ first_number rules
  numbered_with Kept Done p none = by (first_number rules) (low rules all) Done none (go (first_number rules) p)
    where
      go : (k : ℕ) → upon k (λ j. (r ≡ Refused j) × Kept) Done → upon k (λ j. r ≡ Refused j) Done
      go zero p = p
      go (suc k) p = p.0

pub by_number : ByNumber
by_number = record {
  counts = λ f r p. numbered r (file_rules f) refl _ (demand_1.counts f r p) (λ d. ap number_in d);
  run = λ f s xs before others r after p.
      numbered_with r (given_run f s xs before others) refl _ _ (demand_1.run f s xs before others r after p) (λ d. ap number_in d.0);
  window = λ f w received others r p.
      numbered r (given_window f w received others) refl _ (demand_1.window f w received others r p) (λ d. ap number_in d.is);
  string = λ f w received before others r after p.
      numbered_with r (given_string f w received before others) refl _ _ (demand_1.string f w received before others r after p)
      (λ d. ap number_in d.0);
  table = λ f w before others r after p.
      numbered_with r (given_table f w before others) refl _ _ (demand_1.table f w before others r after p) (λ d. ap number_in d.0);
  search = λ o f p before others r after h.
      numbered_with r (given_search f p before others) refl _ _ (demand_1.search o f p before others r after h) (λ d. ap number_in d.is);
  check = λ f q others r p. numbered r (given_check f q others) refl _ (demand_1.check f q others r p) (λ d. ap number_in d.is);
  search_kinds = λ f kinds others r p.
      numbered r (given_search_kinds f kinds others) refl _ (demand_1.search_kinds f kinds others r p) (λ d. ap number_in d.is);
  window_kinds = λ f kinds b a received others r p.
      numbered r (given_window_kinds f kinds b a received others) refl _ (demand_1.window_kinds f kinds b a received others r p)
      (λ d. ap number_in d.is);
  write = λ n i o entries before others r after p.
      numbered_with r (given_write n i o entries before others) refl _ _ (demand_1.write n i o entries before others r after p)
      (λ d. ap number_in d.0);
  join = λ f g before others r after p.
      numbered_with r (given_join f g before others) refl _ _ (demand_1.join f g before others r after p) (λ d. ap number_in d.0);
}
