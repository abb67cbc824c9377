-- What a search finds for a joined file whose two coders have windows.
use mathlib.Core.Path.{◌≡◌, refl, ◌∙◌}
use mathlib.Core.List.{List}
use Prim.Native.Nat.{ℕ, ◌+◌}
use Rattle.mealy.specs.Window.{Works}
use Rattle.coder.specs.File.{setting_after}
use Rattle.values.specs.Order.{default_order}
use Rattle.values.specs.declared.Window.{Window}
use Rattle.values.specs.declared.Order.{Order}
use Rattle.search.specs.Search.{SearchPromise}
use Rattle.search.specs.declared.Verdict.{Verdict}
use Rattle.search.specs.declared.Verdict.TheVariants.{Least, NoDecoder}
use Rattle.layout.specs.Layout.{field_at}
use Rattle.theorems.specs.RoundTrip.{window_read}
use Rattle.theorems.specs.Demands.{NoLater}
use Rattle.theorems.proofs.Demands.{demand_3}
use Rattle.theorems.proofs.HostReads.{search_found, read_kind, read_file, window_found}
use Rattle.theorems_joined.specs.InRow.{WindowsAdd, SearchedInRow, SearchedInRowFromC}
use Rattle.std.specs.Prelude.{Ok}

module _ (f g h : List ℕ) (add : WindowsAdd f g h) where
  sum_works :
      (o₁ o₂ : Order) (before₁ : List ℕ) (w : Window) (after₁ before₂ : List ℕ) (w' : Window) (after₂ : List ℕ) →
      SearchPromise o₁ f 0 before₁ (Ok (Least w)) after₁ → SearchPromise o₂ g 0 before₂ (Ok (Least w')) after₂ →
      Works (setting_after h 0) (w.before + w'.before) (w.after + w'.after)
  sum_works o₁ o₂ before₁ w after₁ before₂ w' after₂ p q =
      add w.before w.after w'.before w'.after
      ((demand_3.search o₁ f 0 before₁ (Least w) after₁ p).works w refl)
      ((demand_3.search o₂ g 0 before₂ (Least w') after₂ q).works w' refl)

  -- where some window works, a search reports one, and none that works comes earlier
  reported :
      (o : Order) (b a : ℕ) → Works (setting_after h 0) b a → (before : List ℕ) (v : Verdict) (after : List ℕ) →
      SearchPromise o h 0 before (Ok v) after → (u : Window) × (v ≡ Least u) × NoLater o u b a
  reported o b a works before (Least u) after r =
      (u, refl, (demand_3.search o h 0 before (Least u) after r).no_later u refl b a works)
  reported o b a works before (NoDecoder q) after r =
      absurd ((demand_3.search o h 0 before (NoDecoder q) after r).exactly.0 tt b a works)

  pub searched : SearchedInRow f g h
  searched o₁ o₂ o before₁ w after₁ before₂ w' after₂ before v after p q r =
      reported o _ _ (sum_works o₁ o₂ before₁ w after₁ before₂ w' after₂ p q) before v after r

  pub searched_from_C : SearchedInRowFromC f g h
  searched_from_C before₁ result₁ after₁ given₁ before₂ result₂ after₂ given₂ before result after given p e q d r =
      let a = search_found f 0 before₁ result₁ after₁ given₁ p in
      let b = search_found g 0 before₂ result₂ after₂ given₂ q in
      let c = search_found h 0 before result after given r in
      let sum =
      sum_works default_order default_order before₁ (window_read given₁ 0) after₁ before₂ (window_read given₂ 0) after₂
      (window_found f (read_file a) 0 before₁ result₁ after₁ given₁ p e)
      (window_found g (read_file b) 0 before₂ result₂ after₂ given₂ q d) in
      let u = reported default_order _ _ sum before c.verdict after c.promised in
      let zero : field_at given 0 ≡ 0 = read_kind c ∙ rw u.1 refl in
      let w = window_found h (read_file c) 0 before result after given r zero in
      (zero, (demand_3.search default_order h 0 before (Least (window_read given 0)) after w).no_later _ refl _ _ sum)
