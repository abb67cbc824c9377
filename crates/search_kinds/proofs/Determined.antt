-- The promise of the search for kinds leaves nothing open: two outcomes for the same arguments are equal.
use mathlib.Core.Path.{◌≡◌, refl, sym, ap, ap₂, ◌∙◌}
use mathlib.Core.Bool.{Bool}
use mathlib.Core.List.{List}
use Prim.Native.Nat.{ℕ, zero, suc}
use Rattle.mealy.specs.Word.{Has}
use Rattle.mealy.specs.Setting.{Setting}
use Rattle.mealy.specs.Order.{Relation, IsOrder}
use Rattle.mealy.proofs.Words.{holds_unique}
use Rattle.mealy.proofs.LeastWindows.{least_unique}
use Rattle.coder.specs.Refusal.{upon}
use Rattle.coder.specs.File.{setting_after}
use Rattle.values.specs.Order.{default_order}
use Rattle.values.specs.Window.{window}
use Rattle.values.proofs.Orders.{is_order}
use Rattle.kinds.specs.Kinds.{tell_carried}
use Rattle.kinds.proofs.Reports.{found_can}
use Rattle.kind_list.specs.KindList.{kind_of}
use Rattle.search_kinds.specs.Search.{search_kinds_refusal, told, KindsSays, FoundKinds, SearchKindsWith}
use Rattle.search_kinds.specs.declared.Told.{Told}
use Rattle.std.specs.Prelude.{Result, Ok, Option, Some, None}
use Rattle.coder.specs.declared.refusal.Refusal.{Refusal}
use Rattle.coder.specs.Refused.{Refused}
use Rattle.search_kinds.proofs.Reports.{report_found}

report_unique :
    {R : Relation} → IsOrder R → (S : Setting) (kind : ℕ → ℕ) (v v' : Option Told) → KindsSays R S kind v → KindsSays R S kind v' → v ≡ v'
report_unique order S kind None None p q = refl
report_unique order S kind None (Some t) p q = absurd (found_can S kind (report_found q) p)
report_unique order S kind (Some t) None p q = absurd (found_can S kind (report_found p) q)
report_unique order S kind (Some t) (Some t') p q =
    let w = t.window in
    let w' = t'.window in
    let e : t.carried ≡ t'.carried = holds_unique p.carried_are q.carried_are in
    let z =
    least_unique order (tell_carried S kind (Has t.carried)) w.before w.after w'.before w'.after p.least (rw (← e) at q.least) in
    let s = p.settle ∙ sym q.settle in
    let d : w ≡ w' = ap₂ (λ b a. window b a w.settle) z.0 z.1 ∙ ap (window w'.before w'.after) s in
    ap₂ (λ u v. Some (told u v)) e d

-- two results that meet the promise are equal, whatever other buffers are lent
pub search_kinds_determined :
    (f kinds : List ℕ) (others : Bool) (r r' : Result (Option Told) Refusal) → SearchKindsWith f kinds others r → SearchKindsWith f kinds others r' → r ≡ r'
search_kinds_determined f kinds others r r' = go (search_kinds_refusal f kinds others)
  where
    go :
        (k : ℕ) → upon k (λ j. r ≡ Refused j) (FoundKinds f kinds r) → upon k (λ j. r' ≡ Refused j) (FoundKinds f kinds r') → r ≡ r'
    go zero p q =
        p.is ∙
        ap (λ v. Ok v)
        (report_unique (is_order default_order) (setting_after f 0) (kind_of kinds) p.verdict q.verdict p.says q.says) ∙
        sym q.is
    go (suc k) p q = p ∙ sym q
