-- What is said of a report, over the promises of the search for kinds and of the search for letters.
use mathlib.Core.Path.{◌≡◌, refl, sym, ap, ◌∙◌}
use mathlib.Core.List.{List}
use mathlib.Core.Logic.{◌↔◌, ◌≢◌}
use Prim.Native.Nat.{ℕ, ◌≤◌, ◌<◌}
use native.Mathlib.Omega.{arith}
use Rattle.mealy.specs.Setting.{Setting}
use Rattle.mealy.specs.Window.{Works}
use Rattle.mealy.specs.Word.{Has}
use Rattle.mealy.proofs.Members.{holds_member}
use Rattle.mealy.proofs.LeastWindows.{least_unique}
use Rattle.mealy.proofs.StartStates.{after_closed, after_bounded, dec_start_after}
use Rattle.coder.specs.File.{file_refusal, inputs_of, machine_of, setting_after}
use Rattle.coder.proofs.Accepted.{accepted}
use Rattle.coder.proofs.Tables.{total, some_state}
use Rattle.values.specs.Order.{relation_of, default_order}
use Rattle.values.specs.Window.{window}
use Rattle.values.specs.declared.Window.{Window}
use Rattle.values.proofs.Orders.{is_order}
use Rattle.search.specs.Search.{SearchPromise}
use Rattle.search.specs.declared.Verdict.TheVariants.{Least}
use Rattle.search.proofs.Determined.{found}
use Rattle.kinds.specs.Kinds as theory
use Rattle.kinds.specs.Kinds.{tell_kinds, tell_one, Carried, Leaves}
use Rattle.kinds.proofs.Telling.{carried→kinds, carried→one, kinds→carried, unused_carried, letters_can}
use Rattle.kinds.proofs.Cannot.{cannot↔leaves}
use Rattle.kinds.proofs.Reports.{found_can, letters_found}
use Rattle.kind_list.specs.KindList.{kind_of}
use Rattle.search_kinds.specs.Search.{told, KindsSaysOf, SearchKindsPromise}
use Rattle.search_kinds.specs.declared.Told.{Told}
use Rattle.search_kinds.proofs.Reports.{report_says, report_found}
use Rattle.theorems_kinds.specs.Kinds.{Reported}
use Rattle.theorems_kinds.proofs.Strings.{inputs_are}
use Rattle.std.specs.Prelude.{Ok, Option, Some, None}

module _ (f kinds : List ℕ) (z : file_refusal f ≡ 0) (below : theory.KindsBelow (machine_of f).inputs (kind_of kinds)) where
  abbrev S : Setting
  S = setting_after f 0

  abbrev kind : ℕ → ℕ
  kind = kind_of kinds

  leaves : theory.Cannot S kind ↔ ((b a : ℕ) → Leaves (tell_kinds S kind) b a)
  leaves =
      let M = machine_of f in
      let a = accepted f z in
      cannot↔leaves S (after_closed M 0) (dec_start_after M (total f a) (some_state f a) 0) (after_bounded M (total f a) (some_state f a) 0)
      kind

  cannot_only : (v : Option Told) → KindsSaysOf f kinds v → v ≡ None ↔ ((b a : ℕ) → Leaves (tell_kinds S kind) b a)
  cannot_only None says = ((λ e. leaves.0 says), λ l. refl)
  cannot_only (Some t) says = (
    (λ e. let d : ◌≡◌ {A = ℕ} 0 1 = cc in absurd (omega arith)),
    λ l. absurd (found_can S kind (report_found says) (leaves.1 l)),
  )

  module _ (u : ℕ) (w : Window) (says : KindsSaysOf f kinds (Some (told u w))) where
    carried_exactly : (κ : ℕ) → Has u κ ↔ ((κ < inputs_of f) × Carried S kind κ)
    carried_exactly κ = (
      (λ h. let c = holds_member says.carried_are κ h in (rw (inputs_are f) at c.0, c.1)),
      λ c. says.carried_are.has κ (rw (inputs_are f) c.0, c.1),
    )

    unused_in : (κ : ℕ) → κ < inputs_of f → ((i : ℕ) → i < inputs_of f → kind i ≢ κ) → Has u κ
    unused_in κ l n = (carried_exactly κ).1 (l, unused_carried S kind κ (λ i m. n i (rw (inputs_are f) at m)))

    later :
        (b a : ℕ) → Works (tell_kinds S kind) b a → ((κ : ℕ) → Has u κ → Works (tell_one S kind κ) b a) →
        (w.after ≤ a) × (w.after ≡ a → w.before ≤ b)
    later b a p q = let l = says.least.least b a (kinds→carried S kind (Has u) b a p q) in (l.first, l.second)

  letters_report :
      (v : Option Told) → KindsSaysOf f kinds v → (before after : List ℕ) (w : Window) →
      SearchPromise default_order f 0 before (Ok (Least w)) after →
      (u : ℕ) × (v ≡ Some (told u w)) × ((κ : ℕ) → κ < inputs_of f → Has u κ)
  letters_report None says before after w p =
      let l = (found default_order f 0 before (Least w) after p).says in
      absurd (letters_can S kind w.before w.after l.least.works says)
  letters_report (Some t) says before after w p =
      let u = t.carried in
      let w' = t.window in
      let l = (found default_order f 0 before (Least w) after p).says in
      let r = relation_of default_order in
      let h =
      (letters_found S kind below w.before w.after l.least.works r (Has u) w'.before w'.after).0 (report_found says) in
      let e = least_unique (is_order default_order) S w'.before w'.after w.before w.after h.1 l.least in
      let d = says.settle ∙ sym l.settle in
      let same : window w'.before w'.after w'.settle ≡ w = rw (e.0, e.1, d) in
      (u, ap (λ x. Some (told u x)) same, λ κ m. h.0 κ (rw (inputs_are f) m))

pub reported : (f kinds : List ℕ) (v : Option Told) → SearchKindsPromise f kinds (Ok v) → Reported f kinds v
reported f kinds v promise =
    let g = report_says f kinds v promise in
    let list = g.accepted_call.list in
    let S = setting_after f 0 in
    let kind = kind_of kinds in
    let said : (u : ℕ) (w : Window) → v ≡ Some (told u w) → KindsSaysOf f kinds (Some (told u w)) = λ u w e. rw e at g.says in
    record {
      cannot = cannot_only f kinds list.file list.below v g.says;
      carried = λ u w e. carried_exactly f kinds list.file list.below u w (said u w e);
      unused = λ u w e. unused_in f kinds list.file list.below u w (said u w e);
      kind_always = λ u w e. carried→kinds S kind (Has u) w.before w.after (said u w e).least.works;
      letters = λ u w e κ h. carried→one S kind (Has u) κ h w.before w.after (said u w e).least.works;
      no_later = λ u w e. later f kinds list.file list.below u w (said u w e);
      as_letters = letters_report f kinds list.file list.below v g.says;
    }
