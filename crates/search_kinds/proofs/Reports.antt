-- What a search for kinds that is not refused relies on, and what its report says: of the file, and in the terms of the theory.
use mathlib.Core.Path.{◌≡◌, refl, subst}
use mathlib.Core.Bool.{Bool, true, not}
use mathlib.Core.List.{List}
use mathlib.Core.Logic.{◌≢◌}
use Prim.Native.Nat.{ℕ, zero, suc}
use native.Mathlib.Omega.{arith}
use lib.Dec.{lit<}
use Rattle.mealy.specs.Machine.{Machine}
use Rattle.mealy.specs.Word.{Has, Holds}
use Rattle.mealy.specs.Setting.{Setting, Same, Closed, after_letters}
use Rattle.mealy.specs.Order.{Relation}
use Rattle.mealy.proofs.Members.{holds_member}
use Rattle.mealy.proofs.Words.{holds_map}
use Rattle.mealy.proofs.SameSettings.{same_sym, works_same, least_same}
use Rattle.coder.specs.Refusal.{refuse}
use Rattle.coder.specs.Table.{coder_of}
use Rattle.coder.specs.declared.inner.tables.Coder.{Coder}
use Rattle.coder.proofs.Accepted.{Accepted}
use Rattle.coder.proofs.Refusals.{refuse_not, first_none}
use Rattle.setting.specs.Words.{setting_of_coder}
use Rattle.setting.proofs.Same.{coder_sound, coder_machine, started_same}
use Rattle.values.specs.Order.{relation_of, default_order}
use Rattle.values.specs.declared.Window.{Window}
use Rattle.kinds.specs.Kinds as theory
use Rattle.kinds.specs.Kinds.{DifferentKinds, DifferentWithin, DifferentCarried, Carried}
use Rattle.kinds.proofs.Telling.{same_telling}
use Rattle.kind_list.specs.KindList.{kind_of, list_refusal}
use Rattle.kind_list.proofs.KindLists.{ListAccepted, list_accepted}
use Rattle.search_kinds.specs.Tries.{started}
use Rattle.search_kinds.specs.Search.{search_kinds_refusal, ToldReport, KindsSays, KindsSaysOf, FoundKinds, SearchKindsPromise}
use Rattle.search_kinds.specs.declared.Told.{Told}
use Rattle.std.specs.Prelude.{Ok, Option, Some, None}

-- ---- a call that is not refused

pub record SearchKindsAccepted (f kinds : List ℕ) (fit : Bool) : Type 0 where
  pub listed : list_refusal f kinds ≡ 0
  pub list : ListAccepted f kinds
  pub fits : fit ≡ true

pub search_kinds_accepted : (f kinds : List ℕ) (fit : Bool) → search_kinds_refusal f kinds fit ≡ 0 → SearchKindsAccepted f kinds fit
unfolding search_kinds_refusal
search_kinds_accepted f kinds fit e =
    let a = first_none (list_refusal f kinds) (refuse (not fit) 11 0) e in
    record { listed = a.0; list = list_accepted f kinds a.0; fits = (refuse_not fit 11 0 (lit< tt) a.1).0 }

-- its checked part is asked rightly, whatever buffers are lent
pub search_kinds_asked :
    (f kinds : List ℕ) (others : Bool) → search_kinds_refusal f kinds others ≡ 0 → search_kinds_refusal f kinds true ≡ 0
search_kinds_asked f kinds others e = rw (search_kinds_accepted f kinds others e).fits at e

-- an outcome that is a report: no number applies, and the report says what it is to say
pub record ReportSays (f kinds : List ℕ) (v : Option Told) : Type 0 where
  pub accepted_call : SearchKindsAccepted f kinds true
  pub says : KindsSaysOf f kinds v

pub report_says : (f kinds : List ℕ) (v : Option Told) → SearchKindsPromise f kinds (Ok v) → ReportSays f kinds v
report_says f kinds v = go (search_kinds_refusal f kinds true) refl
  where
    go : (k : ℕ) → search_kinds_refusal f kinds true ≡ k → SearchKindsPromise f kinds (Ok v) → ReportSays f kinds v
    go zero e h =
        let q : FoundKinds f kinds (Ok v) = rw e at h in
        let d = q.is in
        let z : v ≡ q.verdict = cc in
        record { accepted_call = search_kinds_accepted f kinds true e; says = rw z q.says }
    go (suc k) e h =
        let d = rw e at h in
        let z : ◌≡◌ {A = ℕ} 0 1 = cc in
        absurd (omega arith)

-- ---- settings that say the same

carried_same : {S T : Setting} → Same S T → (kind : ℕ → ℕ) (κ : ℕ) → Carried S kind κ → Carried T kind κ
carried_same e kind κ c = (c.0, c.1, works_same (same_telling e (DifferentWithin kind κ)) c.0 c.1 c.2)

reports_same :
    (R : Relation) {S T : Setting} → Same S T → S.M.states ≡ T.M.states → (kind : ℕ → ℕ) (v : Option Told) →
    KindsSays R S kind v → KindsSays R T kind v
reports_same R e n kind None r = λ b a f. r b a (works_same (same_sym (same_telling e (DifferentKinds kind))) b a f)
reports_same R {S} {T} e n kind (Some t) r =
    record {
      settle = r.settle;
      carried_are =
          holds_map (λ κ c. (rw e.inputs at c.0, carried_same e kind κ c.1))
          (λ κ c. (rw e.inputs c.0, carried_same (same_sym e) kind κ c.1)) r.carried_are;
      least = least_same (same_telling e (DifferentCarried kind (Has t.carried))) R t.window.before t.window.after r.least;
      before_small = rw n at r.before_small;
      after_small = rw n at r.after_small;
    }

-- ---- the coder of a file

module _ {c : Coder} {f : List ℕ} (e : c ≡ coder_of f) (a : Accepted f) {starts : ℕ} (h : Holds (setting_of_coder c 0).Start starts) where
  same_coder : Same (started c starts) (setting_of_coder c 0)
  same_coder = started_same c (coder_sound e a) 0 h (λ i j. i ≢ j) (λ i j. i ≢ j) (λ i j l m. ((λ d. d), λ d. d))

  pub started_closed : Closed (started c starts)
  started_closed = same_coder.closed

  pub says_same :
      (kinds : List ℕ) (v : Option Told) → KindsSays (relation_of default_order) (started c starts) (kind_of kinds) v →
      KindsSaysOf f kinds v
  says_same kinds v r =
      subst (λ (M : Machine). KindsSays (relation_of default_order) (after_letters M 0) (kind_of kinds) v) (coder_machine e a)
      (reports_same (relation_of default_order) same_coder refl (kind_of kinds) v r)

-- ---- in the terms of the theory

pub report_found :
    {R : Relation} {S : Setting} {kind : ℕ → ℕ} {carried : ℕ} {w : Window} → ToldReport R S kind carried w →
    theory.Found R S kind (Has carried) w.before w.after
report_found r = record {
  carried = λ κ l. ((λ m. (holds_member r.carried_are κ m).1), λ c. r.carried_are.has κ (l, c));
  least = r.least;
}
