-- From the least window for words of conflicting letters to the carried kinds and the report.
use mathlib.Core.Path.{◌≡◌, refl, sym, subst, ◌∙◌}
use mathlib.Core.Bool.{Bool, true, false, cond}
use mathlib.Core.List.{List}
use mathlib.Core.Logic.{◌↔◌}
use Prim.Native.Nat.{ℕ, ◌^◌, ◌<◌}
use native.Mathlib.Omega.{arith}
use lib.Dec.{eqb}
use borrow.Author.Tests.{eqb-true}
use Rattle.mealy.specs.Word.{Has, Holds}
use Rattle.mealy.specs.Setting.{Setting, Same, worded}
use Rattle.mealy.specs.Product.{Direction, back, forward, Settled, pairs}
use Rattle.mealy.proofs.Words.{has_alone, holds_empty}
use Rattle.mealy.proofs.Members.{holds_member}
use Rattle.mealy.proofs.Windows.{works→unambiguous}
use Rattle.mealy.proofs.Settling.{settled_by}
use Rattle.mealy.proofs.SameSettings.{works_same, least_same, same_sym}
use Rattle.coder.specs.Table.{machine_of_coder, Sound}
use Rattle.coder.specs.declared.inner.tables.Coder.{Coder}
use Rattle.coder.proofs.Judging.{judges_yes, judges_not}
use Rattle.setting.specs.Words.{started_in, ConflictsOf}
use Rattle.product.proofs.Depths.{start_decided, start_bounded}
use Rattle.values.specs.Order.{relation_of, default_order}
use Rattle.values.specs.declared.Window.{Window}
use Rattle.fitting.specs.Answer.{greatest, answer_of}
use Rattle.fitting.specs.declared.Answer.TheVariants as Answer
use Rattle.least.specs.Report.{DepthsOf, LeastGiven}
use Rattle.std.specs.Prelude.{Option, Some, None, is_some}
use Rattle.kinds.specs.Kinds.{DifferentWithin, DifferentCarried}
use Rattle.kinds.proofs.Telling.{single_carried}
use Rattle.kinds.proofs.CarriedKinds.{settled_carried}
use Rattle.search_kinds.specs.Letters.{OfKind}
use Rattle.search_kinds.specs.Tries.{started, LeastTold, SomeTold, CarriedGiven}
use Rattle.search_kinds.specs.Search.{KindsSays, verdict_of}

-- ---- one try

module _ (c : Coder) (sound : Sound c) {backs forwards : List (List ℕ)} where
  -- the letters that are told apart, said otherwise
  same_letters :
      {D E : ℕ → ℕ → Type 0} → ((i j : ℕ) → i < c.inputs → j < c.inputs → D i j ↔ E i j) → (starts : ℕ) →
      DepthsOf c starts backs forwards → Same (started_in c starts D) (started_in c starts E)
  same_letters f starts d =
      record {
        closed = d.closed;
        inputs = refl;
        start = λ s q. q;
        start' = λ s q. q;
        next = λ s i q l. refl;
        out = λ s i q l. refl;
        conflict = λ i j l m. (f i j l m).0;
        conflict' = λ i j l m. (f i j l m).1;
      }

  -- by words
  words_telling :
      {D : ℕ → ℕ → Type 0} {conflicts : List ℕ} → ConflictsOf D conflicts → (starts : ℕ) → DepthsOf c starts backs forwards →
      Same (worded (machine_of_coder c) starts conflicts) (started_in c starts D)
  words_telling are =
      let h = sound.inputs_high in
      same_letters
      (λ i j l m. (are.conflict' i j (omega arith) (omega arith), are.conflict i j (omega arith) (omega arith)))

  pub tried_telling :
      {D : ℕ → ℕ → Type 0} {conflicts : List ℕ} → ConflictsOf D conflicts → (r : Option Window) →
      LeastGiven (relation_of default_order) 0 c backs forwards conflicts r → LeastTold c backs forwards D r
  tried_telling {conflicts = conflicts} are None g starts d = λ b a f.
      works→unambiguous (worded (machine_of_coder c) starts conflicts) b a (works_same (same_sym (words_telling are starts d)) b a f)
      (g starts d b a)
  tried_telling are (Some w) g starts d =
      let l = g starts d in
      record {
        settle = l.settle;
        least = least_same (words_telling are starts d) (relation_of default_order) _ _ l.least;
        before_small = l.before_small;
        after_small = l.after_small;
      }

  module _ {D E : ℕ → ℕ → Type 0} (f : (i j : ℕ) → D i j ↔ E i j) where
    pub told_none : LeastTold c backs forwards D None → SomeTold c backs forwards E false
    told_none g starts d =
        judges_not (λ w. g starts d w.0 w.1 (works_same (same_sym (same_letters (λ i j l m. f i j) starts d)) w.0 w.1 w.2))

    pub told_some : (w : Window) → LeastTold c backs forwards D (Some w) → SomeTold c backs forwards E true
    told_some w g starts d = judges_yes (_, _, works_same (same_letters (λ i j l m. f i j) starts d) _ _ (g starts d).least.works)

    pub told : (r : Option Window) → LeastTold c backs forwards D r → SomeTold c backs forwards E (is_some r)
    told None g = told_none g
    told (Some w) g = told_some w g

-- ---- a kind of which no two letters differ

-- the words of no letter and of one
answer_none : (u k : ℕ) → answer_of u 0 ≡ Answer.None k → u ≡ 0
unfolding answer_of
answer_none u k = go (eqb u 0) (eqb u (2 ^ greatest u)) refl
  where
    go : (s t : Bool) → eqb u 0 ≡ s → cond s (Answer.None 0) (cond t (Answer.Letter (greatest u)) Answer.Several) ≡ Answer.None k → u ≡ 0
    go true t e d = eqb-true u 0 e
    go false true e d = let z : ◌≡◌ {A = ℕ} 0 1 = cc in absurd (omega arith)
    go false false e d = let z : ◌≡◌ {A = ℕ} 0 1 = cc in absurd (omega arith)

answer_letter : (u x : ℕ) → answer_of u 0 ≡ Answer.Letter x → u ≡ 2 ^ greatest u
unfolding answer_of
answer_letter u x = go (eqb u 0) (eqb u (2 ^ greatest u)) refl
  where
    go :
        (s t : Bool) → eqb u (2 ^ greatest u) ≡ t →
        cond s (Answer.None 0) (cond t (Answer.Letter (greatest u)) Answer.Several) ≡ Answer.Letter x → u ≡ 2 ^ greatest u
    go true t e d = let z : ◌≡◌ {A = ℕ} 0 1 = cc in absurd (omega arith)
    go false true e d = eqb-true u (2 ^ greatest u) e
    go false false e d = let z : ◌≡◌ {A = ℕ} 0 1 = cc in absurd (omega arith)

module _ {P : ℕ → Type 0} {u : ℕ} (h : Holds P u) where
  pub no_letters : (k : ℕ) → answer_of u 0 ≡ Answer.None k → (i j : ℕ) → P i → P j → i ≡ j
  no_letters k e i j p q = absurd (holds_empty h (answer_none u k e) i p)

  pub one_letter : (x : ℕ) → answer_of u 0 ≡ Answer.Letter x → (i j : ℕ) → P i → P j → i ≡ j
  one_letter x e i j p q =
      let d = answer_letter u x e in
      let alone : (y : ℕ) → P y → y ≡ greatest u = λ y r. has_alone y (greatest u) (subst (λ z. Has z y) d (h.has y r)) in
      alone i p ∙ sym (alone j q)

pub single_told :
    (c : Coder) → Sound c → {backs forwards : List (List ℕ)} (kind : ℕ → ℕ) (κ : ℕ) →
    ((i j : ℕ) → OfKind kind κ i → OfKind kind κ j → i ≡ j) → SomeTold c backs forwards (DifferentWithin kind κ) true
single_told c sound kind κ one starts d =
    let h = sound.inputs_high in
    judges_yes (single_carried (started c starts) kind κ (λ i j l m p q. one i j (omega arith, p) (omega arith, q)))

-- ---- the report

module _ (c : Coder) (sound : Sound c) (starts : ℕ) {backs forwards : List (List ℕ)} (d : DepthsOf c starts backs forwards)
    (kind : ℕ → ℕ) where
  abbrev S : Setting
  S = started c starts

  settled : (e : Direction) → Settled S e (pairs c.states)
  settled e = settled_by S (start_decided c back starts sound) (start_bounded c back starts sound) e (pairs c.states) (omega arith)

  module _ {D : ℕ → ℕ → Type 0} (u : ℕ) (same : (i j : ℕ) → D i j ↔ DifferentCarried kind (Has u) i j)
      (carried : CarriedGiven c backs forwards kind u) where
    pub reported :
        (r : Option Window) → LeastTold c backs forwards D r → KindsSays (relation_of default_order) S kind (verdict_of u r)
    reported None t = λ b a f.
        let n = pairs c.states in
        let h = carried starts d in
        let w = settled_carried S d.closed n n (settled back) (settled forward) kind (b, a, f) (Has u) (λ κ m. (holds_member h κ m).1) in
        t starts d n n (works_same (same_sym (same_letters c sound (λ i j l m. same i j) starts d)) n n w)
    reported (Some w) t =
        let l = t starts d in
        record {
          settle = l.settle;
          carried_are = carried starts d;
          least = least_same (same_letters c sound (λ i j l m. same i j) starts d) (relation_of default_order) _ _ l.least;
          before_small = l.before_small;
          after_small = l.after_small;
        }
