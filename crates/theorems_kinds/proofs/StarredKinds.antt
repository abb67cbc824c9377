-- The worked examples hold: one computed test over the table, and a law from the test to each claim.
use mathlib.Core.Path.{◌≡◌, refl, sym, ap, ap₂, ◌∙◌}
use mathlib.Core.Bool.{Bool, true, false, not, ◌&&◌, cond}
use mathlib.Core.List.{List, [], ◌∷◌}
use mathlib.Core.Logic.{inl, inr}
use Prim.Native.Nat.{ℕ, zero, suc, ◌/◌, ◌%◌, ◌^◌, ◌≤◌, ◌<◌}
use native.Mathlib.Omega.{arith}
use native.Mathlib.Decide.{ℕ_discrete}
use lib.Dec.{ltb, eqb}
use lib.Count.{count_leading_zeros, count_trailing_zeros}
use borrow.Author.Tests.{ltb-true, lt-ltb, eqb-true, eq-eqb, ne_eqb}
use Rattle.mealy.specs.Setting.{Setting, Closed, Bounded}
use Rattle.mealy.specs.LoopedPair.{LoopedPair}
use Rattle.mealy.specs.Window.{Works}
use Rattle.mealy.specs.Order.{Least}
use Rattle.mealy.specs.Word as member
use Rattle.mealy.specs.Word.{Has}
use Rattle.mealy.proofs.StartStates.{after_closed, after_bounded, dec_start_after}
use Rattle.mealy.proofs.LoopedPairs.{excludes}
use Rattle.mealy.proofs.Members.{holds_member}
use Rattle.coder.specs.Refusal.{Judges, all_below, some_below}
use Rattle.coder.specs.Alphabet.{named}
use Rattle.coder.specs.File.{within, in_range, entry_in_range, entries_refusal, file_refusal, entry_of, machine_of, setting_after}
use Rattle.coder.specs.Table.{table, coder_of, table_at}
use Rattle.coder.proofs.Refusals.{true_false, both_true, all_at}
use Rattle.coder.proofs.Judging.{judges_yes, judges_not}
use Rattle.coder.proofs.Accepted.{accepted}
use Rattle.coder.proofs.Tables.{total, some_state}
use Rattle.chains.specs.Chain.{is_entry, has_key, over}
use Rattle.values.specs.Order.{relation_of, default_order}
use Rattle.values.specs.Window.{window}
use Rattle.values.proofs.Orders.{is_order}
use Rattle.fitting.specs.Answer.{answer_of}
use Rattle.filling.specs.Sets.{contribution, gather, add, added}
use Rattle.filling.specs.Window.{pass, union_of, fitting_word}
use Rattle.mealy.proofs.ImageWords.{entries_word, image_word}
use Rattle.starts.proofs.Computed.{in_steps_word, starts_word}
use Rattle.window_limits.specs.Refusal.{sides_refusal}
use Rattle.decoder.proofs.Decoding.{starts_of, file_starts, file_fits}
use Rattle.kinds.specs.Kinds as theory
use Rattle.kinds.specs.Kinds.{DifferentKinds, DifferentWithin, DifferentCarried, telling, tell_carried, Carried}
use Rattle.kinds.proofs.Telling.{carried→one}
use Rattle.kinds.proofs.Reports.{found_sides}
use Rattle.kind_list.specs.KindList.{kind_of, list_refusal}
use Rattle.search_kinds.specs.Tries.{CarriedBelow}
use Rattle.search_kinds.specs.Search.{told, search_kinds_refusal, KindsSaysOf, SearchKindsPromise}
use Rattle.search_kinds.specs.declared.Told.{Told}
use Rattle.search_kinds.proofs.Determined.{search_kinds_determined}
use Rattle.window_kinds.specs.Answer.{shared, kind_or_several, kinds_answer_of}
use Rattle.window_kinds.specs.Window.{window_kinds_refusal}
use Rattle.window_kinds.specs.declared.KindsAnswer.{KindsAnswer}
use Rattle.window_kinds.specs.declared.KindsAnswer.TheVariants.{Letter, Kind, None, Several}
use Rattle.window_kinds.proofs.Accepting.{window_kinds_accepted}
use Rattle.window_kinds.proofs.Determined.{window_kinds_determined}
use Rattle.window_kinds.proofs.SetAnswers.{holds_kinds_right}
use Rattle.theorems.specs.Starred.{pair}
use Rattle.theorems.specs.Cases.{AllCases}
use Rattle.theorems.proofs.CasesHold.{test_cases, cases_hold}
use Rattle.theorems.proofs.Tests.{all_starts, all_words, agree, works_test, later_or_fails, least_test, least_test_lem}
use Rattle.theorems.proofs.Tests.{closes_test, valid_test, valid_test_lem}
use Rattle.theorems_kinds.proofs.Strings.{inputs_are}
use Rattle.theorems_kinds.specs.Starred as claimed
use Rattle.theorems_kinds.specs.Starred.{Evidence, Left, Claim, Holds, starred_kinds}
use Rattle.std.specs.Prelude as std
use Rattle.std.specs.Prelude.{Result, Ok, Option, Some}
use Rattle.coder.specs.declared.refusal.Refusal.{Refusal}

-- ---- which letters conflict

abbrev different_kinds : List ℕ → ℕ → ℕ → Bool
different_kinds kinds i j = not (eqb (kind_of kinds i) (kind_of kinds j))

abbrev different_within : List ℕ → ℕ → ℕ → ℕ → Bool
different_within kinds κ i j = eqb (kind_of kinds i) κ && (eqb (kind_of kinds j) κ && not (eqb i j))

abbrev in_word : ℕ → ℕ → Bool
in_word u κ = eqb (u / 2 ^ κ % 2) 1

abbrev different_carried : List ℕ → ℕ → ℕ → ℕ → Bool
different_carried kinds u i j = cond (eqb (kind_of kinds i) (kind_of kinds j)) (in_word u (kind_of kinds i) && not (eqb i j)) true

kinds_judged : (kinds : List ℕ) (i j : ℕ) → Judges (DifferentKinds (kind_of kinds) i j) (different_kinds kinds i j)
kinds_judged kinds i j = elim (ℕ_discrete (kind_of kinds i) (kind_of kinds j)) [
  | yes e ↦ rw (eq-eqb _ _ e) (judges_not (λ n. n e))
  | no n ↦ rw (ne_eqb _ _ n) (judges_yes n)
]

within_judged : (kinds : List ℕ) (κ i j : ℕ) → Judges (DifferentWithin (kind_of kinds) κ i j) (different_within kinds κ i j)
within_judged kinds κ i j = elim (ℕ_discrete (kind_of kinds i) κ) [
  | no n ↦ rw (ne_eqb _ _ n) (judges_not (λ d. n d.0))
  | yes e ↦ elim (ℕ_discrete (kind_of kinds j) κ) [
    | no n ↦ rw (eq-eqb _ _ e, ne_eqb _ _ n) (judges_not (λ d. n d.1))
    | yes f ↦ elim (ℕ_discrete i j) [
      | yes g ↦ rw (eq-eqb _ _ e, eq-eqb _ _ f, eq-eqb _ _ g) (judges_not (λ d. d.2 g))
      | no n ↦ rw (eq-eqb _ _ e, eq-eqb _ _ f, ne_eqb _ _ n) (judges_yes (e, f, n))
    ]
  ]
]

carried_judged : (kinds : List ℕ) (u i j : ℕ) → Judges (DifferentCarried (kind_of kinds) (Has u) i j) (different_carried kinds u i j)
carried_judged kinds u i j = elim (ℕ_discrete (kind_of kinds i) (kind_of kinds j)) [
  | no n ↦ rw (ne_eqb _ _ n) (judges_yes (inl n))
  | yes e ↦ elim (ℕ_discrete (u / 2 ^ kind_of kinds i % 2) 1) [
    | no n ↦ rw (eq-eqb _ _ e, ne_eqb _ _ n) (judges_not (λ d. elim d [ inl m ↦ m e | inr m ↦ n m.1 ]))
    | yes h ↦ elim (ℕ_discrete i j) [
      | yes g ↦ rw (eq-eqb _ _ e, eq-eqb _ _ h, eq-eqb _ _ g) (judges_not (λ d. elim d [ inl m ↦ m e | inr m ↦ m.2 g ]))
      | no n ↦ rw (eq-eqb _ _ e, eq-eqb _ _ h, ne_eqb _ _ n) (judges_yes (inr (e, h, n)))
    ]
  ]
]

-- ---- the test of a claim

abbrev pair_of : Evidence → LoopedPair
pair_of e = pair e.s e.t e.bytes

-- one of the pairs is of the kind κ and valid
abbrev left_test : List ℕ → List ℕ → ℕ → List Left → Bool
left_test f kinds κ [] = false
left_test f kinds κ (l ∷ ls) =
    cond (eqb l.kind κ && valid_test (machine_of f) (starts_of f 0) (pair_of l.pair) (different_within kinds κ)) true
    (left_test f kinds κ ls)

-- a number in the word is below I; one below I that is not in the word is not carried
abbrev carried_test : List ℕ → List ℕ → ℕ → List Left → ℕ → Bool
carried_test f kinds u left κ =
    cond (in_word u κ) (ltb κ (machine_of f).inputs)
    (cond (ltb κ (machine_of f).inputs) (left_test f kinds κ left) true)

-- an answer by the number of its case, and its letter or kind
abbrev case_of : KindsAnswer → ℕ
case_of (Letter x) = 0
case_of (Kind κ) = 1
case_of None = 2
case_of Several = 3

abbrev value_of : KindsAnswer → ℕ
value_of (Letter x) = x
value_of (Kind κ) = κ
value_of None = 0
value_of Several = 0

answer_by : ℕ → ℕ → KindsAnswer
answer_by zero x = Letter x
answer_by (suc zero) x = Kind x
answer_by (suc (suc zero)) x = None
answer_by (suc (suc (suc n))) x = Several

by_case : (v : KindsAnswer) → answer_by (case_of v) (value_of v) ≡ v
unfolding answer_by
by_case (Letter x) = refl
by_case (Kind κ) = refl
by_case None = refl
by_case Several = refl

abbrev same_answer : KindsAnswer → KindsAnswer → Bool
same_answer v v' = eqb (case_of v) (case_of v') && eqb (value_of v) (value_of v')

same_answer_lem : (v v' : KindsAnswer) → same_answer v v' ≡ true → v ≡ v'
same_answer_lem v v' e =
    let t = both_true (eqb (case_of v) (case_of v')) (eqb (value_of v) (value_of v')) e in
    sym (by_case v) ∙ ap₂ answer_by (eqb-true _ _ t.0) (eqb-true _ _ t.1) ∙ by_case v'

abbrev decoded_kinds : List ℕ → List ℕ → ℕ → List ℕ → KindsAnswer
decoded_kinds f kinds b received = kinds_answer_of (kind_of kinds) (fitting_word (coder_of f) (starts_of f 0) received b)

unfoldable test : List ℕ → Claim → Bool
test f (claimed.cannot kinds e) =
    eqb (search_kinds_refusal f kinds true) 0 && valid_test (machine_of f) (starts_of f 0) (pair_of e) (different_kinds kinds)
test f (claimed.told kinds b a u left) =
    eqb (search_kinds_refusal f kinds true) 0 &&
    (ltb u 65536 &&
    (least_test (machine_of f) (starts_of f 0) (different_carried kinds u) default_order b a && all_below 16 (carried_test f kinds u left)))
test f (claimed.answer kinds b a received v) =
    eqb (window_kinds_refusal f kinds b a received true) 0 && same_answer (decoded_kinds f kinds b received) v

-- ---- from the test to the claim

module _ (f : List ℕ) (z : file_refusal f ≡ 0) where
  abbrev S : Setting
  S = setting_after f 0

  held : member.Holds S.Start (starts_of f 0)
  held = file_starts f z 0

  closed : Closed S
  closed = after_closed (machine_of f) 0

  decided : (s : ℕ) → Dec (S.Start s)
  decided = dec_start_after (machine_of f) (total f (accepted f z)) (some_state f (accepted f z)) 0

  bounded : Bounded S
  bounded = after_bounded (machine_of f) (total f (accepted f z)) (some_state f (accepted f z)) 0

  -- a valid pair on letters that D tells apart excludes every window
  excluded :
      (D : ℕ → ℕ → Type 0) (conflict : ℕ → ℕ → Bool) → ((i j : ℕ) → Judges (D i j) (conflict i j)) → (p : LoopedPair) →
      valid_test (machine_of f) (starts_of f 0) p conflict ≡ true → (b a : ℕ) → Works (telling S D) b a → ⊥
  excluded D conflict judged p e = excludes (telling S D) p (valid_test_lem (telling S D) held conflict judged p e) closed

  module _ (kinds : List ℕ) where
    -- a report that says what it is to say is the one promised
    as_said :
        (v : Option Told) → search_kinds_refusal f kinds true ≡ 0 → KindsSaysOf f kinds v → (r : Result (Option Told) Refusal) →
        SearchKindsPromise f kinds r → r ≡ Ok v
    as_said v e says r h = search_kinds_determined f kinds true r (Ok v) h (rw e (record { verdict = v; is = refl; says = says }))

    not_carried : (κ : ℕ) (left : List Left) → left_test f kinds κ left ≡ true → Carried S (kind_of kinds) κ → ⊥
    not_carried κ [] e c = true_false e refl
    not_carried κ (l ∷ ls) e c =
        go (eqb l.kind κ) (valid_test (machine_of f) (starts_of f 0) (pair_of l.pair) (different_within kinds κ)) refl e
        (λ g. not_carried κ ls g c)
      where
        go :
            (t v : Bool) → valid_test (machine_of f) (starts_of f 0) (pair_of l.pair) (different_within kinds κ) ≡ v →
            cond (t && v) true (left_test f kinds κ ls) ≡ true → (left_test f kinds κ ls ≡ true → ⊥) → ⊥
        go true true g d rest =
            excluded (DifferentWithin (kind_of kinds) κ) (different_within kinds κ) (within_judged kinds κ) (pair_of l.pair) g c.0
            c.1 c.2
        go true false g d rest = rest d
        go false v g d rest = rest d

    module _ (b a u : ℕ) (left : List Left) (small : ltb u 65536 ≡ true)
        (least : least_test (machine_of f) (starts_of f 0) (different_carried kinds u) default_order b a ≡ true)
        (each : all_below 16 (carried_test f kinds u left) ≡ true) where
      abbrev kind : ℕ → ℕ
      kind = kind_of kinds

      first : Least (relation_of default_order) (tell_carried S kind (Has u)) b a
      first =
          least_test_lem (tell_carried S kind (Has u)) held (different_carried kinds u) (carried_judged kinds u) default_order b a closed decided
          bounded least

      few : (machine_of f).inputs ≤ 16
      few = rw (inputs_are f) (accepted f z).entries.limits.inputs_high

      in_low : (κ : ℕ) → κ < 16 → Has u κ → κ < (machine_of f).inputs
      in_low κ l h = ltb-true _ _ (rw (eq-eqb _ _ h) at (all_at 16 (carried_test f kinds u left) each κ l))

      carried_in : (κ : ℕ) → κ < (machine_of f).inputs → Carried S kind κ → Has u κ
      carried_in κ l c = elim (ℕ_discrete (u / 2 ^ κ % 2) 1) [
        | yes h ↦ h
        | no n ↦
            let high = few in
            let t = all_at 16 (carried_test f kinds u left) each κ (omega arith) in
            absurd (not_carried κ left (rw (ne_eqb _ _ n, lt-ltb κ (machine_of f).inputs l) at t) c)
      ]

      held_carried : member.Holds (CarriedBelow S kind (machine_of f).inputs) u
      held_carried =
          record {
            bound = ltb-true u 65536 small;
            below = λ κ c. let high = few in omega (arith, c.0);
            has = λ κ c. carried_in κ c.0 c.1;
            only = λ κ l h. (in_low κ l h, (b, a, carried→one S kind (Has u) κ h b a first.works));
          }

      told_says : KindsSaysOf f kinds (Some (told u (window b a 0)))
      told_says =
          let set : theory.CarriedSet S kind (Has u) = λ κ l. ((λ h. (holds_member held_carried κ h).1), carried_in κ l) in
          let sides = found_sides S kind closed decided bounded (is_order default_order) (record { carried = set; least = first }) in
          record { settle = refl; carried_are = held_carried; least = first; before_small = sides.0; after_small = sides.1 }

    answer_holds :
        (b a : ℕ) (received : List ℕ) (v : KindsAnswer) → window_kinds_refusal f kinds b a received true ≡ 0 →
        decoded_kinds f kinds b received ≡ v → Holds f (claimed.answer kinds b a received v)
    answer_holds b a received v e d r h =
        let h₀ = window_kinds_accepted f kinds b a received true e in
        let fits = file_fits f z 0 received b (omega (arith, h₀.long)) in
        let w = decoded_kinds f kinds b received in
        window_kinds_determined f kinds b a received true r (Ok w) h
        (rw e (record { answer = w; is = refl; right = holds_kinds_right (kind_of kinds) fits })) ∙
        ap Ok d

  claim_holds : (c : Claim) → test f c ≡ true → Holds f c
  unfolding test
  claim_holds (claimed.cannot kinds p) e =
      let t =
      both_true (eqb (search_kinds_refusal f kinds true) 0) (valid_test (machine_of f) (starts_of f 0) (pair_of p) (different_kinds kinds)) e in
      as_said kinds std.None (eqb-true _ _ t.0)
      (excluded (DifferentKinds (kind_of kinds)) (different_kinds kinds) (kinds_judged kinds) (pair_of p) t.1)
  claim_holds (claimed.told kinds b a u left) e =
      let l = least_test (machine_of f) (starts_of f 0) (different_carried kinds u) default_order b a in
      let c = all_below 16 (carried_test f kinds u left) in
      let t = both_true (eqb (search_kinds_refusal f kinds true) 0) (ltb u 65536 && (l && c)) e in
      let v = both_true (ltb u 65536) (l && c) t.1 in
      let w = both_true l c v.1 in
      as_said kinds (Some (told u (window b a 0))) (eqb-true _ _ t.0) (told_says kinds b a u left v.0 w.0 w.1)
  claim_holds (claimed.answer kinds b a received v) e =
      let d = decoded_kinds f kinds b received in
      let t = both_true (eqb (window_kinds_refusal f kinds b a received true) 0) (same_answer d v) e in
      answer_holds kinds b a received v (eqb-true _ _ t.0) (same_answer_lem d v t.1)

-- ---- the table

passed : test_cases test starred_kinds ≡ true
unfolding test entries_word image_word in_steps_word starts_word all_starts list_refusal search_kinds_refusal window_kinds_refusal sides_refusal
    least_test later_or_fails works_test agree all_words valid_test closes_test all_below some_below named file_refusal entries_refusal in_range within
    entry_in_range machine_of entry_of coder_of table table_at fitting_word pass added add contribution gather union_of answer_of count_leading_zeros
    count_trailing_zeros shared kind_or_several has_key is_entry over
passed = refl

-- every worked example: its file is accepted, and all that is claimed of it holds
pub starred_kinds_hold : AllCases Holds starred_kinds
starred_kinds_hold = cases_hold test Holds claim_holds starred_kinds passed
