-- For all arguments some outcome meets the promise of the search for kinds. With `search_kinds_determined` of Determined.antt: exactly one.
use mathlib.Core.Path.{◌≡◌, refl}
use mathlib.Core.Bool.{Bool}
use mathlib.Core.List.{List}
use mathlib.Core.Logic.{inl, inr}
use Prim.Native.Nat.{ℕ, zero, suc, ◌*◌, ◌%◌, ◌^◌, ◌≤◌, ◌<◌}
use native.Mathlib.Numerals.{add-one}
use native.Mathlib.Omega.{arith}
use lib.Bits.{bit_or}
use Rattle.mealy.specs.Word.{Has, Holds}
use Rattle.mealy.proofs.StartStates.{after_closed, after_bounded, dec_start_after}
use Rattle.mealy.proofs.Members.{holds_member}
use Rattle.coder.specs.File.{machine_of, setting_after}
use Rattle.coder.proofs.Accepted.{accepted}
use Rattle.coder.proofs.Tables.{total, some_state}
use Rattle.values.specs.Order.{default_order}
use Rattle.values.specs.Window.{window}
use Rattle.values.proofs.Orders.{is_order}
use Rattle.kinds.specs.Kinds.{CarriedSet}
use Rattle.kinds.proofs.CarriedKinds.{dec_carried}
use Rattle.kinds.proofs.Reports.{cannot_or_found, found_set, found_sides}
use Rattle.kind_list.specs.KindList.{kind_of}
use Rattle.kind_list.proofs.KindLists.{ListAccepted}
use Rattle.search_kinds.specs.Search.{search_kinds_refusal, told, KindsSaysOf, SearchKindsWith}
use Rattle.search_kinds.specs.declared.Told.{Told}
use Rattle.std.specs.Prelude.{Result, Ok, Option, Some, None}
use Rattle.coder.specs.declared.refusal.Refusal.{Refusal}
use Rattle.coder.specs.Refused.{Refused}
use Rattle.search_kinds.proofs.Apart.{held_none, held_more, held_less}
use Rattle.search_kinds.proofs.Reports.{search_kinds_accepted}

-- the numbers below n with P have a word
some_word : {P : ℕ → Type 0} → ((κ : ℕ) → Dec (P κ)) → (n : ℕ) → n ≤ 16 → (u : ℕ) × Holds (λ κ. (κ < n) × P κ) u
some_word d zero l = (0, held_none)
some_word {P} d (suc n) l =
    let h = some_word d n (omega arith) in
    elim (d n) [
      | yes p ↦ (bit_or h.0 (1 * 2 ^ n % 2 ^ 16), rw (← add-one n) (held_more n h.1 (omega arith) p))
      | no p ↦ (h.0, rw (← add-one n) (held_less n h.1 p))
    ]

few_inputs : (f kinds : List ℕ) → ListAccepted f kinds → (machine_of f).inputs ≤ 16
unfolding machine_of
few_inputs f kinds a = (accepted f a.file).entries.limits.inputs_high

-- for every accepted file and kind list, some report says what it is to say
some_report : (f kinds : List ℕ) → ListAccepted f kinds → (v : Option Told) × KindsSaysOf f kinds v
some_report f kinds l =
    let a = accepted f l.file in
    let M = machine_of f in
    let S = setting_after f 0 in
    let kind = kind_of kinds in
    let closed = after_closed M 0 in
    let start = dec_start_after M (total f a) (some_state f a) 0 in
    let bounded = after_bounded M (total f a) (some_state f a) 0 in
    let u = some_word (dec_carried S closed start bounded kind) M.inputs (few_inputs f kinds l) in
    let set : CarriedSet S kind (Has u.0) = λ κ m. ((λ h. (holds_member u.1 κ h).1), λ c. u.1.has κ (m, c)) in
    elim (cannot_or_found S kind closed start bounded (is_order default_order)) [
      | inl c ↦ (None, c)
      | inr w ↦
          let g = found_set S kind l.below set w.2 in
          let s = found_sides S kind closed start bounded (is_order default_order) g in (
            Some (told u.0 (window w.0 w.1 0)),
            record { settle = refl; carried_are = u.1; least = g.least; before_small = s.0; after_small = s.1 },
          )
    ]

pub search_kinds_exists : (f kinds : List ℕ) (others : Bool) → (r : Result (Option Told) Refusal) × SearchKindsWith f kinds others r
search_kinds_exists f kinds others = go (search_kinds_refusal f kinds others) refl
  where
    go : (k : ℕ) → search_kinds_refusal f kinds others ≡ k → (r : Result (Option Told) Refusal) × SearchKindsWith f kinds others r
    go zero e =
        let v = some_report f kinds (search_kinds_accepted f kinds others e).list in
        (Ok v.0, rw e (record { verdict = v.0; is = refl; says = v.1 }))
    go (suc k) e = (Refused (suc k), rw e refl)
