-- What "none" carries is the count of the letters that some run can produce, own and from C.
use mathlib.Core.Path.{◌≡◌, refl, sym, ap, subst, ◌∙◌}
use mathlib.Core.Logic.{◌≢◌}
use mathlib.Core.List.{List, [], ◌∷◌}
use Prim.Native.Nat.{ℕ, suc}
use native.Mathlib.Omega.{arith}
use lib.ListN.{take, drop}
use Rattle.mealy.specs.HowFar.{SomeRun, NoRun}
use Rattle.mealy.specs.Answer.{byte_of}
use Rattle.mealy.proofs.Possible.{far_longest, far_unique, far_no_run}
use Rattle.mealy.proofs.Answers.{no_run_none}
use Rattle.mealy.proofs.Unseen.{some_run↔after}
use Rattle.coder.specs.File.{machine_of}
use Rattle.values.specs.Window as values
use Rattle.values.specs.declared.Window.{Window}
use Rattle.fitting.specs.Answer.{meaning}
use Rattle.fitting.specs.declared.Answer.{Answer}
use Rattle.fitting.specs.declared.Answer.TheVariants.{Letter, None, Several}
use Rattle.fitting.proofs.Answers.{meaning_injective}
use Rattle.decoder.specs.Window.{window_setting}
use Rattle.decoder_host.specs.Laid.{answer_fields}
use Rattle.layout.specs.Layout.{with_fields, field_at}
use Rattle.layout.proofs.Reading.{past_fields}
use Rattle.theorems.specs.HowFar.{CanProduce, CountOf, CountsOfNone}
use Rattle.theorems.proofs.Answered.{AnsweredBy, window_answered, AnsweredFromC, answered_from_C, byte_read, count_read, none_read}

-- some run gives the letters, with the setting of the window and without
module _ (f : List ℕ) (w : Window) (letters : List ℕ) where
  produced : SomeRun (window_setting f w) letters → CanProduce f w letters
  produced = (some_run↔after (machine_of f) w.settle letters).0

  run_of : CanProduce f w letters → SomeRun (window_setting f w) letters
  run_of = (some_run↔after (machine_of f) w.settle letters).1

count_of : (f : List ℕ) (w : Window) (received : List ℕ) (k : ℕ) → AnsweredBy f w received (None k) → CountOf f w received k
count_of f w received k a =
    let h = a.right in
    record {
      high = omega (arith, h.inside, a.accepted_call.long);
      possible = produced f w (take k received) h.possible;
      no_further = λ r. h.no_further (run_of f w (take (suc k) received) r);
      longest = λ m r. far_longest h m (run_of f w (take m received) r);
    }

-- an answer is none exactly where no run gives the letters
none_run :
    (f : List ℕ) (w : Window) (received : List ℕ) (v : Answer) → AnsweredBy f w received v → (k : ℕ) → v ≡ None k →
    NoRun (window_setting f w) received
none_run f w received v a k e = let b : AnsweredBy f w received (None k) = rw e at a in far_no_run b.right

run_none :
    (f : List ℕ) (w : Window) (received : List ℕ) (v : Answer) → AnsweredBy f w received v → NoRun (window_setting f w) received →
    (k : ℕ) × (v ≡ None k)
run_none f w received v a n =
    let long = a.accepted_call.long in
    let k = no_run_none (window_setting f w) received w.before (omega arith) n (meaning v) a.right in
    (k.0, meaning_injective v (None k.0) k.1)

-- another present place: the same letters and the same start states
other_place :
    (f received : List ℕ) (p b a b' a' k : ℕ) (v : Answer) → AnsweredBy f (values.window b a p) received (None k) →
    AnsweredBy f (values.window b' a' p) received v → v ≡ None k
other_place f received p b a b' a' k v h g =
    let n = run_none f (values.window b' a' p) received v g (far_no_run h.right) in
    let g' : AnsweredBy f (values.window b' a' p) received (None n.0) = rw n.1 at g in
    n.1 ∙ ap None (far_unique g'.right h.right)

-- ---- from C

module _ (f : List ℕ) (w : Window) (received result result' : List ℕ) (c : AnsweredFromC f w received result result') where
  answered : AnsweredBy f w received c.answer
  answered = window_answered f w received c.answer c.promised

  byte_is : field_at result' 0 ≡ byte_of (meaning c.answer)
  byte_is = ap (λ (r : List ℕ). field_at r 0) c.fields ∙ byte_read f w received result c.answer answered

  carried_read : field_at result' 0 ≡ 254 → CountOf f w received (field_at result' 1) × (drop 16 result' ≡ drop 16 result)
  carried_read e =
      let n = none_read f w received c.answer answered (sym byte_is ∙ e) in
      let a : AnsweredBy f w received (None n.0) = rw n.1 at answered in
      let fields : result' ≡ with_fields result (254 ∷ n.0 ∷ []) = c.fields ∙ ap (λ v. with_fields result (answer_fields v)) n.1 in
      let read = ap (λ (r : List ℕ). field_at r 1) fields ∙ count_read f w received result n.0 a in (
        subst (CountOf f w received) (sym read) (count_of f w received n.0 a),
        ap (drop 16) fields ∙ past_fields result (254 ∷ n.0 ∷ []),
      )

  stay : {v : Answer} → c.answer ≡ v → drop 8 result' ≡ drop 8 (with_fields result (answer_fields v))
  stay e = ap (drop 8) (c.fields ∙ ap (λ u. with_fields result (answer_fields u)) e)

  others_stay : (v : Answer) → c.answer ≡ v → byte_of (meaning v) ≢ 254 → drop 8 result' ≡ drop 8 result
  others_stay (Letter x) e d = stay e ∙ past_fields result (x ∷ [])
  others_stay (None k) e d = absurd (d refl)
  others_stay Several e d = stay e ∙ past_fields result (255 ∷ [])

pub counts_hold : CountsOfNone
counts_hold =
    record {
      carried = λ f w received k p. count_of f w received k (window_answered f w received (None k) p);
      one = λ f w received k j p q. omega (arith, p.longest j q.possible, q.longest k p.possible);
      exactly = λ f w received v p.
          let a = window_answered f w received v p in (
            (λ n r. none_run f w received v a n.0 n.1 (run_of f w received r)),
            λ n. run_none f w received v a (λ r. n (produced f w received r)),
          );
      any_place = λ f received p b a b' a' k v h g.
          other_place f received p b a b' a' k v (window_answered f (values.window b a p) received (None k) h)
          (window_answered f (values.window b' a' p) received v g);
      carried_from_C = λ f w received result result' h.
          carried_read f w received result result' (answered_from_C f w received result result' h);
      others_from_C = λ f w received result result' h d.
          let c = answered_from_C f w received result result' h in
          others_stay f w received result result' c c.answer refl (λ e. d (byte_is f w received result result' c ∙ e));
    }
