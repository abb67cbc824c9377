-- What each place of a coded string yields, over the promises of run, search for kinds and decoder of kinds.
use mathlib.Core.Path.{◌≡◌, refl, ap}
use mathlib.Core.Bool.{true}
use mathlib.Core.List.{List}
use Prim.Native.Nat.{ℕ, ◌+◌, ◌≤◌}
use native.Mathlib.Omega.{arith}
use lib.ListN.{length, take, drop, length-drop}
use lib.Seq.{length-take-le}
use borrow.Author.Tests.{eq-eqb}
use Rattle.mealy.specs.Machine.{outs, Letters}
use Rattle.mealy.specs.Product.{pairs}
use Rattle.mealy.specs.Word.{Has}
use Rattle.mealy.proofs.RunParts.{length_outs, letters_take, letters_drop}
use Rattle.mealy.proofs.StartStates.{start_zero, after_closed}
use Rattle.coder.specs.Limits.{max_side}
use Rattle.coder.specs.File.{file_refusal, states_of, inputs_of, outputs_of, machine_of, setting_after}
use Rattle.coder.proofs.Accepted.{accepted}
use Rattle.coder.proofs.Tables.{output_below}
use Rattle.product.proofs.Depths.{pairs_high}
use Rattle.values.specs.Window.{size}
use Rattle.window_limits.proofs.Limits.{sides_pass}
use Rattle.kinds.specs.KindsAnswer.{Yields}
use Rattle.kinds.proofs.KindsComeBack.{kinds_come_back}
use Rattle.kind_list.specs.KindList.{kind_of}
use Rattle.std.specs.Prelude.{Some}
use Rattle.search_kinds.specs.Search.{told}
use Rattle.search_kinds.proofs.Reports.{report_says}
use Rattle.window_kinds.specs.Answer.{meaning}
use Rattle.window_kinds.specs.Window.{window_kinds_refusal, AnsweredKinds}
use Rattle.window_kinds.specs.declared.KindsAnswer.{KindsAnswer}
use Rattle.window_kinds.specs.declared.KindsAnswer.TheVariants.{Letter, Kind, None, Several}
use Rattle.theorems.proofs.RoundTrip.{letters_test, outs_letters, states_are, wrote}
use Rattle.theorems_kinds.specs.Kinds.{StringsYield}

pub inputs_are : (f : List ℕ) → (machine_of f).inputs ≡ inputs_of f
unfolding machine_of
inputs_are f = refl

-- the letter is answered where its kind is carried
letter_yielded :
    (kind : ℕ → ℕ) (C : ℕ → Type 0) (x : ℕ) (v : KindsAnswer) → Yields kind C x (meaning v) → C (kind x) → v ≡ Letter x
letter_yielded kind C x (Letter y) p c = ap Letter p
letter_yielded kind C x (Kind κ) p c = absurd (p.1 c)
letter_yielded kind C x None p c = absurd p
letter_yielded kind C x Several p c = absurd p

-- the sides of a report are sides that a call may have
pub sides_high :
    (f : List ℕ) → file_refusal f ≡ 0 → {n : ℕ} → n ≤ pairs (machine_of f).states → n ≤ max_side
sides_high f z l =
    let high : pairs (machine_of f).states ≤ max_side =
    rw (states_are f) (pairs_high (states_of f) (accepted f z).entries.limits.states_high) in
    omega arith

pub strings_yield : StringsYield
unfolding window_kinds_refusal
strings_yield f kinds s xs coded before₁ r₁ after₁ room ran carried w promise k full r decoded =
    let M = machine_of f in
    let S = setting_after f 0 in
    let b = w.before in
    let a = w.after in
    let g = report_says f kinds (Some (told carried w)) promise in
    let file = accepted f coded.file in
    let report = g.says in
    let os = outs M s xs in
    let sent = wrote f s xs coded before₁ after₁ r₁ room ran in
    let part = take (size w) (drop k os) in
    let long : length part ≡ b + 1 + a = length-take-le (size w) (drop k os) (omega (arith, length-drop k os, length_outs M s xs)) in
    let low : Letters (outputs_of f) part =
    letters_take (outputs_of f) (size w) (drop k os)
    (letters_drop (outputs_of f) k os (outs_letters M (outputs_of f) (output_below f file) s xs)) in
    let none : window_kinds_refusal f kinds b a part true ≡ 0 =
    rw (
      g.accepted_call.listed,
      sides_pass b a (sides_high f coded.file report.before_small) (sides_high f coded.file report.after_small),
      eq-eqb (length part) (b + 1 + a) long,
      letters_test (outputs_of f) part low,
    ) in
    let q : AnsweredKinds f kinds b part r = rw none at (rw sent at decoded) in
    let yields =
    kinds_come_back S (kind_of kinds) (Has carried) b a report.least.works (after_closed M 0) s xs k ((start_zero M s).1 coded.start)
    (rw (← inputs_are f) at coded.letters) full (meaning q.answer) q.right in
    record {
      answer = q.answer;
      is = q.is;
      yields = yields;
      letter = letter_yielded (kind_of kinds) (Has carried) _ q.answer yields;
    }
