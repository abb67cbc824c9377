-- The answer for kinds that a word stands for is right where the word holds the letters that fit.
use mathlib.Core.Path.{◌≡◌, refl}
use mathlib.Core.Bool.{Bool, true, false}
use mathlib.Core.List.{List}
use mathlib.Core.Logic.{◌≢◌}
use Prim.Native.Nat.{ℕ, ◌/◌, ◌%◌, ◌^◌, ◌<◌}
use native.Mathlib.Decide.{ℕ_discrete}
use lib.Count.{count_trailing_zeros}
use borrow.Author.Tests.{eqb-true, eq-eqb, ne_eqb}
use Rattle.mealy.specs.Word.{Has, Holds}
use Rattle.mealy.specs.Setting.{Setting}
use Rattle.mealy.specs.Answer.{Fits, Two}
use Rattle.mealy.proofs.Words.{has_empty, holds_empty}
use Rattle.mealy.proofs.Answers.{far_no_fit}
use Rattle.mealy.proofs.Members.{holds_member, least_member}
use Rattle.coder.proofs.Refusals.{all_at, all_fails, true_false}
use Rattle.fitting.specs.Answer.{Right, answer_of}
use Rattle.fitting.specs.declared.Answer.{Answer}
use Rattle.fitting.specs.declared.Answer.TheVariants as fitting
use Rattle.fitting.proofs.Answers.{holds_right}
use Rattle.window_kinds.specs.Answer.{RightKinds, of_kind, shared, kind_or_several, of_answer, kinds_answer_of}

-- the test of one letter
of_kind_said : (kind : ℕ → ℕ) (u κ x : ℕ) → of_kind kind u κ x ≡ true → Has u x → kind x ≡ κ
of_kind_said kind u κ x e h = eqb-true (kind x) κ (rw (eq-eqb (u / 2 ^ x % 2) 1 h) at e)

kind_of_said : (kind : ℕ → ℕ) (u κ x : ℕ) → of_kind kind u κ x ≡ false → Has u x × (kind x ≢ κ)
kind_of_said kind u κ x e = elim (ℕ_discrete (u / 2 ^ x % 2) 1) [
  | yes h ↦ (h, λ f. true_false (rw (eq-eqb (u / 2 ^ x % 2) 1 h, eq-eqb (kind x) κ f) refl) e)
  | no n ↦ absurd (true_false (rw (ne_eqb (u / 2 ^ x % 2) 1 n) refl) e)
]

-- the test of all letters
shared_said : (kind : ℕ → ℕ) (u κ : ℕ) → shared kind u κ ≡ true → (x : ℕ) → x < 16 → Has u x → kind x ≡ κ
unfolding shared
shared_said kind u κ e x l = of_kind_said kind u κ x (all_at 16 (of_kind kind u κ) e x l)

not_shared : (kind : ℕ → ℕ) (u κ : ℕ) → shared kind u κ ≡ false → (x : ℕ) × Has u x × (kind x ≢ κ)
unfolding shared
not_shared kind u κ e =
    let r = all_fails 16 (of_kind kind u κ) e in
    let h = kind_of_said kind u κ r.0 r.2 in
    (r.0, h.0, h.1)

module _ {S : Setting} {w : List ℕ} {b : ℕ} (kind : ℕ → ℕ) {u : ℕ} (a : Holds (Fits S w b) u) where
  -- two letters or more: they share the kind of the least one, or some letter has another
  several_right : Two S w b → RightKinds S kind w b (kind_or_several kind u)
  unfolding kind_or_several
  several_right two = go (shared kind u (kind (count_trailing_zeros 16 u))) refl
    where
      some : u ≢ 0
      some e = has_empty two.x (rw e at (a.has two.x two.fits₁))

      least_fits : Fits S w b (count_trailing_zeros 16 u)
      least_fits = holds_member a (count_trailing_zeros 16 u) (least_member 16 u a.bound some).taken.member

      go : (t : Bool) → shared kind u (kind (count_trailing_zeros 16 u)) ≡ t → RightKinds S kind w b (kind_or_several kind u)
      go true e = rw e (record {
        two = two;
        shared = λ y f. shared_said kind u (kind (count_trailing_zeros 16 u)) e y (a.below y f) (a.has y f);
      })
      go false e =
          let n = not_shared kind u (kind (count_trailing_zeros 16 u)) e in
          rw e (record { x = n.0; y = count_trailing_zeros 16 u; fits₁ = holds_member a n.0 n.1; fits₂ = least_fits; differ = n.2 })

  by_answer : (v : Answer) → Right S w b v → RightKinds S kind w b (of_answer kind u v)
  by_answer (fitting.Letter x) r = r
  by_answer (fitting.None k) r = far_no_fit S w b k r
  by_answer fitting.Several r = several_right r

  -- with no letter none, whatever the count
  pub holds_kinds_right : RightKinds S kind w b (kinds_answer_of kind u)
  unfolding answer_of
  holds_kinds_right = elim (ℕ_discrete u 0) [
    | yes e ↦ rw (eq-eqb u 0 e) (holds_empty a e)
    | no n ↦ by_answer (answer_of u 0) (holds_right a (λ e. absurd (n e)))
  ]
