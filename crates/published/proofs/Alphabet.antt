-- The rules of a coder give 15 exactly where none before applies and its entries do not name the whole alphabet.
use Prim.Native.Nat.{ℕ, zero, suc}
use mathlib.Core.Logic.{◌↔◌, ◌⊎◌, inl, inr}
use mathlib.Core.Path.{◌≡◌, refl, sym, ap, ◌∙◌}
use mathlib.Core.Bool.{Bool, true, false, not}
use mathlib.Core.List.{List, [], ◌∷◌, ◌++◌}
use native.Mathlib.Omega.{arith}
use Rattle.coder.specs.Refusal.{Judges, refuse, first, all_below, some_below}
use Rattle.coder.specs.Alphabet.{named}
use Rattle.coder.specs.File.{within, entry_in_range, machine_of}
use Rattle.coder.proofs.Refusals.{refuse_not, first_none}
use Rattle.coder.proofs.Judging.{judges_not, judges_same}
use Rattle.coder.proofs.Alphabet.{alphabet_judges, letters_few}
use Rattle.coder.proofs.Accepted.{entries_accepted, coder_accepted}
use Rattle.published.specs.Published.{Rule, asks, first_number, without, layout_rules, file_rules}
use Rattle.published.specs.Alphabet.{FileNamed, FifteenLast, WholeAlphabet}
use Rattle.published.proofs.Rules.{without_joined, number_other, first_joined}
use Rattle.published.proofs.Published.{parts_published}

-- 15 behind a number that is not 15
fifteen : (a : ℕ) (t : Bool) → (a ≡ 15 → ⊥) → first a (refuse (not t) 15 0) ≡ 15 → (a ≡ 0) × (t ≡ false)
fifteen zero true p e = absurd (omega arith)
fifteen zero false p e = (refl, refl)
fifteen (suc a) t p e = absurd (p e)

first_fifteen : (a b : ℕ) → (b ≡ 15 → ⊥) → first a b ≡ 15 → a ≡ 15
first_fifteen zero b p e = absurd (p e)
first_fifteen (suc a) b p e = e

-- one number of 15 more, behind numbers of which none is 15 and none is 0
module _ (layout : List Rule) (test : Bool) (numbers : without 0 layout ≡ true) (others : without 15 layout ≡ true) {Named : Type 0}
    (judges : Judges Named test) where
  abbrev rules : List Rule
  rules = layout ++ (asks 15 test ∷ [])

  in_turn_lem : first_number rules ≡ first (first_number layout) (refuse (not test) 15 0)
  in_turn_lem = first_joined layout (asks 15 test ∷ []) numbers

  rules_numbers : without 0 rules ≡ true
  rules_numbers = without_joined 0 layout (asks 15 test ∷ []) numbers refl

  joined : (rest : List Rule) → first_number (rules ++ rest) ≡ first (first_number rules) (first_number rest)
  joined rest = first_joined rules rest rules_numbers

  fifteen_last : FifteenLast layout rules Named
  fifteen_last =
      record {
        refused = (
          (λ e.
              let r = fifteen (first_number layout) test (number_other 15 layout others (λ z. omega arith)) (sym in_turn_lem ∙ e) in
              (r.0, judges.no' r.1)),
          λ r.
              let t : test ≡ false = judges_same test false judges (judges_not r.1) in
              in_turn_lem ∙ rw (r.0, t) refl,
        );
        call_refused = λ rest no. (
          (λ e. first_fifteen (first_number rules) (first_number rest) (number_other 15 rest no (λ z. omega arith)) (sym (joined rest) ∙ e)),
          λ e. joined rest ∙ rw e refl,
        );
        call_accepted = λ rest e.
            let a = first_none (first_number rules) (first_number rest) (sym (joined rest) ∙ e) in
            let b = first_none (first_number layout) (refuse (not test) 15 0) (sym in_turn_lem ∙ a.0) in
            judges.yes' (refuse_not test 15 0 (omega arith) b.1).0;
      }

file_fifteen : (f : List ℕ) → FifteenLast (layout_rules f) (file_rules f) (FileNamed f)
unfolding machine_of within all_below entry_in_range named some_below
file_fifteen f = fifteen_last _ _ refl refl (alphabet_judges _ _ _ _)

-- ---- two files, the numbers of the first before those of the second

-- the first number, where rs stand in front
in_front : (rs ss : List Rule) → without 0 rs ≡ true → first_number (rs ++ ss) ≡ 0 → (first_number rs ≡ 0) × (first_number ss ≡ 0)
in_front rs ss numbers e = first_none (first_number rs) (first_number ss) (sym (first_joined rs ss numbers) ∙ e)

first_either : (a b c : ℕ) → (c ≡ 15 → ⊥) → first a (first b c) ≡ 15 ↔ ((a ≡ 15) ⊎ ((a ≡ 0) × (b ≡ 15)))
first_either zero b c p =
    ((λ e. inr (refl, first_fifteen b c p e)), λ s. elim s [ inl e ↦ absurd (omega arith) | inr e ↦ rw e.1 refl ])
first_either (suc a) b c p =
    ((λ e. inl e), λ s. elim s [ inl e ↦ e | inr e ↦ absurd (omega (arith, e.0)) ])

module _ (f g : List ℕ) (rest : List Rule) where
  two_in_turn :
      first_number (file_rules f ++ (file_rules g ++ rest)) ≡
      first (first_number (file_rules f)) (first (first_number (file_rules g)) (first_number rest))
  two_in_turn =
      first_joined (file_rules f) (file_rules g ++ rest) refl
      ∙ ap (first (first_number (file_rules f))) (first_joined (file_rules g) rest refl)

  two_files :
      without 15 rest ≡ true →
      first_number (file_rules f ++ (file_rules g ++ rest)) ≡ 15 ↔
      ((first_number (file_rules f) ≡ 15) ⊎ ((first_number (file_rules f) ≡ 0) × (first_number (file_rules g) ≡ 15)))
  two_files others =
      let h = first_either (first_number (file_rules f)) (first_number (file_rules g)) _ (number_other 15 rest others (λ z. omega arith)) in
      ((λ e. h.0 (sym two_in_turn ∙ e)), λ s. two_in_turn ∙ h.1 s)

pub whole_alphabet : WholeAlphabet
unfolding machine_of within all_below entry_in_range named some_below
whole_alphabet = record {
  file = file_fifteen;
  parts = λ n i o entries. fifteen_last _ _ refl refl (alphabet_judges n i o entries);
  two_files = two_files;
  two_accepted = λ f g rest e. (
    (file_fifteen f).call_accepted (file_rules g ++ rest) e,
    (file_fifteen g).call_accepted rest (in_front (file_rules f) (file_rules g ++ rest) refl e).1,
  );
  no_more_letters = λ f. letters_few _ _ _ _;
  coders = λ n i o entries. (
    (λ e. entries_accepted n i o entries (parts_published n i o entries ∙ e)),
    λ c. sym (parts_published n i o entries) ∙ coder_accepted n i o entries c,
  );
  parity_2 = refl;
  parity_3 = refl;
  parity_65 = refl;
}
