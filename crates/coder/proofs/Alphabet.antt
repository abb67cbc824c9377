-- The output letters that entries name: the test of them all, by one word, and what it means.
use mathlib.Core.Path.{◌≡◌, refl, sym, ap, ◌∙◌}
use mathlib.Core.Bool.{Bool}
use mathlib.Core.List.{List}
use mathlib.Core.Logic.{⊎_elim, inl, inr}
use Prim.Native.Nat.{ℕ, suc, ◌+◌, ◌-◌, ◌*◌, ◌/◌, ◌%◌, ◌^◌, ◌≤◌, ◌<◌}
use native.Mathlib.Decide.{dec_lt}
use native.Mathlib.Nat.{div-eq_of_lt-le, suc-mul}
use native.Mathlib.Omega.{arith}
use lib.Bits.{bit_or}
use lib.Dec.{eqb}
use lib.Pow.{pow_pos, pow-add}
use borrow.Author.Tests.{eqb-true, eq-eqb, lt-ltb}
use Rattle.mealy.specs.Word.{HoldsIn}
use Rattle.mealy.proofs.Words.{holds_none, holds_shifted, holds_map, holds_union, holds_full, full_holds}
use Rattle.mealy.proofs.Pigeonhole.{pigeonhole}
use Rattle.coder.specs.Refusal.{Judges}
use Rattle.coder.specs.Limits.{max_outputs}
use Rattle.coder.specs.Alphabet.{letter_of, named, all_named, NamesAlphabet, NamingAsked, NamedBy}
use Rattle.coder.specs.File.{entry_of, machine_of_entries}
use Rattle.coder.proofs.Refusals.{all_at, all_of, some_at, some_of, true_false}
use Rattle.coder.proofs.EntryPlaces.{place, placed}
use Rattle.coder.proofs.Judging.{judges_map, judges_same, equal_judges}

-- ---- the test

-- every letter below o is that of one of m entries
abbrev EachNamed : ℕ → ℕ → List ℕ → Type 0
EachNamed o m entries = (y : ℕ) → y < o → NamedBy m entries y

named_judges : (o m : ℕ) (entries : List ℕ) → Judges (EachNamed o m entries) (all_named o m entries)
unfolding named
named_judges o m entries =
    record {
      yes' = λ e y l. let r = some_at m (names y) (all_at o (named m entries) e y l) in (r.0, r.1, eqb-true _ _ r.2);
      no' = λ e a. true_false (all_of o (named m entries) (λ y l. let r = a y l in some_of m (names y) r.0 r.1 (eq-eqb _ _ r.2))) e;
    }
  where
    names : ℕ → ℕ → Bool
    names y j = eqb (letter_of entries j) y

-- ---- the word

pub named_none : (entries : List ℕ) → HoldsIn max_outputs (NamedBy 0 entries) 0
named_none entries = holds_none (λ y n. omega (arith, n.1))

pub named_more :
    (m u : ℕ) (entries : List ℕ) → letter_of entries m < max_outputs → HoldsIn max_outputs (NamedBy m entries) u →
    HoldsIn max_outputs (NamedBy (m + 1) entries) (bit_or u (1 * 2 ^ letter_of entries m % 2 ^ max_outputs))
named_more m u entries l a =
    holds_map
    (λ y. ⊎_elim (λ n. (n.0, omega (arith, n.1), n.2)) (λ e. (m, omega arith, e)))
    (λ y n. elim (dec_lt n.0 m) [
      | yes q ↦ inl (n.0, q, n.2)
      | no q ↦ let e : n.0 ≡ m = omega (arith, n.1) in inr (rw e at n.2)
    ])
    (holds_union a (holds_shifted (letter_of entries m) l refl (λ y e. sym e)))

rest : (a d : ℕ) → 0 < a → (a - 1) * d + d ≡ a * d
rest a d l = let e : suc (a - 1) ≡ a = omega arith in sym (suc-mul (a - 1) d) ∙ ap (λ n. n * d) e

-- all bits below o, as they are made
ones : (o : ℕ) → 1 ≤ o → o ≤ 64 → 18446744073709551615 / 2 ^ (64 - o) ≡ 2 ^ o - 1
ones o l h =
    let e : 18446744073709551616 ≡ 2 ^ o * 2 ^ (64 - o) = ap (λ n. 2 ^ n) (let q : 64 ≡ o + (64 - o) = omega arith in q) ∙ pow-add 2 o (64 - o) in
    let d = 2 ^ (64 - o) in
    let s : (2 ^ o - 1) * d + d ≡ 2 ^ o * d = rest (2 ^ o) d (pow_pos o) in
    div-eq_of_lt-le {k = 2 ^ o - 1} d (omega (arith, pow_pos (64 - o))) (omega (arith, pow_pos (64 - o)))

-- the word has all of them exactly where each letter is named
pub word_judges :
    {o m u : ℕ} {entries : List ℕ} → NamingAsked o m entries → HoldsIn max_outputs (NamedBy m entries) u →
    eqb u (18446744073709551615 / 2 ^ (64 - o)) ≡ all_named o m entries
word_judges {o} {m} {u} {entries} q a =
    let low : (y : ℕ) → NamedBy m entries y → y < o = λ y n. rw (← n.2) (q.letter_low n.0 n.1) in
    rw (ones o q.outputs_low q.outputs_high)
    (judges_same _ _
    (judges_map (full_holds a low q.outputs_high) (holds_full a low) (equal_judges u (2 ^ o - 1)))
    (named_judges o m entries))

-- ---- the meaning: entry j is that of state j / I and input letter j % I

module _ (n i o : ℕ) (entries : List ℕ) where
  named_alphabet : EachNamed o (n * i) entries → NamesAlphabet (machine_of_entries n i entries) o
  unfolding entry_of
  named_alphabet h y l =
      let r = h y (omega arith) in
      let j = r.0 in
      let a = placed n i j r.1 in
      (j / i, j % i, a.state, a.letter, rw (lt-ltb (j / i) n a.state, lt-ltb (j % i) i a.letter, a.is) r.2)

  alphabet_named : NamesAlphabet (machine_of_entries n i entries) o → EachNamed o (n * i) entries
  unfolding entry_of
  alphabet_named h y l =
      let r = h y l in
      let s = r.0 in
      let x = r.1 in
      let e : entry_of n i entries 1 s x ≡ y = r.4 in
      (i * s + x, place r.2 r.3, rw (lt-ltb s n r.2, lt-ltb x i r.3) at e)

  -- the test says whether the whole alphabet is named
  pub alphabet_judges : Judges (NamesAlphabet (machine_of_entries n i entries) o) (all_named o (n * i) entries)
  alphabet_judges = judges_map named_alphabet alphabet_named (named_judges o (n * i) entries)

-- ---- no more letters than entries

letters_fit : (o m : ℕ) (entries : List ℕ) → EachNamed o m entries → o ≤ m
letters_fit o m entries h =
    elim (dec_lt m o) [
      | yes l ↦
          let r = pigeonhole m (λ y. entry y (dec_lt y o)) (λ y k. low y (omega arith) (dec_lt y o)) in
          let same = sym (is r.0 (omega arith) (dec_lt r.0 o)) ∙ ap (letter_of entries) r.4 ∙ is r.1 (omega arith) (dec_lt r.1 o) in
          absurd (omega arith)
      | no l ↦ omega arith
    ]
  where
    entry : (y : ℕ) → Dec (y < o) → ℕ
    entry y (yes l) = (h y l).0
    entry y (no n) = 0

    low : (y : ℕ) → y < o → (d : Dec (y < o)) → entry y d < m
    low y k (yes l) = (h y l).1
    low y k (no n) = absurd (n k)

    is : (y : ℕ) → y < o → (d : Dec (y < o)) → letter_of entries (entry y d) ≡ y
    is y k (yes l) = (h y l).2
    is y k (no n) = absurd (n k)

pub letters_few : (n i o : ℕ) (entries : List ℕ) → NamesAlphabet (machine_of_entries n i entries) o → o ≤ n * i
letters_few n i o entries h = letters_fit o (n * i) entries (alphabet_named n i o entries h)
