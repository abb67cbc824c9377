-- What an accepted file is known to be.
use mathlib.Core.Path.{◌≡◌, refl}
use mathlib.Core.Bool.{not, Bool, true}
use mathlib.Core.List.{List}
use Prim.Native.Nat.{ℕ, ◌+◌, ◌-◌, ◌*◌, ◌≤◌, ◌<◌}
use native.Mathlib.Nat.{mul-le-mul}
use native.Mathlib.Omega.{arith}
use lib.ListN.{length, get_or, length-drop}
use lib.Dec.{lit<, ltb, eqb}
use borrow.Author.Tests.{leb-true, le-leb, ltb-true, ltb-false, eqb-true, lt-ltb, le-ltb, eq-eqb}
use Rattle.coder.specs.Refusal.{refuse, all_below}
use Rattle.coder.specs.Limits.{max_states, max_inputs, max_outputs}
use Rattle.coder.specs.File.{version_of, count_field, states_of, inputs_of, outputs_of, entries_of, within, in_range, entry_in_range, entries_refusal, file_refusal, machine_of}
use Rattle.coder.specs.Alphabet.{letter_of, all_named, NamesAlphabet, NamingAsked}
use Rattle.coder.specs.Accepted.{InLimits, IsCoder}
use Rattle.coder.proofs.Refusals.{both_true, refuse_none, refuse_not, all_at, all_of}
use Rattle.coder.proofs.Judging.{judges_yes, judges_same}
use Rattle.coder.proofs.Alphabet.{alphabet_judges}

-- ---- counts and entries

-- the test of the counts
pub in_limits : (n i o : ℕ) → in_range n i o ≡ true → InLimits n i o
unfolding in_range within
in_limits n i o e =
    let a = both_true _ _ e in
    let b = both_true _ _ a.1 in
    let x = both_true _ _ a.0 in
    let y = both_true _ _ b.0 in
    let z = both_true _ _ b.1 in
    record {
      states_low = leb-true _ _ x.0;
      states_high = leb-true _ _ x.1;
      inputs_low = leb-true _ _ y.0;
      inputs_high = leb-true _ _ y.1;
      outputs_low = leb-true _ _ z.0;
      outputs_high = leb-true _ _ z.1;
    }

limits_in : (n i o : ℕ) → InLimits n i o → in_range n i o ≡ true
unfolding in_range within
limits_in n i o l =
    rw (
      le-leb 1 n l.states_low,
      le-leb n max_states l.states_high,
      le-leb 1 i l.inputs_low,
      le-leb i max_inputs l.inputs_high,
      le-leb 1 o l.outputs_low,
      le-leb o max_outputs l.outputs_high,
    ) refl

pub entries_high : (n i o : ℕ) → InLimits n i o → n * i ≤ max_states * max_inputs
entries_high n i o l = mul-le-mul l.states_high l.inputs_high

-- the test of one entry
entry_in : (n o : ℕ) (entries : List ℕ) (j : ℕ) → entry_in_range n o entries j ≡ true → (get_or entries (2 * j) 0 < n) × (letter_of entries j < o)
unfolding entry_in_range
entry_in n o entries j e = let b = both_true _ _ e in (ltb-true _ _ b.0, ltb-true _ _ b.1)

in_entry : (n o : ℕ) (entries : List ℕ) (j : ℕ) → get_or entries (2 * j) 0 < n → letter_of entries j < o → entry_in_range n o entries j ≡ true
unfolding entry_in_range
in_entry n o entries j p q = rw (lt-ltb (get_or entries (2 * j) 0) n p, lt-ltb (letter_of entries j) o q) refl

-- Refusals 4 to 6 and 15 pass what is a coder, and nothing else.
module _ (n i o : ℕ) (entries : List ℕ) where
  pub entries_accepted : entries_refusal n i o entries ≡ 0 → IsCoder n i o entries
  unfolding entries_refusal
  entries_accepted e =
      let r = refuse_not (in_range n i o) _ _ (lit< tt) e in
      let w = refuse_not (eqb (length entries) (2 * (n * i))) _ _ (lit< tt) r.1 in
      let t = refuse_not (all_below (n * i) (entry_in_range n o entries)) _ _ (lit< tt) w.1 in
      let a = refuse_not (all_named o (n * i) entries) _ _ (lit< tt) t.1 in
      let all = all_at (n * i) (entry_in_range n o entries) t.0 in
      record {
        limits = in_limits _ _ _ r.0;
        size = eqb-true _ _ w.0;
        next_state = λ j l. (entry_in n o entries j (all j l)).0;
        output_letter = λ j l. (entry_in n o entries j (all j l)).1;
        alphabet = (alphabet_judges n i o entries).yes' a.0;
      }

  pub coder_accepted : IsCoder n i o entries → entries_refusal n i o entries ≡ 0
  unfolding entries_refusal
  coder_accepted c =
      let all = all_of (n * i) (entry_in_range n o entries) (λ j l. in_entry n o entries j (c.next_state j l) (c.output_letter j l)) in
      let named = judges_same _ true (alphabet_judges n i o entries) (judges_yes c.alphabet) in
      rw (limits_in n i o c.limits, eq-eqb (length entries) (2 * (n * i)) c.size, all, named) refl

-- what the test of the letters asks, where refusals 4 to 6 pass
pub naming_asked :
    (n i o : ℕ) (entries : List ℕ) → InLimits n i o → length entries ≡ 2 * (n * i) →
    all_below (n * i) (entry_in_range n o entries) ≡ true → NamingAsked o (n * i) entries
naming_asked n i o entries l e t =
    record {
      outputs_low = l.outputs_low;
      outputs_high = l.outputs_high;
      size = omega arith;
      letter_low = λ j m. (entry_in n o entries j (all_at (n * i) (entry_in_range n o entries) t j m)).1;
    }

-- the refusal of counts and entries by the test of the entries, where refusals 4 and 5 pass
pub by_entries :
    (n i o : ℕ) (entries : List ℕ) (t : Bool) → in_range n i o ≡ true → length entries ≡ 2 * (n * i) →
    t ≡ all_below (n * i) (entry_in_range n o entries) →
    entries_refusal n i o entries ≡ refuse (not t) 6 (refuse (not (all_named o (n * i) entries)) 15 0)
unfolding entries_refusal
by_entries n i o entries t r l e = rw (r, eq-eqb (length entries) (2 * (n * i)) l, ← e)

-- ---- files

-- what refusals 1 to 6 and 15 leave of a file
pub record Accepted (f : List ℕ) : Type 0 where
  pub size : length f ≡ 6 + 2 * (states_of f * inputs_of f)
  pub version : version_of f ≡ 1
  pub count : count_field f ≡ 3 + length (entries_of f)
  pub entries : IsCoder (states_of f) (inputs_of f) (outputs_of f) (entries_of f)

-- the refusal of a file that refusals 1 to 3 pass
pub by_rest :
    (f : List ℕ) → 6 ≤ length f → version_of f ≡ 1 → count_field f ≡ length f - 3 →
    file_refusal f ≡ entries_refusal (states_of f) (inputs_of f) (outputs_of f) (entries_of f)
unfolding file_refusal
by_rest f l v k = rw (le-ltb (length f) 6 l, eq-eqb (version_of f) 1 v, eq-eqb (count_field f) (length f - 3) k)

-- the tests that an accepted file has passed
record Passed (f : List ℕ) : Type 0 where
  long : 6 ≤ length f
  version : version_of f ≡ 1
  count : count_field f ≡ length f - 3
  entries : entries_refusal (states_of f) (inputs_of f) (outputs_of f) (entries_of f) ≡ 0

passed : (f : List ℕ) → file_refusal f ≡ 0 → Passed f
unfolding file_refusal
passed f e =
    let b = refuse_none (ltb (length f) 6) _ _ (lit< tt) e in
    let v = refuse_not (eqb (version_of f) 1) _ _ (lit< tt) b.1 in
    let k = refuse_not (eqb (count_field f) (length f - 3)) _ _ (lit< tt) v.1 in
    record {
      long = ltb-false _ _ b.0;
      version = eqb-true _ _ v.0;
      count = eqb-true _ _ k.0;
      entries = k.1;
    }

pub file_entries : (f : List ℕ) → file_refusal f ≡ 0 → entries_refusal (states_of f) (inputs_of f) (outputs_of f) (entries_of f) ≡ 0
file_entries f e = (passed f e).entries

pub accepted : (f : List ℕ) → file_refusal f ≡ 0 → Accepted f
accepted f e =
    let p = passed f e in
    let a = entries_accepted _ _ _ _ p.entries in
    record {
      size = omega (arith, a.size, length-drop 6 f);
      version = p.version;
      count = omega (arith, p.count, length-drop 6 f);
      entries = a;
    }

-- an accepted file's entries name its whole alphabet
pub file_named : (f : List ℕ) → file_refusal f ≡ 0 → NamesAlphabet (machine_of f) (outputs_of f)
unfolding machine_of
file_named f e = (accepted f e).entries.alphabet

-- an accepted file has the bytes of its counts
pub accepted_long : (f : List ℕ) → file_refusal f ≡ 0 → 6 ≤ length f
accepted_long f e = omega (arith, accepted f e)
