-- Computed tests of windows, pairs and answers, and laws from each test to what it shows.
use mathlib.Core.Path.{◌≡◌, refl, sym, ap, ap₂, ◌∙◌}
use mathlib.Core.Bool.{Bool, true, false, not, ◌&&◌, cond}
use mathlib.Core.Logic.{◌≢◌}
use mathlib.Core.List.{List, [], ◌∷◌}
use Prim.Native.Nat.{ℕ, zero, suc, ◌+◌, ◌-◌, ◌*◌, ◌/◌, ◌%◌, ◌^◌, ◌<◌}
use native.Mathlib.Omega.{arith}
use native.Mathlib.Decide.{ℕ_discrete}
use lib.ListN.{length, get_or, take}
use lib.Seq.{take_all, length-take-le}
use lib.Dec.{ltb, leb, eqb}
use borrow.Author.Tests.{ltb-true, leb-true, eqb-true, eqb-false, lt-ltb, le-leb, eq-eqb, ne_eqb, not-true, not-false}
use Rattle.mealy.specs.Machine.{Machine, outs, end, Letters, Total}
use Rattle.mealy.specs.Reachable.{Reachable, StartAfter}
use Rattle.mealy.specs.Word.{Holds}
use Rattle.mealy.specs.Setting.{Setting, Closed, Bounded, from_reachable, after_letters}
use Rattle.mealy.specs.Window.{Works}
use Rattle.mealy.specs.Order.{Least}
use Rattle.mealy.specs.Product.{Direction, back, forward, Settled, pairs}
use Rattle.mealy.specs.LoopedPair.{LoopedPair, Run, first, second, letter_at, letters_from, mark, unlooped, letters, start_of, run_inputs, Valid}
use Rattle.mealy.specs.First.{Lexicographic, key, First}
use Rattle.mealy.proofs.PairBytes.{with_bytes, valid_letters, valid_cut}
use Rattle.mealy.proofs.Members.{holds_member}
use Rattle.mealy.proofs.StartStates.{after_closed, after_bounded, dec_start_after}
use Rattle.mealy.proofs.Settling.{settled_by}
use Rattle.mealy.proofs.LeastWindows.{least_within}
use Rattle.coder.specs.Refusal.{all_below, letters_below}
use Rattle.coder.specs.Refusal.{Judges}
use Rattle.coder.proofs.Refusals.{true_false, both_true, all_at, all_fails, letters_below_lem}
use Rattle.values.specs.Window.{window}
use Rattle.theorems.specs.Starred.{pair}
use Rattle.theorems.proofs.RoundTrip.{letters_test}
use Rattle.values.specs.Order.{relation_of, no_later}
use Rattle.values.specs.declared.Order.{Order}
use Rattle.values.proofs.Orders.{is_order, no_later_lem}

-- ---- lists

abbrev pub same_list : List ℕ → List ℕ → Bool
same_list [] [] = true
same_list [] (y ∷ ys) = false
same_list (x ∷ xs) [] = false
same_list (x ∷ xs) (y ∷ ys) = eqb x y && same_list xs ys

pub same_list_lem : (xs ys : List ℕ) → same_list xs ys ≡ true → xs ≡ ys
same_list_lem [] [] e = refl
same_list_lem [] (y ∷ ys) e = absurd (true_false e refl)
same_list_lem (x ∷ xs) [] e = absurd (true_false e refl)
same_list_lem (x ∷ xs) (y ∷ ys) e = let b = both_true (eqb x y) (same_list xs ys) e in ap₂ ◌∷◌ (eqb-true x y b.0) (same_list_lem xs ys b.1)

list_same : (xs : List ℕ) → same_list xs xs ≡ true
list_same [] = refl
list_same (x ∷ xs) = rw (eq-eqb x x refl) (list_same xs)

-- ---- words of n letters below i

unfoldable pub all_words : ℕ → ℕ → (List ℕ → Bool) → Bool
all_words i zero p = p []
all_words i (suc n) p = all_below i (λ x. all_words i n (λ xs. p (x ∷ xs)))

words_at : (i n : ℕ) (p : List ℕ → Bool) → all_words i n p ≡ true → (xs : List ℕ) → Letters i xs → length xs ≡ n → p xs ≡ true
unfolding all_words
words_at i zero p e [] l m = e
words_at i zero p e (x ∷ xs) l m = absurd (omega arith)
words_at i (suc n) p e [] l m = absurd (omega arith)
words_at i (suc n) p e (x ∷ xs) l m =
    let h = all_at i (λ x. all_words i n (λ xs. p (x ∷ xs))) e x l.0 in
    words_at i n (λ xs. p (x ∷ xs)) h xs l.1 (omega arith)

record Word (i n : ℕ) (p : List ℕ → Bool) : Type 0 where
  xs : List ℕ
  below : Letters i xs
  long : length xs ≡ n
  fails : p xs ≡ false

words_false : (i n : ℕ) (p : List ℕ → Bool) → all_words i n p ≡ false → Word i n p
unfolding all_words
words_false i zero p e = record { xs = []; below = tt; long = refl; fails = e }
words_false i (suc n) p e =
    let k = all_fails i (λ x. all_words i n (λ xs. p (x ∷ xs))) e in
    let w = words_false i n (λ xs. p (k.0 ∷ xs)) k.2 in
    record { xs = k.0 ∷ w.xs; below = (k.1, w.below); long = ap suc w.long; fails = w.fails }

differs : (e d : Bool) → cond e d true ≡ false → (e ≡ true) × (d ≡ false)
differs true d z = (refl, z)
differs false d z = absurd (true_false refl z)

-- ---- the states of a word

abbrev is_start : ℕ → ℕ → Bool
is_start starts s = eqb (starts / 2 ^ s % 2) 1

unfoldable pub all_starts : ℕ → (ℕ → Bool) → Bool
all_starts starts p = all_below 16 (λ s. cond (is_start starts s) (p s) true)

module _ {A : ℕ → Type 0} {starts : ℕ} (h : Holds A starts) where
  start_test : (s : ℕ) → A s → is_start starts s ≡ true
  start_test s r = eq-eqb _ _ (h.has s r)

  test_start : (s : ℕ) → is_start starts s ≡ true → A s
  test_start s e = holds_member h s (eqb-true _ _ e)

  starts_at : (p : ℕ → Bool) → all_starts starts p ≡ true → (s : ℕ) → A s → p s ≡ true
  unfolding all_starts
  starts_at p e s r =
      let x = all_at 16 (λ s. cond (is_start starts s) (p s) true) e s (h.below s r) in
      rw (start_test s r) at x

  starts_false : (p : ℕ → Bool) → all_starts starts p ≡ false → (s : ℕ) × A s × (p s ≡ false)
  unfolding all_starts
  starts_false p e =
      let x = all_fails 16 (λ s. cond (is_start starts s) (p s) true) e in
      let d = differs (is_start starts x.0) (p x.0) x.2 in
      (x.0, test_start x.0 d.0, d.1)

-- ---- which letters conflict

-- different letters
abbrev pub apart : ℕ → ℕ → Bool
apart i j = not (eqb i j)

apart_judged : (i j : ℕ) → Judges (i ≢ j) (apart i j)
apart_judged i j = record { yes' = λ e. eqb-false i j (not-true _ e); no' = λ e n. n (eqb-true i j (not-false _ e)) }

-- ---- windows: all pairs of runs of b + 1 + a letters

module _ (M : Machine) (starts : ℕ) (conflict : ℕ → ℕ → Bool) (b a : ℕ) where
  -- runs that differ in output, or have letters at place b that do not conflict
  unfoldable pub agree : ℕ → ℕ → List ℕ → List ℕ → Bool
  agree s t xs ys = cond (same_list (outs M s xs) (outs M t ys)) (not (conflict (get_or xs b 0) (get_or ys b 0))) true

  unfoldable pub works_test : Bool
  works_test =
      all_starts starts (λ s. all_starts starts (λ t.
      all_words M.inputs (b + 1 + a) (λ xs. all_words M.inputs (b + 1 + a) (λ ys. agree s t xs ys))))

  abbrev seconds : ℕ → ℕ → List ℕ → Bool
  seconds s t xs = all_words M.inputs (b + 1 + a) (λ ys. agree s t xs ys)

  abbrev runs : ℕ → ℕ → Bool
  runs s t = all_words M.inputs (b + 1 + a) (λ xs. seconds s t xs)

-- of a setting whose start states the word holds and whose conflicts are judged
module _ (S : Setting) {starts : ℕ} (held : Holds S.Start starts) (conflict : ℕ → ℕ → Bool)
    (judged : (i j : ℕ) → Judges (S.Conflict i j) (conflict i j)) where
  module _ (b a : ℕ) where
    abbrev agrees : ℕ → ℕ → List ℕ → List ℕ → Bool
    agrees = agree S.M starts conflict b a

    abbrev second_runs : ℕ → ℕ → List ℕ → Bool
    second_runs = seconds S.M starts conflict b a

    abbrev both_runs : ℕ → ℕ → Bool
    both_runs = runs S.M starts conflict b a

    pub works_test_lem : works_test S.M starts conflict b a ≡ true → Works S b a
    unfolding works_test agree
    works_test_lem e s t xs ys g h w differ =
        let x = starts_at held (λ s. all_starts starts (λ t. both_runs s t)) e s g in
        let y = starts_at held (λ t. both_runs s t) x t h in
        let z = words_at S.M.inputs (b + 1 + a) (λ xs. second_runs s t xs) y xs w.letters₁ w.length₁ in
        let v = words_at S.M.inputs (b + 1 + a) (λ ys. agrees s t xs ys) z ys w.letters₂ w.length₂ in
        let same : same_list (outs S.M s xs) (outs S.M t ys) ≡ true = rw w.outputs (list_same (outs S.M t ys)) in
        (judged (get_or xs b 0) (get_or ys b 0)).no' (not-true _ (rw same at v)) differ

    pub fails_test : works_test S.M starts conflict b a ≡ false → Works S b a → ⊥
    unfolding works_test agree
    fails_test e f =
        let u = starts_false held (λ s. all_starts starts (λ t. both_runs s t)) e in
        let v = starts_false held (λ t. both_runs u.0 t) u.2 in
        let x = words_false S.M.inputs (b + 1 + a) (λ xs. second_runs u.0 v.0 xs) v.2 in
        let y = words_false S.M.inputs (b + 1 + a) (λ ys. agrees u.0 v.0 x.xs ys) x.fails in
        let same = same_list (outs S.M u.0 x.xs) (outs S.M v.0 y.xs) in
        let d = differs same (not (conflict (get_or x.xs b 0) (get_or y.xs b 0))) y.fails in
        f u.0 v.0 x.xs y.xs u.1 v.1
        (record {
          letters₁ = x.below;
          letters₂ = y.below;
          length₁ = x.long;
          length₂ = y.long;
          outputs = same_list_lem _ _ d.0;
        })
        ((judged (get_or x.xs b 0) (get_or y.xs b 0)).yes' (not-false _ d.1))

-- ---- the least window in an order: it works, and none that comes before it does

module _ (M : Machine) (starts : ℕ) (conflict : ℕ → ℕ → Bool) (o : Order) (b a : ℕ) where
  -- b a comes no later than the window b' a', or that does not work
  unfoldable pub later_or_fails : ℕ → ℕ → Bool
  later_or_fails b' a' = cond (no_later o (window b a 0) (window b' a' 0)) true (not (works_test M starts conflict b' a'))

  -- tried up to N (N + 1) / 2 letters a side, from the smallest number of letters before on
  unfoldable pub least_test : Bool
  least_test =
      let n = pairs M.states in
      works_test M starts conflict b a && all_below (n + 1) (λ k. all_below (n + 1) (λ a'. later_or_fails (n - k) a'))

module _ (S : Setting) {starts : ℕ} (held : Holds S.Start starts) (conflict : ℕ → ℕ → Bool)
    (judged : (i j : ℕ) → Judges (S.Conflict i j) (conflict i j)) (o : Order) (b a : ℕ) where
  abbrev later_test : ℕ → ℕ → Bool
  later_test = later_or_fails S.M starts conflict o b a

  later_or_fails_lem : (b' a' : ℕ) → later_test b' a' ≡ true → Works S b' a' → relation_of o b a b' a'
  unfolding later_or_fails
  later_or_fails_lem b' a' e f = go (no_later o (window b a 0) (window b' a' 0)) refl e
    where
      go :
          (t : Bool) → no_later o (window b a 0) (window b' a' 0) ≡ t → cond t true (not (works_test S.M starts conflict b' a')) ≡ true →
          relation_of o b a b' a'
      go true z h = (no_later_lem o (window b a 0) (window b' a' 0)).0 z
      go false z h = absurd (fails_test S held conflict judged b' a' (not-true _ h) f)

  pub least_test_lem :
      Closed S → ((s : ℕ) → Dec (S.Start s)) → Bounded S → least_test S.M starts conflict o b a ≡ true → Least (relation_of o) S b a
  unfolding least_test
  least_test_lem closed decided bounded e =
      let n = pairs S.M.states in
      let settled : (d : Direction) → Settled S d n = λ d. settled_by S decided bounded d n (omega arith) in
      let row : ℕ → Bool = λ k. all_below (n + 1) (λ a'. later_test (n - k) a') in
      let z = both_true (works_test S.M starts conflict b a) (all_below (n + 1) row) e in
      let works = works_test_lem S held conflict judged b a z.0 in
      least_within (is_order o) S closed n (settled forward) n (settled back) b a works (λ b' a' l m f.
      let r = all_at (n + 1) row z.1 (n - b') (omega arith) in
      let same : n - (n - b') ≡ b' = omega arith in
      later_or_fails_lem b' a' (rw same at (all_at (n + 1) (λ a'. later_test (n - (n - b')) a') r a' (omega arith))) f)

-- the least window for letters, with a settle count
pub least_letters :
    (M : Machine) (starts p : ℕ) → Total M → 0 < M.states → Holds (StartAfter M p) starts → (o : Order) (b a : ℕ) →
    least_test M starts apart o b a ≡ true → Least (relation_of o) (after_letters M p) b a
least_letters M starts p total some held o b a =
    least_test_lem (after_letters M p) held apart apart_judged o b a (after_closed M p) (dec_start_after M total some p)
    (after_bounded M total some p)

-- ---- looped pairs

module _ (M : Machine) (starts : ℕ) (p : LoopedPair) where
  unfoldable pub closes_test : Run → Bool
  closes_test r =
      is_start starts (start_of p r) &&
      (letters_below M.inputs (run_inputs p r) &&
      (eqb (end M (start_of p r) (letters_from p r 0 p.back_loop)) (start_of p r) &&
      eqb (end M (start_of p r) (run_inputs p r)) (end M (start_of p r) (letters_from p r 0 (unlooped p)))))

  unfoldable pub valid_test : (ℕ → ℕ → Bool) → Bool
  valid_test conflict =
      leb (2 * letters p) (length p.bytes) &&
      (ltb 0 p.back_loop &&
      (ltb 0 p.forward_loop &&
      (same_list (outs M p.s (run_inputs p first)) (outs M p.t (run_inputs p second)) &&
      (conflict (letter_at p first (mark p)) (letter_at p second (mark p)) && (closes_test first && closes_test second)))))

module _ (S : Setting) {starts : ℕ} (held : Holds S.Start starts) (conflict : ℕ → ℕ → Bool)
    (judged : (i j : ℕ) → Judges (S.Conflict i j) (conflict i j)) (p : LoopedPair) where
  abbrev M : Machine
  M = S.M

  record ClosedRun (r : Run) : Type 0 where
    start : is_start starts (start_of p r) ≡ true
    below : Letters M.inputs (run_inputs p r)
    back_closed : end M (start_of p r) (letters_from p r 0 p.back_loop) ≡ start_of p r
    forward_closed : end M (start_of p r) (run_inputs p r) ≡ end M (start_of p r) (letters_from p r 0 (unlooped p))

  closed_run : (r : Run) → closes_test M starts p r ≡ true → ClosedRun r
  unfolding closes_test
  closed_run r e =
      let f = eqb (end M (start_of p r) (run_inputs p r)) (end M (start_of p r) (letters_from p r 0 (unlooped p))) in
      let b = eqb (end M (start_of p r) (letters_from p r 0 p.back_loop)) (start_of p r) in
      let l = letters_below M.inputs (run_inputs p r) in
      let x = both_true (is_start starts (start_of p r)) (l && (b && f)) e in
      let y = both_true l (b && f) x.1 in
      let z = both_true b f y.1 in
      record {
        start = x.0;
        below = letters_below_lem M.inputs (run_inputs p r) y.0;
        back_closed = eqb-true _ _ z.0;
        forward_closed = eqb-true _ _ z.1;
      }

  pub valid_test_lem : valid_test M starts p conflict ≡ true → Valid S p
  unfolding valid_test
  valid_test_lem e =
      let c = (closes_test M starts p first && closes_test M starts p second) in
      let d = conflict (letter_at p first (mark p)) (letter_at p second (mark p)) in
      let o = same_list (outs M p.s (run_inputs p first)) (outs M p.t (run_inputs p second)) in
      let f = ltb 0 p.forward_loop in
      let b = ltb 0 p.back_loop in
      let x = both_true (leb (2 * letters p) (length p.bytes)) (b && (f && (o && (d && c)))) e in
      let y = both_true b (f && (o && (d && c))) x.1 in
      let z = both_true f (o && (d && c)) y.1 in
      let u = both_true o (d && c) z.1 in
      let v = both_true d c u.1 in
      let w = both_true (closes_test M starts p first) (closes_test M starts p second) v.1 in
      let run : (r : Run) → ClosedRun r = λ r. elim r as (λ k. ClosedRun k) [ first ↦ closed_run first w.0 | second ↦ closed_run second w.1 ] in
      record {
        held = leb-true _ _ x.0;
        start = λ r. test_start held (start_of p r) (run r).start;
        below = λ r. (run r).below;
        back_letter = ltb-true _ _ y.0;
        forward_letter = ltb-true _ _ z.0;
        outputs = same_list_lem _ _ u.0;
        conflict = (judged _ _).yes' v.0;
        back_closed = λ r. (run r).back_closed;
        forward_closed = λ r. (run r).forward_closed;
      }

-- and the other way round, of letters
module _ (M : Machine) {starts : ℕ} (held : Holds (Reachable M) starts) (p : LoopedPair) (v : Valid (from_reachable M) p) where
  runs_closed : (r : Run) → closes_test M starts p r ≡ true
  unfolding closes_test
  runs_closed r =
      rw (
        start_test held (start_of p r) (v.start r),
        letters_test M.inputs (run_inputs p r) (v.below r),
        eq-eqb (end M (start_of p r) (letters_from p r 0 p.back_loop)) (start_of p r) (v.back_closed r),
        eq-eqb (end M (start_of p r) (run_inputs p r)) (end M (start_of p r) (letters_from p r 0 (unlooped p))) (v.forward_closed r),
      )

  pub test_valid : valid_test M starts p apart ≡ true
  unfolding valid_test
  test_valid =
      let same : same_list (outs M p.s (run_inputs p first)) (outs M p.t (run_inputs p second)) ≡ true =
      rw v.outputs (list_same (outs M p.t (run_inputs p second))) in
      rw (
        le-leb (2 * letters p) (length p.bytes) v.held,
        lt-ltb 0 p.back_loop v.back_letter,
        lt-ltb 0 p.forward_loop v.forward_letter,
        same,
        ne_eqb (letter_at p first (mark p)) (letter_at p second (mark p)) v.conflict,
        runs_closed first,
        runs_closed second,
      )

-- ---- the first pair, of three letters

abbrev pub lexicographic_test : List ℕ → List ℕ → Bool
lexicographic_test [] ys = true
lexicographic_test (x ∷ xs) [] = false
lexicographic_test (x ∷ xs) (y ∷ ys) = cond (eqb x y) (lexicographic_test xs ys) (ltb x y)

lexicographic_test_lem : (xs ys : List ℕ) → lexicographic_test xs ys ≡ true → Lexicographic xs ys
lexicographic_test_lem [] ys e = tt
lexicographic_test_lem (x ∷ xs) [] e = absurd (true_false e refl)
lexicographic_test_lem (x ∷ xs) (y ∷ ys) e = elim (ℕ_discrete x y) [
  | yes q ↦ (omega arith, λ _. lexicographic_test_lem xs ys (rw (eq-eqb x y q) at e))
  | no q ↦ (let l : x < y = ltb-true x y (rw (ne_eqb x y q) at e) in omega arith, λ f. absurd (q f))
]

module _ (M : Machine) (starts s t : ℕ) (bytes : List ℕ) where
  -- another pair of three letters is not valid, or comes no earlier
  unfoldable pub no_earlier : ℕ → ℕ → List ℕ → Bool
  no_earlier s' t' w = cond (valid_test M starts (pair s' t' w) apart) (lexicographic_test (s ∷ t ∷ bytes) (s' ∷ t' ∷ w)) true

  unfoldable pub first_test : Bool
  first_test =
      valid_test M starts (pair s t bytes) apart &&
      (eqb (length bytes) 6 && all_starts starts (λ s'. all_starts starts (λ t'. all_words M.inputs 6 (no_earlier s' t'))))

  module _ (held : Holds (Reachable M) starts) (e : first_test ≡ true) where
    record Parts : Type 0 where
      valid : valid_test M starts (pair s t bytes) apart ≡ true
      size : length bytes ≡ 6
      others : all_starts starts (λ s'. all_starts starts (λ t'. all_words M.inputs 6 (no_earlier s' t'))) ≡ true

    parts : Parts
    unfolding first_test
    parts =
        let o = all_starts starts (λ s'. all_starts starts (λ t'. all_words M.inputs 6 (no_earlier s' t'))) in
        let x = both_true (valid_test M starts (pair s t bytes) apart) (eqb (length bytes) 6 && o) e in
        let y = both_true (eqb (length bytes) 6) o x.1 in
        record { valid = x.0; size = eqb-true _ _ y.0; others = y.1 }

    pub first_size : length bytes ≡ 6
    first_size = parts.size

    -- another valid pair of three letters, with those bytes alone
    no_earlier_lem :
        (s' t' : ℕ) (w : List ℕ) → Valid (from_reachable M) (pair s' t' w) → Letters M.inputs w → length w ≡ 6 →
        Lexicographic (s ∷ t ∷ bytes) (s' ∷ t' ∷ w)
    unfolding no_earlier
    no_earlier_lem s' t' w v l n =
        let x = starts_at held (λ a. all_starts starts (λ b. all_words M.inputs 6 (no_earlier a b))) parts.others s' (v.start first) in
        let y = starts_at held (λ b. all_words M.inputs 6 (no_earlier s' b)) x t' (v.start second) in
        let z = words_at M.inputs 6 (no_earlier s' t') y w l n in
        lexicographic_test_lem (s ∷ t ∷ bytes) (s' ∷ t' ∷ w) (rw (test_valid M held (pair s' t' w) v) at z)

    -- a valid pair with three letters in all has one in each loop and none between them and the mark
    three_letters :
        (q : LoopedPair) → Valid (from_reachable M) q → (n : ℕ) → 2 * letters q ≡ n → letters q ≡ 3 →
        Lexicographic (s ∷ t ∷ bytes) (q.s ∷ q.t ∷ take n q.bytes)
    three_letters q v n f d =
        let b = v.back_letter in
        let c = v.forward_letter in
        let e₁ : q.back_loop ≡ 1 = omega arith in
        let e₂ : q.lead_in ≡ 0 = omega arith in
        let e₃ : q.lead_out ≡ 0 = omega arith in
        let e₄ : q.forward_loop ≡ 1 = omega arith in
        let cut : Valid (from_reachable M) (with_bytes q (take n q.bytes)) = rw f at (valid_cut (from_reachable M) q v) in
        no_earlier_lem q.s q.t (take n q.bytes) (three_as e₁ e₂ e₃ e₄ cut) (rw f at (valid_letters (from_reachable M) q v))
        (length-take-le n q.bytes (omega (arith, v.held)) ∙ omega arith)
      where
        three_as :
            {s' t' bl li lo fl : ℕ} {w : List ℕ} → bl ≡ 1 → li ≡ 0 → lo ≡ 0 → fl ≡ 1 →
            Valid (from_reachable M) (record { s = s'; t = t'; back_loop = bl; lead_in = li; lead_out = lo; forward_loop = fl; bytes = w }) →
            Valid (from_reachable M) (pair s' t' w)
        three_as e₁ e₂ e₃ e₄ h = rw (e₁, e₂, e₃, e₄) at h

    pub first_test_lem : First (from_reachable M) (pair s t bytes)
    first_test_lem = record { valid = valid_test_lem (from_reachable M) held apart apart_judged (pair s t bytes) parts.valid; first = go }
      where
        go : (q : LoopedPair) → Valid (from_reachable M) q → Lexicographic (key (pair s t bytes)) (key q)
        go q v =
            let b = v.back_letter in
            let c = v.forward_letter in
            let own : take 6 bytes ≡ bytes = take_all 6 bytes (omega (arith, parts.size)) in (
              omega arith,
              λ e₀.
                  let z = three_letters q v (2 * letters q) refl (sym e₀) in (
                    z.0,
                    λ e₁. (
                      (z.1 e₁).0,
                      λ e₂. (omega arith, λ _. (omega arith, λ _. (omega arith, λ _. (omega arith, λ _. rw own ((z.1 e₁).1 e₂))))),
                    ),
                  ),
            )

-- ---- outputs of equal states

module _ (M : Machine) where
  unfoldable pub different_test : Bool
  different_test =
      all_below M.states (λ s. all_below M.inputs (λ i. all_below M.inputs (λ j.
      cond (eqb i j) true (not (eqb (M.out s i) (M.out s j))))))

  pub different_test_lem : different_test ≡ true → (s i j : ℕ) → s < M.states → i < M.inputs → j < M.inputs → i ≢ j → M.out s i ≢ M.out s j
  unfolding different_test
  different_test_lem e s i j l m n d =
      let row : ℕ → ℕ → ℕ → Bool = λ s i j. cond (eqb i j) true (not (eqb (M.out s i) (M.out s j))) in
      let u = all_at M.states (λ s. all_below M.inputs (λ i. all_below M.inputs (row s i))) e s l in
      let v = all_at M.inputs (λ i. all_below M.inputs (row s i)) u i m in
      let w = all_at M.inputs (row s i) v j n in
      eqb-false _ _ (not-true _ (rw (ne_eqb i j d) at w))
