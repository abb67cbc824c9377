-- Each call is refused as the rules about what it is given say, and the numbers of these follow the published order.
use mathlib.Core.Path.{◌≡◌, refl, sym, ap, ◌∙◌}
use mathlib.Core.Bool.{Bool, true, false, ◌&&◌}
use mathlib.Core.List.{List, [], ◌∷◌, ◌++◌}
use Prim.Native.Nat.{ℕ, zero, suc, ◌+◌, ◌-◌, ◌*◌, ◌≤◌}
use native.Mathlib.Decide.{ℕ_discrete}
use native.Mathlib.Omega.{arith}
use lib.ListN.{length, length-drop}
use lib.Dec.{ltb, leb, eqb}
use borrow.Author.Tests.{eq-eqb, ne_eqb, ltb-false, eqb-true}
use Rattle.decoder_refusal.specs.Refusal.{limits_refusal, window_refusal, string_refusal, table_size, table_refusal, places, string_refusal_in}
use Rattle.decoder_refusal.specs.Refusal.{table_refusal_in}
use Rattle.mealy.specs.LoopedPair.{LoopedPair, letters}
use Rattle.coder.specs.Refusal.{first}
use Rattle.coder.specs.File.{version_of, count_field, states_of, inputs_of, outputs_of, entries_of, file_of, in_range, entries_refusal, file_refusal}
use Rattle.coder.proofs.Refusals.{both_right}
use Rattle.layout.specs.Host.{roomy}
use Rattle.running.specs.Run.{run_refusal, run_refusal_in}
use Rattle.values.specs.Window.{size}
use Rattle.values.specs.declared.Window.{Window}
use Rattle.window_limits.specs.Refusal.{sides_refusal, settle_refusal}
use Rattle.search.specs.Search.{search_refusal, search_refusal_in}
use Rattle.writer.specs.Write.{write_refusal, write_refusal_in}
use Rattle.checker.specs.Check.{check_refusal}
use Rattle.kind_list.specs.KindList.{list_refusal}
use Rattle.search_kinds.specs.Search.{search_kinds_refusal}
use Rattle.window_kinds.specs.Window.{window_kinds_refusal}
use Rattle.published.specs.Published.{Rule, first_number, start_rule, sides_rule, settle_rule, number_rule, table_rule, Bytes, lent}
use Rattle.published.specs.Published.{long_enough, buffers_rule, inputs_rule, received_rule, file_rules, parts_rules, window_rules}
use Rattle.published.specs.Published.{given_run, given_search, given_check, given_window, given_string, given_table, given_write}
use Rattle.published.specs.Published.{kinds_rule, given_search_kinds, given_window_kinds, result_given, follows, CallsInOrder}
use Rattle.published.specs.Published.{row_rule, given_second, given_join}
use Rattle.joining.specs.Join.{join_refusal, join_refusal_in}
use Rattle.joining.proofs.Files.{joined_size}
use Rattle.published.proofs.Rules.{first_joined, asked_both}

-- ---- a coder: counts and entries, and a file

pub parts_published : (n i o : ℕ) (entries : List ℕ) → entries_refusal n i o entries ≡ first_number (parts_rules n i o entries)
unfolding entries_refusal in_range
parts_published n i o entries = refl

module _ (f : List ℕ) where
  abbrev entries : ℕ
  entries = states_of f * inputs_of f

  -- past numbers 1 to 3, the count field says whether the entry bytes are of the right number
  size_test :
      6 ≤ length f → count_field f ≡ length f - 3 →
      eqb (count_field f) (3 + 2 * entries) ≡ eqb (length (entries_of f)) (2 * entries)
  size_test l e =
      let d = length-drop 6 f in
      elim (ℕ_discrete (length (entries_of f)) (2 * entries)) [
        | yes p ↦ rw (eq-eqb (length (entries_of f)) (2 * entries) p) (eq-eqb (count_field f) (3 + 2 * entries) (omega arith))
        | no p ↦
            rw (ne_eqb (length (entries_of f)) (2 * entries) p)
            (ne_eqb (count_field f) (3 + 2 * entries) (λ q. p (omega arith)))
      ]

  pub file_published : file_refusal f ≡ first_number (file_rules f)
  unfolding file_refusal
  file_published = go (ltb (length f) 6) (eqb (version_of f) 1) (eqb (count_field f) (length f - 3)) refl refl refl
    where
      go :
          (a b c : Bool) → ltb (length f) 6 ≡ a → eqb (version_of f) 1 ≡ b → eqb (count_field f) (length f - 3) ≡ c →
          file_refusal f ≡ first_number (file_rules f)
      go true b c p q r = rw p
      go false false c p q r = rw (p, q)
      go false true false p q r = rw (p, q, r)
      go false true true p q r =
          rw (p, q, r, size_test (ltb-false _ _ p) (eqb-true _ _ r))
          (parts_published (states_of f) (inputs_of f) (outputs_of f) (entries_of f))

  -- in front of other rules
  file_first : (rs : List Rule) → first (file_refusal f) (first_number rs) ≡ first_number (file_rules f ++ rs)
  file_first rs = ap (λ k. first k (first_number rs)) file_published ∙ sym (first_joined (file_rules f) rs refl)

  -- ---- the calls

  pub run_published :
      (s : ℕ) (xs before : List ℕ) (others : List Bytes) →
      run_refusal_in f s xs (length before) (long_enough others) ≡ first_number (given_run f s xs before others)
  unfolding run_refusal
  run_published s xs before others =
      file_first (start_rule f s ∷ buffers_rule (lent before (length xs) ∷ others) ∷ inputs_rule f xs ∷ [])

  settle_first : (p : ℕ) (rs : List Rule) → first (settle_refusal p) (first_number rs) ≡ first_number (settle_rule p ∷ rs)
  unfolding settle_refusal
  settle_first p rs = sym (first_joined (settle_rule p ∷ []) rs refl)

  pub search_published :
      (p : ℕ) (before : List ℕ) (others : List Bytes) →
      search_refusal_in f p (length before) (long_enough others) ≡ first_number (given_search f p before others)
  unfolding search_refusal
  search_published p before others =
      let rest = buffers_rule (lent before 1026 ∷ others) ∷ [] in
      ap (first (file_refusal f)) (settle_first p rest) ∙ file_first (settle_rule p ∷ rest)

  pub check_published :
      (p : LoopedPair) (others : List Bytes) → check_refusal f p (long_enough others) ≡ first_number (given_check f p others)
  unfolding check_refusal
  check_published p others =
      let rest = number_rule (length p.bytes) (2 * letters p) ∷ buffers_rule others ∷ inputs_rule f p.bytes ∷ [] in
      ap (first (file_refusal f)) (asked_both (ltb p.s (states_of f)) (ltb p.t (states_of f)) 7 rest)
      ∙ file_first (start_rule f p.s ∷ start_rule f p.t ∷ rest)

  first_first : (a b x : ℕ) → first (first a b) x ≡ first a (first b x)
  first_first zero b x = refl
  first_first (suc a) b x = refl

  sides_first : (b a : ℕ) (rs : List Rule) → first (sides_refusal b a) (first_number rs) ≡ first_number (sides_rule b a ∷ rs)
  unfolding sides_refusal
  sides_first b a rs = sym (first_joined (sides_rule b a ∷ []) rs refl)

  -- the file, 8 and 14, in front of other rules
  limits_first : (w : Window) (rs : List Rule) → first (limits_refusal f w) (first_number rs) ≡ first_number (file_rules f ++ window_rules w rs)
  unfolding limits_refusal
  limits_first w rs =
      first_first (file_refusal f) _ _
      ∙ ap (first (file_refusal f))
      (first_first (sides_refusal w.before w.after) _ _
      ∙ ap (first (sides_refusal w.before w.after)) (settle_first w.settle rs)
      ∙ sides_first w.before w.after (settle_rule w.settle ∷ rs))
      ∙ file_first (window_rules w rs)

  pub window_published :
      (w : Window) (received : List ℕ) (others : List Bytes) →
      window_refusal f w received (long_enough others) ≡ first_number (given_window f w received others)
  unfolding window_refusal
  window_published w received others =
      limits_first w (number_rule (length received) (size w) ∷ buffers_rule others ∷ received_rule f received ∷ [])

  pub string_published :
      (w : Window) (received before : List ℕ) (others : List Bytes) →
      string_refusal_in f w received (length before) (long_enough others) ≡ first_number (given_string f w received before others)
  unfolding string_refusal
  string_published w received before others =
      limits_first w (buffers_rule (lent before (places (length received) w) ∷ others) ∷ received_rule f received ∷ [])

  pub table_published :
      (w : Window) (before : List ℕ) (others : List Bytes) →
      table_refusal_in f w (length before) (long_enough others) ≡ first_number (given_table f w before others)
  unfolding table_refusal
  table_published w before others =
      limits_first w (table_rule f w ∷ buffers_rule (lent before (table_size (outputs_of f) w) ∷ others) ∷ [])

  -- the file and 16, in front of other rules
  list_first :
      (kinds : List ℕ) (rs : List Rule) →
      first (list_refusal f kinds) (first_number rs) ≡ first_number (file_rules f ++ (kinds_rule f kinds ∷ rs))
  unfolding list_refusal
  list_first kinds rs =
      first_first (file_refusal f) _ _
      ∙ ap (first (file_refusal f)) (sym (first_joined (kinds_rule f kinds ∷ []) rs refl))
      ∙ file_first (kinds_rule f kinds ∷ rs)

  pub search_kinds_published :
      (kinds : List ℕ) (others : List Bytes) →
      search_kinds_refusal f kinds (long_enough others) ≡ first_number (given_search_kinds f kinds others)
  unfolding search_kinds_refusal
  search_kinds_published kinds others = list_first kinds (buffers_rule others ∷ [])

  pub window_kinds_published :
      (kinds : List ℕ) (b a : ℕ) (received : List ℕ) (others : List Bytes) →
      window_kinds_refusal f kinds b a received (long_enough others) ≡ first_number (given_window_kinds f kinds b a received others)
  unfolding window_kinds_refusal
  window_kinds_published kinds b a received others =
      let rest = number_rule (length received) (b + 1 + a) ∷ buffers_rule others ∷ received_rule f received ∷ [] in
      ap (first (list_refusal f kinds)) (sides_first b a rest) ∙ list_first kinds (sides_rule b a ∷ rest)

-- ---- the writer, which is given no file

pub write_published :
    (n i o : ℕ) (entries before : List ℕ) (others : List Bytes) →
    write_refusal_in n i o entries (length before) (long_enough others) ≡ first_number (given_write n i o entries before others)
unfolding write_refusal
write_published n i o entries before others =
    let rest = buffers_rule (lent before (length (file_of n i o entries)) ∷ others) ∷ [] in
    ap (λ k. first k (first_number rest)) (parts_published n i o entries) ∙ sym (first_joined (parts_rules n i o entries) rest refl)

-- ---- two coders in a row

pub join_published :
    (f g before : List ℕ) (others : List Bytes) →
    join_refusal_in f g (length before) (long_enough others) ≡ first_number (given_join f g before others)
unfolding join_refusal
join_published f g before others =
    let rest = row_rule f g ∷ buffers_rule (lent before (6 + 2 * (states_of f * states_of g * inputs_of f)) ∷ others) ∷ [] in
    ap (λ n. join_refusal f g (leb n (length before) && long_enough others)) (joined_size f g)
    ∙ ap (first (file_refusal f)) (file_first g rest)
    ∙ file_first f (given_second f g before others)

-- ---- the result buffer of a call from C

pub result_published : (result : List ℕ) → roomy result ≡ long_enough (result_given result)
result_published result = sym (both_right (roomy result))

-- ---- the order

pub calls_in_order : CallsInOrder
unfolding follows
calls_in_order =
    record {
      file = λ f. refl;
      run = λ f s xs before others. refl;
      search = λ f p before others. refl;
      check = λ f p others. refl;
      window = λ f w received others. refl;
      string = λ f w received before others. refl;
      table = λ f w before others. refl;
      search_kinds = λ f kinds others. refl;
      window_kinds = λ f kinds b a received others. refl;
      write = λ n i o entries before others. refl;
      join = λ f g before others. refl;
    }
