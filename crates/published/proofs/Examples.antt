-- The definitions that the list is ordered by, by computation: lists of numbers that follow the order and that do not, which rules have
-- number 15, and the numbers of two files in turn.
use mathlib.Core.Path.{◌≡◌, refl}
use mathlib.Core.Bool.{true, false}
use mathlib.Core.List.{List, [], ◌∷◌, ◌++◌}
use Prim.Native.Nat.{ℕ}
use lib.ListN.{take, drop}
use Rattle.values.specs.declared.Window.{Window}
use Rattle.published.specs.Published.{without, order, order_in_row, follows, Bytes, start_rule, settle_rule, number_rule, table_rule, buffers_rule}
use Rattle.published.specs.Published.{inputs_rule, received_rule, file_rules, parts_rules, window_rules, kinds_rule, sides_rule}
use Rattle.published.specs.Published.{first_number, row_rule, given_join}
use Rattle.published.specs.Alphabet.{parity}
use Rattle.coder.specs.Refusal.{all_below, some_below}
use Rattle.coder.specs.Alphabet.{named}
use Rattle.coder.specs.File.{within, entry_in_range}

-- in the order, which is not that of the numbers themselves; with numbers left out
pub in_order : follows (6 ∷ 15 ∷ 7 ∷ 14 ∷ 9 ∷ 13 ∷ []) order ≡ true
unfolding follows
in_order = refl

-- a number may stand twice, side by side and not otherwise
pub twice : follows (7 ∷ 7 ∷ 9 ∷ []) order ≡ true
unfolding follows
twice = refl

pub again : follows (7 ∷ 9 ∷ 7 ∷ []) order ≡ false
unfolding follows
again = refl

-- two exchanged
pub exchanged : follows (9 ∷ 14 ∷ []) order ≡ false
unfolding follows
exchanged = refl

-- a number that the list does not have
pub not_listed : follows (13 ∷ 21 ∷ []) order ≡ false
unfolding follows
not_listed = refl

-- 16 directly after 7, and so before 8
pub kinds_after_start : follows (15 ∷ 7 ∷ 16 ∷ 8 ∷ []) order ≡ true
unfolding follows
kinds_after_start = refl

pub kinds_after_sides : follows (8 ∷ 16 ∷ []) order ≡ false
unfolding follows
kinds_after_sides = refl

pub kinds_before_start : follows (16 ∷ 7 ∷ []) order ≡ false
unfolding follows
kinds_before_start = refl

-- the order of a call that is given two files is the order, with 17 put in
pub with_17 : order_in_row ≡ take 13 order ++ (17 ∷ drop 13 order)
with_17 = refl

-- 17 after 10 and before 11
pub row_after_table : follows (15 ∷ 10 ∷ 17 ∷ 11 ∷ []) order_in_row ≡ true
unfolding follows
row_after_table = refl

pub row_after_buffers : follows (11 ∷ 17 ∷ []) order_in_row ≡ false
unfolding follows
row_after_buffers = refl

pub row_before_table : follows (17 ∷ 10 ∷ []) order_in_row ≡ false
unfolding follows
row_before_table = refl

-- the numbers of a second file do not go on with the order, but begin it again
pub second_file : follows (15 ∷ 1 ∷ []) order_in_row ≡ false
unfolding follows
second_file = refl

-- A coder's rules have number 15; the rules behind them, of each call, do not, whatever it is given.
pub file_has : (f : List ℕ) → without 15 (file_rules f) ≡ false
file_has f = refl

pub parts_have : (n i o : ℕ) (entries : List ℕ) → without 15 (parts_rules n i o entries) ≡ false
parts_have n i o entries = refl

pub run_without :
    (f xs : List ℕ) (s : ℕ) (bs : List Bytes) → without 15 (start_rule f s ∷ buffers_rule bs ∷ inputs_rule f xs ∷ []) ≡ true
run_without f xs s bs = refl

pub search_without : (p : ℕ) (bs : List Bytes) → without 15 (settle_rule p ∷ buffers_rule bs ∷ []) ≡ true
search_without p bs = refl

pub search_kinds_without : (f kinds : List ℕ) (bs : List Bytes) → without 15 (kinds_rule f kinds ∷ buffers_rule bs ∷ []) ≡ true
search_kinds_without f kinds bs = refl

pub window_kinds_without :
    (f kinds xs : List ℕ) (b a n m : ℕ) (bs : List Bytes) →
    without 15 (kinds_rule f kinds ∷ sides_rule b a ∷ number_rule n m ∷ buffers_rule bs ∷ received_rule f xs ∷ []) ≡ true
window_kinds_without f kinds xs b a n m bs = refl

pub check_without :
    (f xs : List ℕ) (s t n m : ℕ) (bs : List Bytes) →
    without 15 (start_rule f s ∷ start_rule f t ∷ number_rule n m ∷ buffers_rule bs ∷ inputs_rule f xs ∷ []) ≡ true
check_without f xs s t n m bs = refl

pub window_without :
    (f xs : List ℕ) (w : Window) (n m : ℕ) (bs : List Bytes) →
    without 15 (window_rules w (number_rule n m ∷ buffers_rule bs ∷ received_rule f xs ∷ [])) ≡ true
window_without f xs w n m bs = refl

pub string_without :
    (f xs : List ℕ) (w : Window) (bs : List Bytes) → without 15 (window_rules w (buffers_rule bs ∷ received_rule f xs ∷ [])) ≡ true
string_without f xs w bs = refl

pub table_without :
    (f : List ℕ) (w : Window) (bs : List Bytes) → without 15 (window_rules w (table_rule f w ∷ buffers_rule bs ∷ [])) ≡ true
table_without f w bs = refl

pub write_without : (bs : List Bytes) → without 15 (buffers_rule bs ∷ []) ≡ true
write_without bs = refl

pub join_without : (f g : List ℕ) (bs : List Bytes) → without 15 (row_rule f g ∷ buffers_rule bs ∷ []) ≡ true
join_without f g bs = refl

-- ---- two coders in a row: coder A, which may be behind itself

-- coder C: one state, two input letters, one output letter
abbrev one : List ℕ
one = 1 ∷ 0 ∷ 7 ∷ 1 ∷ 2 ∷ 1 ∷ 0 ∷ 0 ∷ 0 ∷ 0 ∷ []

-- five states in a circle and four in one, with two letters each, the second of which every entry but one puts out
abbrev five : List ℕ
five = 1 ∷ 0 ∷ 23 ∷ 5 ∷ 2 ∷ 2 ∷ 1 ∷ 0 ∷ 1 ∷ 1 ∷ 2 ∷ 1 ∷ 2 ∷ 1 ∷ 3 ∷ 1 ∷ 3 ∷ 1 ∷ 4 ∷ 1 ∷ 4 ∷ 1 ∷ 0 ∷ 1 ∷ 0 ∷ 1 ∷ []

abbrev four : List ℕ
four = 1 ∷ 0 ∷ 19 ∷ 4 ∷ 2 ∷ 2 ∷ 1 ∷ 0 ∷ 1 ∷ 1 ∷ 2 ∷ 1 ∷ 2 ∷ 1 ∷ 3 ∷ 1 ∷ 3 ∷ 1 ∷ 0 ∷ 1 ∷ 0 ∷ 1 ∷ []

abbrev join_number : List ℕ → List ℕ → ℕ
join_number f g = first_number (given_join f g [] [])

-- a number of the first file before any of the second, those of the second before 17, and 17 before 11
pub first_before_second : join_number (parity 3) [] ≡ 15
unfolding within all_below entry_in_range named some_below
first_before_second = refl

pub second_before_row : join_number one (parity 3) ≡ 15
unfolding within all_below entry_in_range named some_below
second_before_row = refl

-- C puts out one letter and A takes two; the other way round the first O is the second I, and then 11
pub letters_differ : join_number one (parity 2) ≡ 17
unfolding within all_below entry_in_range named some_below
letters_differ = refl

pub letters_match : join_number (parity 2) one ≡ 11
unfolding within all_below entry_in_range named some_below
letters_match = refl

-- 5 × 4 states are above 16, and 4 × 4 are not
pub twenty_states : join_number five four ≡ 17
unfolding within all_below entry_in_range named some_below
twenty_states = refl

pub sixteen_states : join_number four four ≡ 11
unfolding within all_below entry_in_range named some_below
sixteen_states = refl
