-- The published list of refusals (document 01, "Numbers of refusal, in checking order"; document 02, 3/13, for the writer, 6/13 for number
-- 14, 7/13 for number 15, 8/13 for number 16 and 11/13 for number 17): a rule for each number, the order of the numbers, and each call as
-- the rules about what it is given. The limits are the documents' own numbers here, and not the constants that the definitions of the calls
-- use.
use Rattle.std.specs.Prelude.{ℕ, ◌+◌, ◌-◌, ◌*◌, ◌≡◌, Bool, true, false, not, ◌&&◌, ◌||◌, List, [], ◌∷◌, ◌++◌, length, ltb, leb, eqb}
use Rattle.decoder_refusal.specs.Refusal.{table_size}
use Rattle.mealy.specs.LoopedPair.{LoopedPair, letters}
use Rattle.coder.specs.Refusal.{refuse, all_below, letters_below}
use Rattle.coder.specs.Alphabet.{all_named}
use Rattle.coder.specs.File.{version_of, count_field, states_of, inputs_of, outputs_of, entries_of, file_of, within, entry_in_range}
use Rattle.values.specs.Window.{size}
use Rattle.values.specs.declared.Window.{Window}

-- A number of the list, and whether it applies.
pub record Rule : Type 0 where
  pub number : ℕ
  pub applies : Bool

-- The number applies where what it asks is not kept.
abbrev pub asks : ℕ → Bool → Rule
asks n kept = record { number = n; applies = not kept }

-- The number of the first rule that applies; 0 where none does.
abbrev pub first_number : List Rule → ℕ
first_number [] = 0
first_number (r ∷ rs) = refuse r.applies r.number (first_number rs)

-- No rule of a list has this number.
abbrev pub without : ℕ → List Rule → Bool
without k [] = true
without k (r ∷ rs) = not (eqb r.number k) && without k rs

-- ---- the numbers, each once

-- 1 to 3, of a file
abbrev pub short_rule : List ℕ → Rule
short_rule f = record { number = 1; applies = ltb (length f) 6 }

abbrev pub version_rule : List ℕ → Rule
version_rule f = asks 2 (eqb (version_of f) 1)

abbrev pub length_rule : List ℕ → Rule
length_rule f = asks 3 (eqb (count_field f) (length f - 3))

-- 4, of three counts
abbrev pub counts_rule : ℕ → ℕ → ℕ → Rule
counts_rule n i o = asks 4 (within n 16 && (within i 16 && within o 64))

-- 5: of a file the count field is to be right, of counts and entry bytes the number of these bytes (document 02, 3/13)
abbrev pub size_rule : ℕ → ℕ → Rule
size_rule has wants = asks 5 (eqb has wants)

-- 6 and 15, of the entries
abbrev pub entries_rule : ℕ → ℕ → ℕ → List ℕ → Rule
entries_rule n i o entries = asks 6 (all_below (n * i) (entry_in_range n o entries))

abbrev pub alphabet_rule : ℕ → ℕ → ℕ → List ℕ → Rule
alphabet_rule n i o entries = asks 15 (all_named o (n * i) entries)

-- 7, of a start state
abbrev pub start_rule : List ℕ → ℕ → Rule
start_rule f s = asks 7 (ltb s (states_of f))

-- 16, of a kind list
abbrev pub kinds_rule : List ℕ → List ℕ → Rule
kinds_rule f kinds = asks 16 (eqb (length kinds) (inputs_of f) && letters_below (inputs_of f) kinds)

-- 8 and 14, of a window's sides and of a settle count
abbrev pub sides_rule : ℕ → ℕ → Rule
sides_rule b a = asks 8 (leb b 136 && leb a 136)

abbrev pub settle_rule : ℕ → Rule
settle_rule p = asks 14 (leb p 64)

-- 9: so many letters or bytes there are, and so many there are to be
abbrev pub number_rule : ℕ → ℕ → Rule
number_rule has wants = asks 9 (eqb has wants)

-- 10, of a window whose table is to be filled
abbrev pub table_rule : List ℕ → Window → Rule
table_rule f w = asks 10 (leb (table_size (outputs_of f) w) 65536)

-- 17, of two files in a row: the first O is to be the second I, and the product of the two N at most 16
abbrev pub row_rule : List ℕ → List ℕ → Rule
row_rule f g = asks 17 (eqb (outputs_of f) (inputs_of g) && leb (states_of f * states_of g) 16)

-- 11, of all lent buffers that are written: so many bytes each has, and so many it is to have
pub record Bytes : Type 0 where
  pub has : ℕ
  pub wants : ℕ

abbrev pub lent : List ℕ → ℕ → Bytes
lent buffer wants = record { has = length buffer; wants = wants }

abbrev pub long_enough : List Bytes → Bool
long_enough [] = true
long_enough (b ∷ bs) = leb b.wants b.has && long_enough bs

abbrev pub buffers_rule : List Bytes → Rule
buffers_rule buffers = asks 11 (long_enough buffers)

-- 12 and 13, of input letters and of received letters
abbrev pub inputs_rule : List ℕ → List ℕ → Rule
inputs_rule f xs = asks 12 (letters_below (inputs_of f) xs)

abbrev pub received_rule : List ℕ → List ℕ → Rule
received_rule f xs = asks 13 (letters_below (outputs_of f) xs)

-- ---- what each call is given, as the rules about it; `others` are the lent buffers that it has besides its own

-- numbers 4 and 6 of counts and entries, with what 5 asks of them
abbrev pub entries_rules : ℕ → ℕ → ℕ → List ℕ → Rule → List Rule
entries_rules n i o entries five = counts_rule n i o ∷ five ∷ entries_rule n i o entries ∷ []

-- A file: numbers 1 to 6, and 15. A rule is asked only where no number before it applies: 3 stands behind 1, so that there is a count
-- field, and 6 behind 5, so that there are all entries.
abbrev pub layout_rules : List ℕ → List Rule
layout_rules f =
    short_rule f ∷ version_rule f ∷ length_rule f ∷
    entries_rules (states_of f) (inputs_of f) (outputs_of f) (entries_of f) (size_rule (count_field f) (3 + 2 * (states_of f * inputs_of f)))

abbrev pub file_rules : List ℕ → List Rule
file_rules f = layout_rules f ++ (alphabet_rule (states_of f) (inputs_of f) (outputs_of f) (entries_of f) ∷ [])

-- Three counts and the entry bytes, as the writer has them: 4 to 6, and 15.
abbrev pub parts_layout_rules : ℕ → ℕ → ℕ → List ℕ → List Rule
parts_layout_rules n i o entries = entries_rules n i o entries (size_rule (length entries) (2 * (n * i)))

abbrev pub parts_rules : ℕ → ℕ → ℕ → List ℕ → List Rule
parts_rules n i o entries = parts_layout_rules n i o entries ++ (alphabet_rule n i o entries ∷ [])

-- the coder run: one output letter for each input letter
abbrev pub given_run : List ℕ → ℕ → List ℕ → List ℕ → List Bytes → List Rule
given_run f s xs before others = file_rules f ++ (start_rule f s ∷ buffers_rule (lent before (length xs) ∷ others) ∷ inputs_rule f xs ∷ [])

-- the window search: a settle count, and a buffer for a looped pair's letters, whatever the verdict
abbrev pub given_search : List ℕ → ℕ → List ℕ → List Bytes → List Rule
given_search f p before others = file_rules f ++ (settle_rule p ∷ buffers_rule (lent before 1026 ∷ others) ∷ [])

-- the checker: two bytes for each letter
abbrev pub given_check : List ℕ → LoopedPair → List Bytes → List Rule
given_check f p others =
    file_rules f ++
    (start_rule f p.s ∷ start_rule f p.t ∷ number_rule (length p.bytes) (2 * letters p) ∷ buffers_rule others ∷
    inputs_rule f p.bytes ∷ [])

-- a window, with its settle count, in front of what else a call is given
abbrev pub window_rules : Window → List Rule → List Rule
window_rules w rest = sides_rule w.before w.after ∷ settle_rule w.settle ∷ rest

-- one window
abbrev pub given_window : List ℕ → Window → List ℕ → List Bytes → List Rule
given_window f w received others =
    file_rules f ++ window_rules w (number_rule (length received) (size w) ∷ buffers_rule others ∷ received_rule f received ∷ [])

-- a string of n letters: n − b − a bytes, one for each place with a full window
abbrev pub given_string : List ℕ → Window → List ℕ → List ℕ → List Bytes → List Rule
given_string f w received before others =
    file_rules f ++
    window_rules w (buffers_rule (lent before (length received - (w.before + w.after)) ∷ others) ∷ received_rule f received ∷ [])

-- a decoder table
abbrev pub given_table : List ℕ → Window → List ℕ → List Bytes → List Rule
given_table f w before others =
    file_rules f ++ window_rules w (table_rule f w ∷ buffers_rule (lent before (table_size (outputs_of f) w) ∷ others) ∷ [])

-- the search for kinds, which lends no buffer of its own
abbrev pub given_search_kinds : List ℕ → List ℕ → List Bytes → List Rule
given_search_kinds f kinds others = file_rules f ++ (kinds_rule f kinds ∷ buffers_rule others ∷ [])

-- the decoder of kinds: one window without a settle count
abbrev pub given_window_kinds : List ℕ → List ℕ → ℕ → ℕ → List ℕ → List Bytes → List Rule
given_window_kinds f kinds b a received others =
    file_rules f ++
    (kinds_rule f kinds ∷ sides_rule b a ∷ number_rule (length received) (b + 1 + a) ∷ buffers_rule others ∷ received_rule f received ∷ [])

-- the writer: no file, but counts and entry bytes, and a buffer for the file
abbrev pub given_write : ℕ → ℕ → ℕ → List ℕ → List ℕ → List Bytes → List Rule
given_write n i o entries before others =
    parts_rules n i o entries ++ (buffers_rule (lent before (length (file_of n i o entries)) ∷ others) ∷ [])

-- two coders in a row: behind the first file, the second, both of them, and a buffer for the joined file, which has as many entries as the
-- product of the two N and the first I
abbrev pub given_second : List ℕ → List ℕ → List ℕ → List Bytes → List Rule
given_second f g before others =
    file_rules g ++ (row_rule f g ∷ buffers_rule (lent before (6 + 2 * (states_of f * states_of g * inputs_of f)) ∷ others) ∷ [])

abbrev pub given_join : List ℕ → List ℕ → List ℕ → List Bytes → List Rule
given_join f g before others = file_rules f ++ given_second f g before others

-- the result buffer of a call from C
abbrev pub result_given : List ℕ → List Bytes
result_given result = lent result 64 ∷ []

-- ---- the order of the numbers

abbrev pub order : List ℕ
order = 1 ∷ 2 ∷ 3 ∷ 4 ∷ 5 ∷ 6 ∷ 15 ∷ 7 ∷ 16 ∷ 8 ∷ 14 ∷ 9 ∷ 10 ∷ 11 ∷ 12 ∷ 13 ∷ []

-- the same with 17, which a call that is given two files has besides
abbrev pub order_in_row : List ℕ
order_in_row = 1 ∷ 2 ∷ 3 ∷ 4 ∷ 5 ∷ 6 ∷ 15 ∷ 7 ∷ 16 ∷ 8 ∷ 14 ∷ 9 ∷ 10 ∷ 17 ∷ 11 ∷ 12 ∷ 13 ∷ []

abbrev pub numbers_of : List Rule → List ℕ
numbers_of [] = []
numbers_of (r ∷ rs) = r.number ∷ numbers_of rs

-- The numbers of the first list stand in the second, in its order; one may stand more than once.
unfoldable pub follows : List ℕ → List ℕ → Bool
follows [] ns = true
follows (k ∷ ks) [] = false
follows (k ∷ ks) (n ∷ ns) = (eqb k n && follows ks (n ∷ ns)) || follows (k ∷ ks) ns

-- The numbers of a call's rules follow the published order.
abbrev pub InOrder : List Rule → Type 0
InOrder rs = follows (numbers_of rs) order ≡ true

-- So do those of each call, whatever it is given.
pub record CallsInOrder : Type 0 where
  pub file : (f : List ℕ) → InOrder (file_rules f)
  pub run : (f : List ℕ) (s : ℕ) (xs before : List ℕ) (others : List Bytes) → InOrder (given_run f s xs before others)
  pub search : (f : List ℕ) (p : ℕ) (before : List ℕ) (others : List Bytes) → InOrder (given_search f p before others)
  pub check : (f : List ℕ) (p : LoopedPair) (others : List Bytes) → InOrder (given_check f p others)
  pub window : (f : List ℕ) (w : Window) (received : List ℕ) (others : List Bytes) → InOrder (given_window f w received others)
  pub string : (f : List ℕ) (w : Window) (received before : List ℕ) (others : List Bytes) → InOrder (given_string f w received before others)
  pub table : (f : List ℕ) (w : Window) (before : List ℕ) (others : List Bytes) → InOrder (given_table f w before others)
  pub search_kinds : (f kinds : List ℕ) (others : List Bytes) → InOrder (given_search_kinds f kinds others)
  pub window_kinds :
      (f kinds : List ℕ) (b a : ℕ) (received : List ℕ) (others : List Bytes) → InOrder (given_window_kinds f kinds b a received others)
  pub write : (n i o : ℕ) (entries before : List ℕ) (others : List Bytes) → InOrder (given_write n i o entries before others)
  -- of two files, all numbers of the first, which `file` has, come before those from the second on
  pub join : (f g before : List ℕ) (others : List Bytes) → follows (numbers_of (given_second f g before others)) order_in_row ≡ true
