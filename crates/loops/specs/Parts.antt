-- The steps by which the first pair is found: the tables of costs, the lengths, and the letters part by part.
use Rattle.std.specs.Prelude.{ℕ, suc, ◌+◌, ◌*◌, ◌/◌, ◌%◌, ◌≤◌, ◌<◌, ◌≡◌, List, length, get_or}
use Rattle.mealy.specs.Setting.{Setting, worded}
use Rattle.mealy.specs.LoopedPair.{letters}
use Rattle.coder.specs.Table.{machine_of_coder, Sound}
use Rattle.coder.specs.declared.inner.tables.Coder.{Coder}
use Rattle.values.specs.Pair.{pair_of}
use Rattle.values.specs.declared.LoopedPair.{LoopedPair}
use Rattle.first_pair.specs.Reach.{Reach, At, Cycle, ConflictInto}
use Rattle.first_pair.specs.Lowest.{LowestOf, Lowest, bytes_at}
use Rattle.first_pair.specs.Cost.{CostTable, Looped, Tail, Head, LeastCosts, CostOf, entry, letter_cost, in_cost, out_cost, tail_cost, too_long}
use Rattle.first_pair.specs.Successors.{SuccessorsOf}
use Rattle.first_pair.specs.Found.{LengthsBy, LettersBy}
use Rattle.letters.specs.Walk.{StatePair, StaysOutside}
use Rattle.loops.specs.Pair.{most_letters, wanted, SomeValid}

-- the setting of a coder's tables and words
abbrev pub setting_in : Coder → ℕ → List ℕ → Setting
setting_in c starts conflicts = worded (machine_of_coder c) starts conflicts

-- ---- the tables

-- closed walks, what follows the differing letter, and all that follows the back loop, whatever the start states
pub record CostTablesOf (c : Coder) (conflicts loops tails heads : List ℕ) : Type 0 where
  pub loops_table : CostTable loops
  pub heads_table : CostTable heads
  pub loops_are : LeastCosts c.states (Looped (machine_of_coder c)) loops
  pub tails_are : LeastCosts c.states (Tail (machine_of_coder c)) tails
  pub heads_are : (starts : ℕ) → LeastCosts c.states (Head (setting_in c starts conflicts)) heads

-- ---- starts and lengths

-- what they are found from
pub record LengthsFrom (c : Coder) (starts : ℕ) (conflicts loops heads : List ℕ) : Type 0 where
  pub sound : Sound c
  pub loops_table : CostTable loops
  pub heads_table : CostTable heads
  pub loops_are : LeastCosts c.states (Looped (machine_of_coder c)) loops
  pub heads_are : LeastCosts c.states (Head (setting_in c starts conflicts)) heads
  pub some : SomeValid (setting_in c starts conflicts)

pub record LengthsAsked (states starts : ℕ) (loops heads : List ℕ) : Type 0 where
  pub c : Coder
  pub conflicts : List ℕ
  pub from : LengthsFrom c starts conflicts loops heads
  pub states_are : states ≡ c.states

-- Starts and lengths of the first pair, whatever its letters; no more letters than fit.
pub record LengthsFound (c : Coder) (starts : ℕ) (conflicts loops heads : List ℕ) (r : LoopedPair) : Type 0 where
  pub lengths : (bytes : List ℕ) → LengthsBy (setting_in c starts conflicts) loops heads (pair_of r bytes)
  pub few : r.back_loop + r.lead_in + 1 + r.lead_out + r.forward_loop ≤ most_letters

abbrev pub LengthsDone : ℕ → ℕ → List ℕ → List ℕ → LoopedPair → Type 0
LengthsDone states starts loops heads r =
    (c : Coder) (conflicts : List ℕ) → states ≡ c.states → LengthsFrom c starts conflicts loops heads →
    LengthsFound c starts conflicts loops heads r

-- ---- a loop

-- the pair a has a closed walk of n letters, and none of fewer
pub record ClosedAsked (c : Coder) (words : List ℕ) (a n place : ℕ) (before : List ℕ) : Type 0 where
  pub sound : Sound c
  pub successors : SuccessorsOf (machine_of_coder c) words
  pub pair : StatePair c a
  pub closed : Cycle (machine_of_coder c) n (a / 16) (a % 16)
  pub shortest : (m : ℕ) → Cycle (machine_of_coder c) m (a / 16) (a % 16) → n ≤ m
  pub letters_high : n < too_long
  pub place_high : place ≤ too_long
  pub room : 2 * (place + n) ≤ length before

-- the lowest letters of such a walk stand from `place` on
pub record ClosedWritten (c : Coder) (a n place : ℕ) (before after : List ℕ) : Type 0 where
  pub lowest :
      Lowest (machine_of_coder c) (Reach (machine_of_coder c) (At (a / 16) (a % 16))) n (a / 16) (a % 16) (bytes_at after place n) (a / 16) (a % 16)
  pub kept : StaysOutside place n before after

-- ---- the differing letter

-- the letters i and j conflict, and are on an edge from the pair a to a pair that costs `want`
abbrev pub MarkOf : Coder → List ℕ → List ℕ → ℕ → ℕ → ℕ → ℕ → Type 0
MarkOf c conflicts tails a want i j =
    (starts : ℕ) → ConflictInto (setting_in c starts conflicts) (λ x y. entry tails x y ≡ want) (a / 16) (a % 16) i j

-- there are such letters
pub record SomeMark (c : Coder) (conflicts tails : List ℕ) (a want : ℕ) : Type 0 where
  pub i : ℕ
  pub j : ℕ
  pub mark : MarkOf c conflicts tails a want i j

pub record MarkAsked (c : Coder) (conflicts tails : List ℕ) (a want place : ℕ) (before : List ℕ) : Type 0 where
  pub sound : Sound c
  pub pair : StatePair c a
  pub some : SomeMark c conflicts tails a want
  pub place_high : place ≤ too_long
  pub room : 2 * (place + 1) ≤ length before

-- the lowest of them stand at `place`, and lead to the pair r
pub record MarkWritten (c : Coder) (conflicts tails : List ℕ) (a want place : ℕ) (before after : List ℕ) (r : ℕ) : Type 0 where
  pub lowest :
      (starts : ℕ) →
      LowestOf (ConflictInto (setting_in c starts conflicts) (λ x y. entry tails x y ≡ want) (a / 16) (a % 16))
      (get_or after (2 * place + 0) 0) (get_or after (2 * place + 1) 0)
  pub first : r / 16 ≡ (machine_of_coder c).next (a / 16) (get_or after (2 * place + 0) 0)
  pub second : r % 16 ≡ (machine_of_coder c).next (a % 16) (get_or after (2 * place + 1) 0)
  pub pair : StatePair c r
  pub kept : StaysOutside place 1 before after

-- ---- the letters between the loops

-- what they are written from: the tables, and starts and lengths found by them
pub record BetweenFrom (c : Coder) (starts : ℕ) (conflicts loops tails heads : List ℕ) (p : LoopedPair) : Type 0 where
  pub sound : Sound c
  pub tables : CostTablesOf c conflicts loops tails heads
  pub found : LengthsFound c starts conflicts loops heads p

pub record BetweenAsked (c : Coder) (conflicts tails heads : List ℕ) (p : LoopedPair) (before : List ℕ) : Type 0 where
  pub starts : ℕ
  pub loops : List ℕ
  pub from : BetweenFrom c starts conflicts loops tails heads p
  pub room : wanted ≤ length before

-- lead-in, differing letter and lead-out stand after the back loop's place, each with the lowest letters by the tables; they lead to the
-- pair r
pub record BetweenWritten (c : Coder) (starts : ℕ) (conflicts tails heads : List ℕ) (p : LoopedPair) (before after : List ℕ) (r : ℕ) : Type 0 where
  pub u : ℕ
  pub v : ℕ
  pub lead_in :
      Lowest (machine_of_coder c) (CostOf heads in_cost (letter_cost + tail_cost p.lead_out p.forward_loop)) p.lead_in p.s p.t
      (bytes_at after p.back_loop p.lead_in) u v
  pub mark :
      LowestOf (ConflictInto (setting_in c starts conflicts) (λ x y. entry tails x y ≡ tail_cost p.lead_out p.forward_loop) u v)
      (get_or after (2 * (p.back_loop + p.lead_in) + 0) 0) (get_or after (2 * (p.back_loop + p.lead_in) + 1) 0)
  pub lead_out :
      Lowest (machine_of_coder c) (CostOf tails out_cost (letter_cost * p.forward_loop)) p.lead_out
      ((machine_of_coder c).next u (get_or after (2 * (p.back_loop + p.lead_in) + 0) 0))
      ((machine_of_coder c).next v (get_or after (2 * (p.back_loop + p.lead_in) + 1) 0))
      (bytes_at after (suc (p.back_loop + p.lead_in)) p.lead_out) (r / 16) (r % 16)
  pub pair : StatePair c r
  pub inside : r < 256
  pub kept : StaysOutside p.back_loop (p.lead_in + 1 + p.lead_out) before after

abbrev pub BetweenDone : Coder → List ℕ → List ℕ → List ℕ → LoopedPair → List ℕ → List ℕ → ℕ → Type 0
BetweenDone c conflicts tails heads p before after r =
    (starts : ℕ) (loops : List ℕ) → BetweenFrom c starts conflicts loops tails heads p →
    BetweenWritten c starts conflicts tails heads p before after r

-- ---- all letters

pub record LettersAsked (c : Coder) (words conflicts tails heads : List ℕ) (p : LoopedPair) (before : List ℕ) : Type 0 where
  pub successors : SuccessorsOf (machine_of_coder c) words
  pub between : BetweenAsked c conflicts tails heads p before

-- the letters are the lowest by the tables, and the bytes past them stay
pub record LettersWritten (c : Coder) (starts : ℕ) (conflicts tails heads : List ℕ) (p : LoopedPair) (before after : List ℕ) : Type 0 where
  pub u : ℕ
  pub v : ℕ
  pub x : ℕ
  pub y : ℕ
  pub lowest : LettersBy (setting_in c starts conflicts) tails heads (pair_of p after) u v x y
  pub kept : StaysOutside 0 (letters (pair_of p after)) before after

abbrev pub LettersDone : Coder → List ℕ → List ℕ → List ℕ → LoopedPair → List ℕ → List ℕ → Type 0
LettersDone c conflicts tails heads p before after =
    (starts : ℕ) (loops : List ℕ) → BetweenFrom c starts conflicts loops tails heads p →
    LettersWritten c starts conflicts tails heads p before after
