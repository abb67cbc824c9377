-- The looped pair that is found: what is asked, and what it is.
use Rattle.std.specs.Prelude.{ℕ, ◌*◌, ◌≤◌, ◌≡◌, List, length, drop}
use Rattle.mealy.specs.Setting.{Setting, worded}
use Rattle.mealy.specs.LoopedPair as mealy
use Rattle.mealy.specs.First.{First}
use Rattle.coder.specs.Table.{machine_of_coder, Sound}
use Rattle.coder.specs.declared.inner.tables.Coder.{Coder}
use Rattle.values.specs.Pair.{pair_of}
use Rattle.values.specs.declared.LoopedPair.{LoopedPair}

-- the most letters of a first pair, 256 + 1 + 256, and the bytes that they take, two for each
abbrev pub most_letters : ℕ
most_letters = 513

abbrev pub wanted : ℕ
wanted = 1026

-- some pair is valid, with no more letters than fit
pub record SomeValid (S : Setting) : Type 0 where
  pub pair : mealy.LoopedPair
  pub valid : mealy.Valid S pair
  pub few : mealy.letters pair ≤ most_letters

pub record FindAsked (c : Coder) (starts : ℕ) (conflicts before : List ℕ) : Type 0 where
  pub sound : Sound c
  pub some : SomeValid (worded (machine_of_coder c) starts conflicts)
  pub room : wanted ≤ length before

-- The pair is the first valid one, and the bytes past its letters stay.
pub record FoundPair (c : Coder) (starts : ℕ) (conflicts : List ℕ) (r : LoopedPair) (before now' : List ℕ) : Type 0 where
  pub first : First (worded (machine_of_coder c) starts conflicts) (pair_of r now')
  pub size : length now' ≡ length before
  pub rest : drop (2 * mealy.letters (pair_of r now')) now' ≡ drop (2 * mealy.letters (pair_of r now')) before
