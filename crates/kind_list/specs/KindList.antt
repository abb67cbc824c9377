-- The kind list of a call: a byte for each input letter (document 02, 8/13, second sentence), and what it is refused for (last sentence).
use Rattle.std.specs.Prelude.{ℕ, ◌<◌, ◌≡◌, Bool, not, ◌&&◌, List, length, get_or, eqb}
use Rattle.mealy.specs.Machine.{Letters}
use Rattle.coder.specs.Limits.{max_inputs}
use Rattle.coder.specs.Refusal.{refuse, first, letters_below}
use Rattle.coder.specs.File.{file_refusal, inputs_of}

-- the kind of letter i; 0 where the list has none
abbrev pub kind_of : List ℕ → ℕ → ℕ
kind_of kinds i = get_or kinds i 0

-- The test behind refusal 16: the list is n bytes, and each is below n.
abbrev pub kinds_fit : ℕ → List ℕ → Bool
kinds_fit n kinds = eqb (length kinds) n && letters_below n kinds

-- The file's refusals and 16: what both calls for kinds are refused for first.
unfoldable pub list_refusal : List ℕ → List ℕ → ℕ
list_refusal f kinds = first (file_refusal f) (refuse (not (kinds_fit (inputs_of f) kinds)) 16 0)

-- what the test says
pub record KindsFit (n : ℕ) (kinds : List ℕ) : Type 0 where
  pub size : length kinds ≡ n
  pub below : Letters n kinds

-- what the functions on the list ask: each kind is a bit of a word
abbrev pub KindsLow : List ℕ → Type 0
KindsLow kinds = (i : ℕ) → kind_of kinds i < max_inputs
