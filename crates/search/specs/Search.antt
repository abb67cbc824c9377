-- The window search: its refusal, and what its verdict says.
use Rattle.std.specs.Prelude.{ℕ, ◌*◌, ◌≤◌, ◌≡◌, Bool, true, not, ◌&&◌, List, length, drop, leb, Result, Ok}
use Rattle.mealy.specs.Setting.{Setting}
use Rattle.mealy.specs.Window.{Works}
use Rattle.mealy.specs.Order.{Relation, Least as LeastOf}
use Rattle.mealy.specs.Product.{pairs}
use Rattle.mealy.specs.LoopedPair.{letters, TurnedRuns}
use Rattle.mealy.specs.First.{First}
use Rattle.coder.specs.Refusal.{refuse, first, upon}
use Rattle.coder.specs.File.{file_refusal, setting_of, setting_after}
pub use Rattle.loops.specs.Pair.{wanted}
use Rattle.window_limits.specs.Refusal.{settle_refusal}
use Rattle.values.specs.Order.{relation_of}
use Rattle.values.specs.Pair.{pair_of}
use Rattle.values.specs.declared.Window.{Window}
use Rattle.values.specs.declared.Order.{Order}
use Rattle.values.specs.declared.LoopedPair.{LoopedPair}
use Rattle.search.specs.declared.Verdict.{Verdict}
use Rattle.search.specs.declared.Verdict.TheVariants.{Least, NoDecoder}
use Rattle.coder.specs.declared.refusal.Refusal.{Refusal}
use Rattle.coder.specs.Refused.{Refused}

-- The call's refusal, in checking order: the file's, 14 (the settle count p), then 11 (some lent buffer is too short).
unfoldable pub search_refusal : List ℕ → ℕ → Bool → ℕ
search_refusal f p fits = first (file_refusal f) (first (settle_refusal p) (refuse (not fits) 11 0))

-- The letters of a looped pair go into a buffer of `room` bytes; `others` says whether the other lent buffers are long enough.
abbrev pub search_refusal_in : List ℕ → ℕ → ℕ → Bool → ℕ
search_refusal_in f p room others = search_refusal f p (leb wanted room && others)

-- Demand 3, third sentence ("Coders and runs" has the bound on the sides): the window has the settle count of the search, and is in R, the
-- order that the search is made in, the least among all with that settle count that work (document 02, 6/13, the sentence on the search),
-- whatever their sides. The buffer stays.
pub record WindowReport (R : Relation) (S : Setting) (p : ℕ) (w : Window) (before after : List ℕ) : Type 0 where
  pub settle : w.settle ≡ p
  pub least : LeastOf R S w.before w.after
  pub before_small : w.before ≤ pairs S.M.states
  pub after_small : w.after ≤ pairs S.M.states
  pub stays : after ≡ before

-- Demand 3, first and second sentences: no window works, whatever its sides; and the pair in the answer and in the buffer's bytes is
-- the first valid one (document 02, 2/13), and turned k times back and m times forward gives two runs as demanded, for every k and every
-- m. The bytes past its letters stay. S is the setting of the windows, P that of the pairs. That the pair keeps both bounds of N × N
-- letters is a law, `pair_short` of proofs/Determined.antt.
pub record PairReport (S P : Setting) (q : LoopedPair) (before after : List ℕ) : Type 0 where
  pub none : (b a : ℕ) → Works S b a → ⊥
  pub first : First P (pair_of q after)
  pub turned : (k m : ℕ) → TurnedRuns P (pair_of q after) k m
  pub size : length after ≡ length before
  pub rest : drop (2 * letters (pair_of q after)) after ≡ drop (2 * letters (pair_of q after)) before

-- What each verdict says.
abbrev pub Says : Relation → Setting → Setting → ℕ → Verdict → List ℕ → List ℕ → Type 0
Says R S P p (Least w) before after = WindowReport R S p w before after
Says R S P p (NoDecoder q) before after = PairReport S P q before after

-- What it says of a file, in the order o and for the settle count p, which the pairs do not depend on (document 02, 6/13, the sentence on
-- looped pairs).
abbrev pub SaysOf : Order → List ℕ → ℕ → Verdict → List ℕ → List ℕ → Type 0
SaysOf o f p v before after = Says (relation_of o) (setting_after f p) (setting_of f) p v before after

-- It is "no decoder", with whatever pair.
abbrev pub IsNoDecoder : Verdict → Type 0
IsNoDecoder (Least w) = ⊥
IsNoDecoder (NoDecoder q) = Unit {0}

pub record FoundVerdict (o : Order) (f : List ℕ) (p : ℕ) (r : Result Verdict Refusal) (before after : List ℕ) : Type 0 where
  pub verdict : Verdict
  pub is : r ≡ Ok verdict
  pub says : SaysOf o f p verdict before after

pub record RefusedSearch (k : ℕ) (r : Result Verdict Refusal) (before after : List ℕ) : Type 0 where
  pub is : r ≡ Refused k
  pub stays : after ≡ before

-- The first refusal that applies and the buffer as it was, or a verdict that is right for the file's machine, with the least window in the
-- order o (document 02, 1/13) with the settle count p.
abbrev pub SearchWith : Order → List ℕ → ℕ → List ℕ → Bool → Result Verdict Refusal → List ℕ → Type 0
SearchWith o f p before others r after =
    upon (search_refusal_in f p (length before) others) (λ k. RefusedSearch k r before after) (FoundVerdict o f p r before after)

-- The library's own call lends no other buffer.
abbrev pub SearchPromise : Order → List ℕ → ℕ → List ℕ → Result Verdict Refusal → List ℕ → Type 0
SearchPromise o f p before r after = SearchWith o f p before true r after
