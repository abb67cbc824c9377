-- One window: the call's promise.
use Rattle.std.specs.Prelude.{ℕ, ◌≡◌, Bool, true, List, Result, Ok}
use Rattle.mealy.specs.Setting.{Setting}
use Rattle.coder.specs.File.{setting_after}
use Rattle.coder.specs.Refusal.{upon}
use Rattle.coder.specs.declared.refusal.Refusal.{Refusal}
use Rattle.coder.specs.Refused.{Refused}
use Rattle.values.specs.declared.Window.{Window}
use Rattle.fitting.specs.Answer.{Right}
use Rattle.fitting.specs.declared.Answer.{Answer}
use Rattle.decoder_refusal.specs.Refusal.{window_refusal}

-- The setting in which the three calls decode: runs begin as many letters ahead of the window as its settle count says (document 02, 6/13,
-- third and fourth sentences).
abbrev pub window_setting : List ℕ → Window → Setting
window_setting f w = setting_after f w.settle

-- the right answer of a file for the letters of a window
abbrev pub RightOf : List ℕ → Window → List ℕ → Answer → Type 0
RightOf f w received v = Right (window_setting f w) received w.before v

-- the result is an answer, and it is the right one
pub record AnsweredRight (f : List ℕ) (w : Window) (received : List ℕ) (r : Result Answer Refusal) : Type 0 where
  pub answer : Answer
  pub is : r ≡ Ok answer
  pub right : RightOf f w received answer

-- The first refusal that applies, or the answer of demand 2's second sentence; `others` says whether the lent buffers are long enough, of
-- which a single window has none of its own.
abbrev pub WindowWith : List ℕ → Window → List ℕ → Bool → Result Answer Refusal → Type 0
WindowWith f w received others r = upon (window_refusal f w received others) (λ k. r ≡ Refused k) (AnsweredRight f w received r)

-- The library's own call lends none.
abbrev pub WindowPromise : List ℕ → Window → List ℕ → Result Answer Refusal → Type 0
WindowPromise f w received r = WindowWith f w received true r
