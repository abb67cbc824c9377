-- The least window or none, from the depths of the product machine: the depths, and what is reported.
use Rattle.std.specs.Prelude.{ℕ, ◌≤◌, ◌≡◌, List, Option, MatchOption}
use Rattle.mealy.specs.Setting.{Setting, ClosedOf, worded}
use Rattle.mealy.specs.Order.{Relation, Least}
use Rattle.mealy.specs.Product.{back, forward, Ambiguous, pairs}
use Rattle.coder.specs.Table.{machine_of_coder}
use Rattle.coder.specs.declared.inner.tables.Coder.{Coder}
use Rattle.product.specs.Depth.{Depths}
use Rattle.product.specs.Rounds.{StartIn}
use Rattle.values.specs.declared.Window.{Window}

-- The squares have the depths of a coder's pairs, back and forward, for runs that start in the states of the word, which no entry leaves.
pub record DepthsOf (c : Coder) (starts : ℕ) (backs forwards : List (List ℕ)) : Type 0 where
  pub closed : ClosedOf (machine_of_coder c) (StartIn c.states starts)
  pub back_depths : Depths (machine_of_coder c) (StartIn c.states starts) back backs
  pub forward_depths : Depths (machine_of_coder c) (StartIn c.states starts) forward forwards

-- The window has the settle count p, is the least in R among all that work, whatever their sides, and its own are small.
pub record LeastReport (R : Relation) (p : ℕ) (S : Setting) (w : Window) : Type 0 where
  pub settle : w.settle ≡ p
  pub least : Least R S w.before w.after
  pub before_small : w.before ≤ pairs S.M.states
  pub after_small : w.after ≤ pairs S.M.states

-- None: a conflicting edge joins the levels of every window, so that no window works (`works→unambiguous` of mealy/proofs/Windows.antt).
abbrev pub LeastSays : Relation → ℕ → Setting → Option Window → Type 0
LeastSays R p S r = MatchOption r ((b a : ℕ) → Ambiguous S b a) (LeastReport R p S)

-- It is said of the setting of the conflicts with every word of start states that the depths are of.
abbrev pub LeastGiven : Relation → ℕ → Coder → List (List ℕ) → List (List ℕ) → List ℕ → Option Window → Type 0
LeastGiven R p c backs forwards conflicts r =
    (starts : ℕ) → DepthsOf c starts backs forwards → LeastSays R p (worded (machine_of_coder c) starts conflicts) r
