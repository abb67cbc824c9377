-- Tries on the tables of a coder: the least window that tells certain letters apart, and the carried kinds.
use Rattle.std.specs.Prelude.{ℕ, ◌<◌, Bool, List, ◌≢◌, Option, MatchOption}
use Rattle.mealy.specs.Word.{Holds}
use Rattle.mealy.specs.Setting.{Setting, ClosedOf}
use Rattle.mealy.specs.Window.{Works}
use Rattle.mealy.specs.Order.{Relation}
use Rattle.coder.specs.Refusal.{Judges}
use Rattle.coder.specs.Table.{machine_of_coder, Sound}
use Rattle.coder.specs.declared.inner.tables.Coder.{Coder}
use Rattle.setting.specs.Words.{StartIn, started_in}
use Rattle.values.specs.Order.{relation_of, default_order}
use Rattle.values.specs.declared.Window.{Window}
use Rattle.least.specs.Report.{DepthsOf, LeastReport}
use Rattle.kinds.specs.Kinds.{SomeWindow, Carried}
use Rattle.kind_list.specs.KindList.{KindsLow}

pub record FindAsked (c : Coder) (starts : ℕ) (kinds : List ℕ) : Type 0 where
  pub sound : Sound c
  pub closed : ClosedOf (machine_of_coder c) (StartIn c.states starts)
  pub low : KindsLow kinds

-- ---- what is given, for every word of start states that the depths are of

-- no window works, whatever its sides, or the first in R, with settle count 0
abbrev pub TriedSays : Relation → Setting → Option Window → Type 0
TriedSays R S r = MatchOption r ((b a : ℕ) → Works S b a → ⊥) (LeastReport R 0 S)

abbrev pub LeastTold : Coder → List (List ℕ) → List (List ℕ) → (ℕ → ℕ → Type 0) → Option Window → Type 0
LeastTold c backs forwards D r =
    (starts : ℕ) → DepthsOf c starts backs forwards → TriedSays (relation_of default_order) (started_in c starts D) r

-- whether some window works
abbrev pub SomeTold : Coder → List (List ℕ) → List (List ℕ) → (ℕ → ℕ → Type 0) → Bool → Type 0
SomeTold c backs forwards D r =
    (starts : ℕ) → DepthsOf c starts backs forwards → Judges (SomeWindow (started_in c starts D)) r

-- the coder's setting for letters, its runs starting in the states of a word
abbrev pub started : Coder → ℕ → Setting
started c starts = started_in c starts (λ i j. i ≢ j)

-- κ is one of the numbers below n, and carried
abbrev pub CarriedBelow : Setting → (ℕ → ℕ) → ℕ → ℕ → Type 0
CarriedBelow S kind n κ = (κ < n) × Carried S kind κ

-- the word of the carried kinds below I
abbrev pub CarriedGiven : Coder → List (List ℕ) → List (List ℕ) → (ℕ → ℕ) → ℕ → Type 0
CarriedGiven c backs forwards kind r =
    (starts : ℕ) → DepthsOf c starts backs forwards → Holds (CarriedBelow (started c starts) kind c.inputs) r
