-- Kinds of letter (document 02, 8/13): which letters a window has to tell apart, the kinds that are carried, and what the search for kinds
-- reports. `kind` gives each input letter its kind; kinds are numbers below the number of input letters.
use Rattle.std.specs.Prelude.{ℕ, ◌+◌, ◌<◌, ◌≡◌, ◌↔◌, ◌≢◌, ◌⊎◌, List, get_or}
use Rattle.mealy.specs.Setting.{Setting}
use Rattle.mealy.specs.Window.{EqualOutputs, Works}
use Rattle.mealy.specs.Order.{Relation, Least}

-- what a list of kinds is accepted for: each letter's kind is below n
abbrev pub KindsBelow : ℕ → (ℕ → ℕ) → Type 0
KindsBelow n kind = (i : ℕ) → i < n → kind i < n

-- ---- which letters a window has to tell apart

-- different letters
abbrev pub DifferentLetters : ℕ → ℕ → Type 0
DifferentLetters i j = i ≢ j

-- letters of different kinds
abbrev pub DifferentKinds : (ℕ → ℕ) → ℕ → ℕ → Type 0
DifferentKinds kind i j = kind i ≢ kind j

-- different letters that both have the kind κ
abbrev pub DifferentWithin : (ℕ → ℕ) → ℕ → ℕ → ℕ → Type 0
DifferentWithin kind κ i j = (kind i ≡ κ) × (kind j ≡ κ) × (i ≢ j)

-- letters of different kinds, and different letters of one kind that is in C
abbrev pub DifferentCarried : (ℕ → ℕ) → (ℕ → Type 0) → ℕ → ℕ → Type 0
DifferentCarried kind C i j = DifferentKinds kind i j ⊎ ((kind i ≡ kind j) × C (kind i) × (i ≢ j))

-- The machine and the start states of S, with those letters to tell apart.
abbrev pub telling : Setting → (ℕ → ℕ → Type 0) → Setting
telling S D = record { M = S.M; Start = S.Start; Conflict = D }

abbrev pub tell_letters : Setting → Setting
tell_letters S = telling S DifferentLetters

abbrev pub tell_kinds : Setting → (ℕ → ℕ) → Setting
tell_kinds S kind = telling S (DifferentKinds kind)

abbrev pub tell_one : Setting → (ℕ → ℕ) → ℕ → Setting
tell_one S kind κ = telling S (DifferentWithin kind κ)

-- "the kind always and the letter in every" kind of C
abbrev pub tell_carried : Setting → (ℕ → ℕ) → (ℕ → Type 0) → Setting
tell_carried S kind C = telling S (DifferentCarried kind C)

-- ---- what the search reports

-- some window works, whatever its sides
abbrev pub SomeWindow : Setting → Type 0
SomeWindow S = (b : ℕ) × (a : ℕ) × Works S b a

-- The term "carried" (third sentence): some window lets no two runs with equal outputs have two different letters of that kind in the
-- present place. Each kind has a window of its own.
abbrev pub Carried : Setting → (ℕ → ℕ) → ℕ → Type 0
Carried S kind κ = SomeWindow (tell_one S kind κ)

-- The report "cannot" (fourth sentence): kinds can be told by no window.
abbrev pub Cannot : Setting → (ℕ → ℕ) → Type 0
Cannot S kind = (b a : ℕ) → Works (tell_kinds S kind) b a → ⊥

-- the numbers below I that are carried are those of C
abbrev pub CarriedSet : Setting → (ℕ → ℕ) → (ℕ → Type 0) → Type 0
CarriedSet S kind C = (κ : ℕ) → κ < S.M.inputs → C κ ↔ Carried S kind κ

-- The other report (fourth sentence): the set of carried kinds, and the first window, in the order R, that tells the kind always and the
-- letter in every carried kind.
pub record Found (R : Relation) (S : Setting) (kind : ℕ → ℕ) (C : ℕ → Type 0) (b a : ℕ) : Type 0 where
  pub carried : CarriedSet S kind C
  pub least : Least R (tell_carried S kind C) b a

-- Two runs from start states have equal outputs throughout, and letters that are to be told apart in the present place: the window leaves
-- both. "A cannot stands only for coders where every window leaves two kinds": `cannot↔leaves` of proofs/Cannot.antt.
pub record Leaves (S : Setting) (b a : ℕ) : Type 0 where
  pub s : ℕ
  pub t : ℕ
  pub xs : List ℕ
  pub ys : List ℕ
  pub start₁ : S.Start s
  pub start₂ : S.Start t
  pub equal : EqualOutputs S.M (b + 1 + a) s t xs ys
  pub conflict : S.Conflict (get_or xs b 0) (get_or ys b 0)
