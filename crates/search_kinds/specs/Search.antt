-- The search for kinds: its refusal, and what its report says. These windows have settle count 0 (document 02, 8/13, fifth sentence).
use Rattle.std.specs.Prelude.{ℕ, ◌≤◌, ◌≡◌, Bool, true, not, List, Result, Ok, Option, Some, None}
use Rattle.mealy.specs.Word.{Has, Holds}
use Rattle.mealy.specs.Setting.{Setting}
use Rattle.mealy.specs.Order.{Relation, Least}
use Rattle.mealy.specs.Product.{pairs}
use Rattle.coder.specs.Refusal.{refuse, first, upon}
use Rattle.coder.specs.File.{setting_after}
use Rattle.values.specs.Order.{relation_of, default_order}
use Rattle.values.specs.declared.Window.{Window}
use Rattle.kinds.specs.Kinds as theory
use Rattle.kinds.specs.Kinds.{tell_carried}
use Rattle.kind_list.specs.KindList.{kind_of, list_refusal}
use Rattle.search_kinds.specs.Tries.{CarriedBelow}
use Rattle.search_kinds.specs.declared.Told.{Told}
use Rattle.coder.specs.declared.refusal.Refusal.{Refusal}
use Rattle.coder.specs.Refused.{Refused}

-- The call's refusal, in checking order: the file's, 16 (the kind list), 11 (some lent buffer is too short: the library's own call lends
-- none, a call from C lends its result).
unfoldable pub search_kinds_refusal : List ℕ → List ℕ → Bool → ℕ
search_kinds_refusal f kinds fits = first (list_refusal f kinds) (refuse (not fits) 11 0)

-- The word has the carried kinds, which are numbers below I, and nothing else; the window has settle count 0 and is the first in R that
-- tells the kind always and the letter in each kind of the word; its sides are small. It is `Found` of kinds/specs/Kinds.antt
-- (`report_found` of proofs/Reports.antt).
pub record ToldReport (R : Relation) (S : Setting) (kind : ℕ → ℕ) (carried : ℕ) (w : Window) : Type 0 where
  pub settle : w.settle ≡ 0
  pub carried_are : Holds (CarriedBelow S kind S.M.inputs) carried
  pub least : Least R (tell_carried S kind (Has carried)) w.before w.after
  pub before_small : w.before ≤ pairs S.M.states
  pub after_small : w.after ≤ pairs S.M.states

-- Document 02, 8/13, fourth sentence. None is its "cannot".
abbrev pub KindsSays : Relation → Setting → (ℕ → ℕ) → Option Told → Type 0
KindsSays R S kind None = theory.Cannot S kind
KindsSays R S kind (Some t) = ToldReport R S kind t.carried t.window

-- the value that a word of carried kinds and a window make
abbrev pub told : ℕ → Window → Told
told carried w = record { carried = carried; window = w }

-- from the word of the carried kinds and the least window for them
abbrev pub verdict_of : ℕ → Option Window → Option Told
verdict_of carried None = None
verdict_of carried (Some w) = Some (told carried w)

-- what a report says of a file, in the default order
abbrev pub KindsSaysOf : List ℕ → List ℕ → Option Told → Type 0
KindsSaysOf f kinds v = KindsSays (relation_of default_order) (setting_after f 0) (kind_of kinds) v

pub record FoundKinds (f kinds : List ℕ) (r : Result (Option Told) Refusal) : Type 0 where
  pub verdict : Option Told
  pub is : r ≡ Ok verdict
  pub says : KindsSaysOf f kinds verdict

-- The first refusal that applies, or a report that is right for the file's machine; `others` says whether the lent buffers are long enough.
abbrev pub SearchKindsWith : List ℕ → List ℕ → Bool → Result (Option Told) Refusal → Type 0
SearchKindsWith f kinds others r = upon (search_kinds_refusal f kinds others) (λ k. r ≡ Refused k) (FoundKinds f kinds r)

-- The library's own call lends none.
abbrev pub SearchKindsPromise : List ℕ → List ℕ → Result (Option Told) Refusal → Type 0
SearchKindsPromise f kinds r = SearchKindsWith f kinds true r
