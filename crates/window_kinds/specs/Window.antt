-- One window decoded to a letter or a kind: the call's refusal and promise. These windows have settle count 0 (document 02, 8/13, fifth
-- sentence).
use Rattle.std.specs.Prelude.{ℕ, ◌+◌, ◌≡◌, Bool, true, List, Result, Ok}
use Rattle.coder.specs.Refusal.{first, upon}
use Rattle.coder.specs.declared.refusal.Refusal.{Refusal}
use Rattle.coder.specs.Refused.{Refused}
use Rattle.coder.specs.File.{outputs_of, setting_after}
use Rattle.window_limits.specs.Refusal.{sides_refusal, received_refusal}
use Rattle.kind_list.specs.KindList.{kind_of, list_refusal}
use Rattle.window_kinds.specs.Answer.{RightKinds}
use Rattle.window_kinds.specs.declared.KindsAnswer.{KindsAnswer}

-- The call's refusal, in checking order: the file's, 16 (the kind list), 8 (a side), 9 (the number of letters), 11 (some lent buffer is too
-- short) and 13 (a received letter). It is given no settle count, and never refused by 14.
unfoldable pub window_kinds_refusal : List ℕ → List ℕ → ℕ → ℕ → List ℕ → Bool → ℕ
window_kinds_refusal f kinds b a received fits =
    first (list_refusal f kinds) (first (sides_refusal b a) (received_refusal (b + 1 + a) (outputs_of f) received fits))

-- the right answer of a file for the letters of a window
abbrev pub RightKindsOf : List ℕ → List ℕ → ℕ → List ℕ → KindsAnswer → Type 0
RightKindsOf f kinds b received v = RightKinds (setting_after f 0) (kind_of kinds) received b v

pub record AnsweredKinds (f kinds : List ℕ) (b : ℕ) (received : List ℕ) (r : Result KindsAnswer Refusal) : Type 0 where
  pub answer : KindsAnswer
  pub is : r ≡ Ok answer
  pub right : RightKindsOf f kinds b received answer

-- The first refusal that applies, or the answer of 8/13's sentence on the decoder; `others` says whether the lent buffers are long enough.
abbrev pub WindowKindsWith : List ℕ → List ℕ → ℕ → ℕ → List ℕ → Bool → Result KindsAnswer Refusal → Type 0
WindowKindsWith f kinds b a received others r =
    upon (window_kinds_refusal f kinds b a received others) (λ k. r ≡ Refused k) (AnsweredKinds f kinds b received r)

-- The library's own call lends none.
abbrev pub WindowKindsPromise : List ℕ → List ℕ → ℕ → ℕ → List ℕ → Result KindsAnswer Refusal → Type 0
WindowKindsPromise f kinds b a received r = WindowKindsWith f kinds b a received true r
