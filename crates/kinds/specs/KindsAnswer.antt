-- What the decoder of kinds answers for the letters of one window (document 02, 8/13, the sentence on the decoder and the one after it).
use Rattle.std.specs.Prelude.{ℕ, ◌≡◌, ◌≢◌, List}
use Rattle.mealy.specs.Setting.{Setting}
use Rattle.mealy.specs.Answer.{Fits, Alone, Two}

-- The four answers.
pub data KindsAnswer : Type 0 where
  letter : ℕ → KindsAnswer
  kind_only : ℕ → KindsAnswer
  none : KindsAnswer
  several : KindsAnswer

-- two letters or more fit, and all that fit have the kind κ
pub record OneKind (S : Setting) (kind : ℕ → ℕ) (w : List ℕ) (b κ : ℕ) : Type 0 where
  pub two : Two S w b
  pub shared : (y : ℕ) → Fits S w b y → kind y ≡ κ

-- two letters of different kinds fit
pub record TwoKinds (S : Setting) (kind : ℕ → ℕ) (w : List ℕ) (b : ℕ) : Type 0 where
  pub x : ℕ
  pub y : ℕ
  pub fits₁ : Fits S w b x
  pub fits₂ : Fits S w b y
  pub differ : kind x ≢ kind y

-- The letter if one alone fits, else the kind if all fitting letters share one, several if they do not, none if no letter fits.
abbrev pub KindsAnswers : Setting → (ℕ → ℕ) → List ℕ → ℕ → KindsAnswer → Type 0
KindsAnswers S kind w b (letter x) = Alone S w b x
KindsAnswers S kind w b (kind_only κ) = OneKind S kind w b κ
KindsAnswers S kind w b none = (x : ℕ) → Fits S w b x → ⊥
KindsAnswers S kind w b several = TwoKinds S kind w b

-- What an answer yields of the letter x that went in: the kind, and the letter where its kind is in C. A letter that is answered is x
-- itself, whether its kind is in C or not.
abbrev pub Yields : (ℕ → ℕ) → (ℕ → Type 0) → ℕ → KindsAnswer → Type 0
Yields kind C x (letter y) = y ≡ x
Yields kind C x (kind_only κ) = (κ ≡ kind x) × (C (kind x) → ⊥)
Yields kind C x none = ⊥
Yields kind C x several = ⊥
