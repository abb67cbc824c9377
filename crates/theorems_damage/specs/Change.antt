-- How a string is damaged, letter by letter (document 02, 10/13): what became of each letter that was sent, and which were added between
-- them.
use Rattle.std.specs.Prelude.{ℕ, zero, suc, ◌<◌, ◌≡◌, List, [], ◌∷◌, ◌++◌, length}

-- A letter is received as it was sent, or altered to another, or lost; or a letter is added.
pub data Change : Type 0 where
  kept : ℕ → Change
  altered : ℕ → ℕ → Change
  lost : ℕ → Change
  added : ℕ → Change

-- ---- the two strings

abbrev pub sent_of : Change → List ℕ
sent_of (kept x) = x ∷ []
sent_of (altered x y) = x ∷ []
sent_of (lost x) = x ∷ []
sent_of (added y) = []

abbrev pub received_of : Change → List ℕ
received_of (kept x) = x ∷ []
received_of (altered x y) = y ∷ []
received_of (lost x) = []
received_of (added y) = y ∷ []

abbrev pub string_of : (Change → List ℕ) → List Change → List ℕ
string_of of [] = []
string_of of (c ∷ cs) = of c ++ string_of of cs

-- the undamaged string, and the damaged one
abbrev pub sent : List Change → List ℕ
sent cs = string_of sent_of cs

abbrev pub received : List Change → List ℕ
received cs = string_of received_of cs

-- ---- what the changes leave

-- the letter is received as it was sent
abbrev pub Keeps : Change → Type 0
Keeps (kept x) = Unit {0}
Keeps (altered x y) = ⊥
Keeps (lost x) = ⊥
Keeps (added y) = ⊥

-- a letter was sent and one is received for it: neither a loss nor an addition
abbrev pub InPlace : Change → Type 0
InPlace (kept x) = Unit {0}
InPlace (altered x y) = Unit {0}
InPlace (lost x) = ⊥
InPlace (added y) = ⊥

-- the letter that stands in place of another, or is added, is below n
abbrev pub NewBelow : ℕ → Change → Type 0
NewBelow n (kept x) = Unit {0}
NewBelow n (altered x y) = y < n
NewBelow n (lost x) = Unit {0}
NewBelow n (added y) = y < n

-- of each change
abbrev pub Each : (Change → Type 0) → List Change → Type 0
Each P [] = Unit {0}
Each P (c ∷ cs) = P c × Each P cs

-- there is a change i, and it keeps its letter
abbrev pub KeptAt : List Change → ℕ → Type 0
KeptAt [] i = ⊥
KeptAt (c ∷ cs) zero = Keeps c
KeptAt (c ∷ cs) (suc i) = KeptAt cs i

-- there is a change i, and it alters its letter
abbrev pub AlteredAt : List Change → ℕ → Type 0
AlteredAt [] i = ⊥
AlteredAt (kept x ∷ cs) zero = ⊥
AlteredAt (altered x y ∷ cs) zero = Unit {0}
AlteredAt (lost x ∷ cs) zero = ⊥
AlteredAt (added y ∷ cs) zero = ⊥
AlteredAt (c ∷ cs) (suc i) = AlteredAt cs i

-- n letters were kept, one after the other: they stand from place k on in the string sent and from place k' on in the string received
pub record KeptFrom (cs : List Change) (n k k' : ℕ) : Type 0 where
  pub front : List Change
  pub part : List Change
  pub back : List Change
  pub parts : cs ≡ front ++ (part ++ back)
  pub kept : Each Keeps part
  pub letters : length part ≡ n
  pub place : length (sent front) ≡ k
  pub place' : length (received front) ≡ k'
