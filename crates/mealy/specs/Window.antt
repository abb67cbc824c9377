-- Windows that work.
use Rattle.std.specs.Prelude.{ℕ, ◌+◌, ◌≡◌, List, length, get_or, drop}
use Rattle.mealy.specs.Machine.{Machine, outs, Letters}
use Rattle.mealy.specs.Reachable.{Reachable}
use Rattle.mealy.specs.Setting.{Setting}

-- Two runs of n letters, from s on xs and from t on ys, with equal outputs at every place.
pub record EqualOutputs (M : Machine) (n s t : ℕ) (xs ys : List ℕ) : Type 0 where
  pub letters₁ : Letters M.inputs xs
  pub letters₂ : Letters M.inputs ys
  pub length₁ : length xs ≡ n
  pub length₂ : length ys ≡ n
  pub outputs : outs M s xs ≡ outs M t ys

-- Document 01's term "works" ("Coders and runs", the paragraph on windows), for a window with b letters in front of the present one and
-- a behind it: runs of its length from start states that agree in output throughout never conflict at the present place, b letters after
-- their start.
abbrev pub Works : Setting → ℕ → ℕ → Type 0
Works S b a =
    (s t : ℕ) (xs ys : List ℕ) → S.Start s → S.Start t → EqualOutputs S.M (b + 1 + a) s t xs ys →
    S.Conflict (get_or xs b 0) (get_or ys b 0) → ⊥

-- The same for a coder's window with settle count p, said with no setting (document 02, 6/13, third sentence): where two runs from reachable
-- states have equal outputs from place p on, the ones before being unseen, they have the same letter at place p + b. `works↔same_letter` of
-- proofs/Unseen.antt shows that the two agree.
abbrev pub SameLetter : Machine → ℕ → ℕ → ℕ → Type 0
SameLetter M p b a =
    (s t : ℕ) (xs ys : List ℕ) → Reachable M s → Reachable M t → Letters M.inputs xs → Letters M.inputs ys →
    length xs ≡ p + (b + 1 + a) → length ys ≡ p + (b + 1 + a) → drop p (outs M s xs) ≡ drop p (outs M t ys) →
    get_or xs (p + b) 0 ≡ get_or ys (p + b) 0
