-- Sets of states from the last letter back.
use mathlib.Core.Path.{◌≡◌, sym, ◌∙◌}
use mathlib.Core.List.{List, [], ◌∷◌, ◌++◌}
use Prim.Native.Nat.{ℕ, ◌<◌}
use native.Mathlib.Omega.{arith}
use lib.ListN.{length}
use lib.Seq.{drop-append_seam, append_snoc}
use Rattle.std.proofs.lemmas.List.{append-nil}
use Rattle.mealy.specs.Machine.{Letters}
use Rattle.mealy.specs.Word.{Has, Holds}
use Rattle.mealy.specs.Image.{Image, Transitions, Leading}
use Rattle.mealy.proofs.Words.{holds_map, holds_none, holds_empty}
use Rattle.mealy.proofs.Members.{holds_member}
use Rattle.mealy.proofs.Images.{image_within}
use Rattle.mealy.proofs.Leading.{leading_none}
use Rattle.setting.proofs.Numbers.{holds_all}

-- the letters of w are those of `left` and, after them, `done`; `from` holds the states before `done`
pub record LeadsFrom (Q : Transitions) (w left : List ℕ) (from : ℕ) : Type 0 where
  pub done : List ℕ
  pub split : w ≡ left ++ done
  pub holds : Holds (Leading Q (λ s. s < 16) done) from

pub leads_none : {Q : Transitions} {w left : List ℕ} → left ≡ w → LeadsFrom Q w left 65535
leads_none {w = w} e = record { done = []; split = rw e (sym (append-nil w)); holds = holds_all }

module _ {Q : Transitions} {w left : List ℕ} {from : ℕ} (a : LeadsFrom Q w left from) where
  module _ (left' : List ℕ) (y : ℕ) (e : left ≡ left' ++ (y ∷ [])) where
    last_split : w ≡ left' ++ (y ∷ a.done)
    last_split = a.split ∙ rw e (append_snoc left' y a.done)

    pub last_letter : Letters 64 w → y < 64
    last_letter l = go left' (rw last_split at l)
      where
        go : (xs : List ℕ) → Letters 64 (xs ++ (y ∷ a.done)) → y < 64
        go [] l = l.0
        go (x ∷ xs) l = go xs l.1

    pub leads_more : {to : ℕ} → Holds (Image (Q y) (Has from)) to → LeadsFrom Q w left' to
    leads_more h =
        record {
          done = y ∷ a.done;
          split = last_split;
          holds =
              holds_map
              (image_within {Q = Q y} (λ s t z. z) (holds_member a.holds))
              (image_within {Q = Q y} (λ s t z. z) a.holds.has)
              h;
        }

  pub leads_empty : from ≡ 0 → Holds (Leading Q (λ s. s < 16) w) 0
  leads_empty e =
      holds_none
      (leading_none Q (λ s. s < 16) w (length left) (rw (a.split, drop-append_seam left a.done) (holds_empty a.holds e)))

  pub leads_all : length left ≡ 0 → Holds (Leading Q (λ s. s < 16) w) from
  leads_all e = rw a.split (go left e a.holds)
    where
      go :
          (xs : List ℕ) → length xs ≡ 0 → Holds (Leading Q (λ s. s < 16) a.done) from →
          Holds (Leading Q (λ s. s < 16) (xs ++ a.done)) from
      go [] e h = h
      go (x ∷ xs) e h = absurd (omega arith)
