-- A part of a run is a run: its outputs, its letters, the state it ends in.
use mathlib.Core.Path.{◌≡◌, refl, sym, ap, ◌∙◌}
use mathlib.Core.List.{List, [], ◌∷◌}
use Prim.Native.Nat.{ℕ, zero, suc, ◌+◌}
use native.Mathlib.Omega.{arith}
use lib.ListN.{length, take, drop, length-drop}
use Rattle.mealy.specs.Machine.{Machine, outs, end, Letters}
use Rattle.mealy.specs.Setting.{Setting, Closed}
use Rattle.mealy.specs.Window.{EqualOutputs}

pub length_outs : (M : Machine) (s : ℕ) (xs : List ℕ) → length (outs M s xs) ≡ length xs
length_outs M s [] = refl
length_outs M s (x ∷ xs) = ap suc (length_outs M _ xs)

pub take_outs : (M : Machine) (s n : ℕ) (xs : List ℕ) → take n (outs M s xs) ≡ outs M s (take n xs)
take_outs M s zero xs = refl
take_outs M s (suc n) [] = refl
take_outs M s (suc n) (x ∷ xs) = ap (λ l. M.out s x ∷ l) (take_outs M _ n xs)

pub drop_outs : (M : Machine) (s n : ℕ) (xs : List ℕ) → drop n (outs M s xs) ≡ outs M (end M s (take n xs)) (drop n xs)
drop_outs M s zero xs = refl
drop_outs M s (suc n) [] = refl
drop_outs M s (suc n) (x ∷ xs) = drop_outs M _ n xs

pub letters_take : (n k : ℕ) (xs : List ℕ) → Letters n xs → Letters n (take k xs)
letters_take n zero xs l = tt
letters_take n (suc k) [] l = tt
letters_take n (suc k) (x ∷ xs) l = (l.0, letters_take n k xs l.1)

pub letters_drop : (n k : ℕ) (xs : List ℕ) → Letters n xs → Letters n (drop k xs)
letters_drop n zero xs l = l
letters_drop n (suc k) [] l = tt
letters_drop n (suc k) (x ∷ xs) l = letters_drop n k xs l.1

-- two runs of d + n letters whose outputs agree from place d on, without their first d letters
pub equal_from :
    (M : Machine) (d n s t : ℕ) (xs ys : List ℕ) → Letters M.inputs xs → Letters M.inputs ys → length xs ≡ d + n → length ys ≡ d + n →
    drop d (outs M s xs) ≡ drop d (outs M t ys) →
    EqualOutputs M n (end M s (take d xs)) (end M t (take d ys)) (drop d xs) (drop d ys)
equal_from M d n s t xs ys l l' e e' o =
    record {
      letters₁ = letters_drop M.inputs d xs l;
      letters₂ = letters_drop M.inputs d ys l';
      length₁ = length-drop d xs ∙ omega arith;
      length₂ = length-drop d ys ∙ omega arith;
      outputs = sym (drop_outs M s d xs) ∙ o ∙ drop_outs M t d ys;
    }

pub end_start : (S : Setting) → Closed S → (s : ℕ) (xs : List ℕ) → S.Start s → Letters S.M.inputs xs → S.Start (end S.M s xs)
end_start S closed s [] p l = p
end_start S closed s (x ∷ xs) p l = end_start S closed _ xs (closed s x p l.0) l.1
