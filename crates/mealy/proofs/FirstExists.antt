-- Where some looped pair is valid there is a first one, if start states and conflicts are decided: a least number of letters, and of the
-- pairs with so many the least starts, lengths and bytes.
use mathlib.Core.Path.{◌≡◌, refl, sym, ap, subst}
use mathlib.Core.Logic.Dec
use mathlib.Core.List.{List, [], ◌∷◌}
use Prim.Native.Nat.{ℕ, ◌+◌, ◌*◌, ◌≤◌}
use native.Mathlib.Omega.{arith}
use native.Mathlib.Decide.{ℕ_discrete}
use lib.ListN.{length, get_or, take, drop}
use lib.Seq.{take_all, length-take-le}
use Rattle.mealy.specs.Machine.{Letters}
use Rattle.mealy.specs.Setting.{Setting, Bounded}
use Rattle.mealy.specs.LoopedPair.{LoopedPair, first, second, letters, Valid}
use Rattle.mealy.specs.First.{Lexicographic, First}
use Rattle.mealy.proofs.Letters.{letters_higher}
use Rattle.mealy.proofs.PairDecisions.{dec_valid}
use Rattle.mealy.proofs.PairBytes.{valid_letters, valid_cut}
use Rattle.mealy.proofs.LeastLists.{least_number, SomeList, some_list, dec_list, LeastList, least_list}

-- the key of a pair after its number of letters, and a pair from these numbers
abbrev numbers : LoopedPair → List ℕ
numbers p = p.s ∷ p.t ∷ p.back_loop ∷ p.lead_in ∷ p.lead_out ∷ p.forward_loop ∷ take (2 * letters p) p.bytes

abbrev pair_of_numbers : List ℕ → LoopedPair
pair_of_numbers xs =
    record {
      s = get_or xs 0 0;
      t = get_or xs 1 0;
      back_loop = get_or xs 2 0;
      lead_in = get_or xs 3 0;
      lead_out = get_or xs 4 0;
      forward_loop = get_or xs 5 0;
      bytes = drop 6 xs;
    }

numbers_of_lem :
    (n : ℕ) (xs : List ℕ) → length xs ≡ 6 + 2 * n → letters (pair_of_numbers xs) ≡ n → numbers (pair_of_numbers xs) ≡ xs
numbers_of_lem n [] e l = absurd (omega arith)
numbers_of_lem n (s ∷ []) e l = absurd (omega arith)
numbers_of_lem n (s ∷ t ∷ []) e l = absurd (omega arith)
numbers_of_lem n (s ∷ t ∷ b ∷ []) e l = absurd (omega arith)
numbers_of_lem n (s ∷ t ∷ b ∷ i ∷ []) e l = absurd (omega arith)
numbers_of_lem n (s ∷ t ∷ b ∷ i ∷ o ∷ []) e l = absurd (omega arith)
numbers_of_lem n (s ∷ t ∷ b ∷ i ∷ o ∷ f ∷ bytes) e l =
    ap (λ zs. s ∷ t ∷ b ∷ i ∷ o ∷ f ∷ zs) (take_all (2 * (b + i + 1 + o + f)) bytes (omega arith))

module _ (S : Setting) (decide_start : (s : ℕ) → Dec (S.Start s)) (bounded : Bounded S)
    (decide_conflict : (i j : ℕ) → Dec (S.Conflict i j)) where
  open S use {M}

  -- these numbers make a valid pair with n letters; each of them is below the bound
  abbrev ValidOf : ℕ → List ℕ → Type 0
  ValidOf n xs = Valid S (pair_of_numbers xs) × (letters (pair_of_numbers xs) ≡ n)

  abbrev bound : ℕ → ℕ
  bound n = M.states + M.inputs + n + 1

  abbrev SomeValid : ℕ → Type 0
  SomeValid n = SomeList (bound n) (6 + 2 * n) (ValidOf n)

  dec_valid_of : (n : ℕ) (xs : List ℕ) → Dec (ValidOf n xs)
  dec_valid_of n xs =
      Dec.and (dec_valid S decide_start decide_conflict (pair_of_numbers xs)) (ℕ_discrete (letters (pair_of_numbers xs)) n)

  -- a valid pair by its numbers
  module _ (p : LoopedPair) (v : Valid S p) where
    size : length (numbers p) ≡ 6 + 2 * letters p
    size = let l = length-take-le (2 * letters p) p.bytes v.held in omega arith

    low : Letters (bound (letters p)) (numbers p)
    low =
        let s = bounded _ (v.start first) in
        let t = bounded _ (v.start second) in
        let bytes = take (2 * letters p) p.bytes in
        let rest = letters_higher M.inputs (bound (letters p)) bytes (omega arith) (valid_letters S p v) in
        (omega arith, (omega arith, (omega arith, (omega arith, (omega arith, (omega arith, rest))))))

    some_valid : SomeValid (letters p)
    some_valid = some_list (bound (letters p)) (6 + 2 * letters p) (ValidOf (letters p)) (numbers p) size low (valid_cut S p v, refl)

  pub first_exists : (p : LoopedPair) → Valid S p → (q : LoopedPair) × First S q
  first_exists p v =
      let decide : (n : ℕ) → Dec (SomeValid n) = λ n. dec_list (bound n) (6 + 2 * n) (ValidOf n) (dec_valid_of n) in
      let m = least_number SomeValid decide (letters p) (letters p) (omega arith) (some_valid p v) in
      go m.0 m.2 (least_list (bound m.0) (6 + 2 * m.0) (ValidOf m.0) (dec_valid_of m.0) m.1)
    where
      go :
          (n : ℕ) → ((k : ℕ) → SomeValid k → n ≤ k) → LeastList (bound n) (6 + 2 * n) (ValidOf n) →
          (q : LoopedPair) × First S q
      go n fewest l =
          let p = pair_of_numbers l.xs in
          let e = numbers_of_lem n l.xs l.size l.holds.1 in (
            p,
            record {
              valid = l.holds.0;
              first = λ r w. (
                omega (arith, l.holds.1, fewest (letters r) (some_valid r w)),
                λ same.
                    let d : n ≡ letters r = omega (arith, l.holds.1) in
                    subst (λ zs. Lexicographic zs (numbers r)) (sym e)
                    (l.least (numbers r) (omega (arith, size r w)) (subst (λ k. Letters (bound k) (numbers r)) (sym d) (low r w)) (valid_cut S r w, sym d)),
              );
            },
          )
