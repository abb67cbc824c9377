-- Whether a looped pair is valid can be decided.
use mathlib.Core.Path.{◌≡◌, refl, sym, ap₂}
use mathlib.Core.Logic.Dec
use mathlib.Core.List.{List, [], ◌∷◌}
use Prim.Native.Nat.{ℕ, ◌*◌}
use native.Mathlib.Omega.{arith}
use native.Mathlib.Decide.{dec_le, dec_lt, ℕ_discrete, map_dec}
use lib.ListN.{length}
use Rattle.mealy.specs.Machine.{outs, end, Letters}
use Rattle.mealy.specs.Setting.{Setting}
use Rattle.mealy.specs.LoopedPair.{LoopedPair, Run, first, second, letter_at, letters_from, mark, unlooped, letters, run_inputs, start_of, Valid}

nil_cons : {x : ℕ} {xs : List ℕ} → [] ≡ x ∷ xs → ⊥
nil_cons e = let z : ◌≡◌ {A = ℕ} 0 1 = cc in omega arith

dec_equal : (xs ys : List ℕ) → Dec (xs ≡ ys)
dec_equal [] [] = yes refl
dec_equal [] (y ∷ ys) = no nil_cons
dec_equal (x ∷ xs) [] = no (λ e. nil_cons (sym e))
dec_equal (x ∷ xs) (y ∷ ys) =
    map_dec (λ z. ap₂ ◌∷◌ z.0 z.1) (λ e. (cc, cc)) (Dec.and (ℕ_discrete x y) (dec_equal xs ys))

dec_letters : (n : ℕ) (xs : List ℕ) → Dec (Letters n xs)
dec_letters n [] = yes tt
dec_letters n (x ∷ xs) = Dec.and (dec_lt x n) (dec_letters n xs)

dec_runs : {P : Run → Type 0} → ((r : Run) → Dec (P r)) → Dec ((r : Run) → P r)
dec_runs {P} d =
    map_dec (λ z r. elim r as (λ k. P k) [ first ↦ z.0 | second ↦ z.1 ]) (λ h. (h first, h second)) (Dec.and (d first) (d second))

pub dec_valid :
    (S : Setting) → ((s : ℕ) → Dec (S.Start s)) → ((i j : ℕ) → Dec (S.Conflict i j)) → (p : LoopedPair) → Dec (Valid S p)
dec_valid S start conflict p =
    let M = S.M in
    map_dec
    (λ z. let y = z.1.1.1 in record {
      held = z.0;
      start = z.1.0;
      below = z.1.1.0;
      back_letter = y.0;
      forward_letter = y.1.0;
      outputs = y.1.1.0;
      conflict = y.1.1.1.0;
      back_closed = y.1.1.1.1.0;
      forward_closed = y.1.1.1.1.1;
    })
    (λ v. (v.held, (v.start, (v.below, (v.back_letter, (v.forward_letter, (v.outputs, (v.conflict, (v.back_closed, v.forward_closed)))))))))
    (Dec.and (dec_le (2 * letters p) (length p.bytes))
    (Dec.and (dec_runs (λ r. start (start_of p r)))
    (Dec.and (dec_runs (λ r. dec_letters M.inputs (run_inputs p r)))
    (Dec.and (dec_lt 0 p.back_loop)
    (Dec.and (dec_lt 0 p.forward_loop)
    (Dec.and (dec_equal (outs M p.s (run_inputs p first)) (outs M p.t (run_inputs p second)))
    (Dec.and (conflict (letter_at p first (mark p)) (letter_at p second (mark p)))
    (Dec.and (dec_runs (λ r. ℕ_discrete (end M (start_of p r) (letters_from p r 0 p.back_loop)) (start_of p r)))
    (dec_runs (λ r.
    ℕ_discrete (end M (start_of p r) (run_inputs p r)) (end M (start_of p r) (letters_from p r 0 (unlooped p)))))))))))))
