-- A valid looped pair, turned any number of times, gives two runs with equal outputs and conflicting letters at the mark; so it
-- excludes every window.
use mathlib.Core.Path.{◌≡◌, refl, sym, ap, ◌∙◌}
use mathlib.Core.List.{List, ◌∷◌, ◌++◌, append_assoc}
use Prim.Native.Nat.{ℕ, zero, suc, ◌+◌, ◌*◌, ◌≤◌}
use native.Mathlib.Nat.{mul-le-mul_left}
use native.Mathlib.Omega.{arith}
use lib.ListN.{length, get_or, length-append}
use lib.Seq.{get_or_at}
use Rattle.mealy.specs.Setting.{Setting, Closed}
use Rattle.mealy.specs.Window.{Works}
use Rattle.mealy.specs.LoopedPair.{LoopedPair, Run, first, second, letter_at, letters_from, mark, unlooped, Valid, repeat, turned, turned_mark, turned_letters, TurnedRuns}
use Rattle.mealy.specs.Walk.{Walk, Parts}
use Rattle.mealy.proofs.Walks.{walk_append, walk_repeat}
use Rattle.mealy.proofs.Windows.{works_larger}
use Rattle.mealy.proofs.PairParts.{letters_append, length_letters, valid→parts}

pub length_repeat : (k : ℕ) (xs : List ℕ) → length (repeat k xs) ≡ k * length xs
length_repeat zero xs = omega arith
length_repeat (suc k) xs = simp (length-append, length_repeat k xs) (omega arith)

module _ (p : LoopedPair) (r : Run) where
  -- the parts of a run
  abbrev back_loop_letters : List ℕ
  back_loop_letters = letters_from p r 0 p.back_loop

  abbrev lead_in_letters : List ℕ
  lead_in_letters = letters_from p r p.back_loop p.lead_in

  abbrev lead_out_letters : List ℕ
  lead_out_letters = letters_from p r (suc (mark p)) p.lead_out

  abbrev forward_loop_letters : List ℕ
  forward_loop_letters = letters_from p r (unlooped p) p.forward_loop

  -- from the lead-in to the lead-out
  abbrev middle : List ℕ
  middle = letters_from p r p.back_loop (p.lead_in + 1 + p.lead_out)

  middle_parts : middle ≡ lead_in_letters ++ (letter_at p r (mark p) ∷ lead_out_letters)
  middle_parts =
      letters_append p r p.lead_in (suc p.lead_out) (p.lead_in + 1 + p.lead_out) p.back_loop (mark p) (omega arith) refl

  turned_parts : (k m : ℕ) → turned p r k m ≡ repeat k back_loop_letters ++ (middle ++ repeat m forward_loop_letters)
  turned_parts k m =
      ap (λ l. repeat k back_loop_letters ++ l)
      (sym (append_assoc lead_in_letters (letter_at p r (mark p) ∷ lead_out_letters) (repeat m forward_loop_letters)) ∙
      ap (λ l. l ++ repeat m forward_loop_letters) (sym middle_parts))

  length_turned : (k m : ℕ) → length (turned p r k m) ≡ turned_letters p k m
  length_turned k m = simp (length-append, length_repeat, length_letters) (omega arith)

  turned_at_mark : (k m : ℕ) → get_or (turned p r k m) (turned_mark p k) 0 ≡ letter_at p r (mark p)
  turned_at_mark k m =
      let l : length (repeat k back_loop_letters ++ lead_in_letters) ≡ turned_mark p k = simp (length-append, length_repeat, length_letters) in
      rw (← (append_assoc (repeat k back_loop_letters) lead_in_letters (letter_at p r (mark p) ∷ (lead_out_letters ++ repeat m forward_loop_letters)))) (get_or_at (repeat k back_loop_letters ++ lead_in_letters) _ _ 0 (turned_mark p k) l)

module _ (S : Setting) (p : LoopedPair) (valid : Valid S p) where
  open S use {M}

  loops : Parts M p
  loops = (valid→parts S p valid).parts

  turned_walk : (k m : ℕ) → Walk M p.s p.t (turned p first k m) (turned p second k m) loops.u loops.v
  turned_walk k m =
      rw (turned_parts p first k m, turned_parts p second k m)
      (walk_append _ _ (walk_repeat k _ _ loops.back.walk)
      (walk_append _ _ loops.between (walk_repeat m _ _ loops.forward.walk)))

  -- demand 3, second sentence, for every k and every m
  pub turned_runs : (k m : ℕ) → TurnedRuns S p k m
  turned_runs k m = record {
    runs = rw (length_turned p first k m) at (turned_walk k m).equal;
    inside = omega arith;
    conflict = rw (turned_at_mark p first k m, turned_at_mark p second k m) valid.conflict;
  }

  -- no window works, whatever its sides
  pub excludes : Closed S → (b a : ℕ) → Works S b a → ⊥
  excludes closed b a f =
      let w = turned_runs b a in
      let n : turned_letters p b a ≡ turned_mark p b + 1 + (p.lead_out + a * p.forward_loop) = omega arith in
      let l : b ≤ turned_mark p b = omega (arith, mul-le-mul_left b valid.back_letter) in
      let m : a ≤ p.lead_out + a * p.forward_loop = omega (arith, mul-le-mul_left a valid.forward_letter) in
      works_larger S closed b a (turned_mark p b) (p.lead_out + a * p.forward_loop) l m f p.s p.t _ _
      (valid.start first) (valid.start second) (rw n at w.runs) w.conflict
