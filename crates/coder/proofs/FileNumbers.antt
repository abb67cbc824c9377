-- The numbers by which a file is refused: none but 1 to 6 and 15.
use mathlib.Core.Bool.{not}
use mathlib.Core.List.{List}
use Prim.Native.Nat.{ℕ, ◌-◌, ◌*◌, ◌≤◌}
use native.Mathlib.Omega.{arith}
use lib.ListN.{length}
use lib.Dec.{ltb, eqb}
use Rattle.coder.specs.Refusal.{all_below}
use Rattle.coder.specs.Alphabet.{all_named}
use Rattle.coder.specs.File.{version_of, count_field, states_of, inputs_of, outputs_of, entries_of, in_range, entry_in_range, entries_refusal, file_refusal}
use Rattle.coder.proofs.Refusals.{refuse_either}

-- What holds of 0 to 6 and of 15 holds of the refusal.
module _ (P : ℕ → Type 0) (h : (k : ℕ) → k ≤ 6 → P k) (fifteen : P 15) where
  entries_number : (n i o : ℕ) (entries : List ℕ) → P (entries_refusal n i o entries)
  unfolding entries_refusal
  entries_number n i o entries =
      refuse_either P (not (in_range n i o)) 4 _ (h 4 (omega arith))
      (refuse_either P (not (eqb (length entries) (2 * (n * i)))) 5 _ (h 5 (omega arith))
      (refuse_either P (not (all_below (n * i) (entry_in_range n o entries))) 6 _ (h 6 (omega arith))
      (refuse_either P (not (all_named o (n * i) entries)) 15 0 fifteen (h 0 (omega arith)))))

  pub file_number : (f : List ℕ) → P (file_refusal f)
  unfolding file_refusal
  file_number f =
      refuse_either P (ltb (length f) 6) 1 _ (h 1 (omega arith))
      (refuse_either P (not (eqb (version_of f) 1)) 2 _ (h 2 (omega arith))
      (refuse_either P (not (eqb (count_field f) (length f - 3))) 3 _ (h 3 (omega arith))
      (entries_number (states_of f) (inputs_of f) (outputs_of f) (entries_of f))))
