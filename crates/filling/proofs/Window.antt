-- One window: the pass over its letters, and that its word holds the letters that fit.
use mathlib.Core.Path.{◌≡◌, sym}
use mathlib.Core.List.{List, [], ◌∷◌}
use Prim.Native.Nat.{ℕ, zero, suc, pred, ◌<◌, ◌≤◌}
use native.Mathlib.Numerals.{add-one}
use native.Mathlib.Omega.{arith}
use lib.ListN.{length, get_or}
use lib.Dec.{eqb}
use Rattle.mealy.specs.Setting.{Bounded}
use Rattle.mealy.specs.Answer.{Fits}
use Rattle.mealy.specs.Word.{Holds}
use Rattle.mealy.specs.Image.{Image}
use Rattle.mealy.proofs.Words.{holds_map, holds_none}
use Rattle.mealy.proofs.OneMore.{next_below, holds_more}
use Rattle.coder.specs.Table.{machine_of_coder, Sound}
use Rattle.coder.specs.declared.inner.tables.Coder.{Coder}
use Rattle.setting.specs.Words.{from_word}
use Rattle.filling.specs.Runs.{Sets, SetAfter, From}
use Rattle.filling.specs.Sets.{advance, start_sets}
use Rattle.filling.specs.Window.{pass, union_of, fitting_word}
use Rattle.filling.proofs.Sets.{advance_holds}
use Rattle.filling.proofs.Runs.{WithinStates, from_after, after_from, from_all, all_from, starting_sets, from_fits, fits_from}
use Rattle.filling.proofs.Filling.{start_holds}

-- the union of the first n words holds the union of their sets
holds_union_of :
    (Q : Sets) (v : List ℕ) (n : ℕ) → ((s : ℕ) → s < n → Holds (Q s) (get_or v s 0)) →
    Holds (Image Q (λ s. s < n)) (union_of n v)
unfolding union_of
holds_union_of Q v zero h = holds_none (λ x i. let l = i.from in omega arith)
holds_union_of Q v (suc n) h =
    holds_more (next_below (sym (add-one n))) (holds_union_of Q v n (λ s l. h s (omega arith))) (h n (omega arith))

module _ (c : Coder) (sound : Sound c) where
  pass_holds :
      (w v : List ℕ) (p : ℕ) (Q : Sets) → WithinStates (machine_of_coder c) Q → ((s : ℕ) → s < c.states → Holds (Q s) (get_or v s 0)) →
      p ≤ length w → Holds (From (machine_of_coder c) Q w p) (union_of c.states (pass c c.next v w p))
  unfolding pass
  pass_holds [] v p Q h k l =
      let e : p ≡ 0 = omega arith in
      let M = machine_of_coder c in
      rw e
      (holds_map (λ x i. from_all M Q x (i.s, i.step))
      (λ x f. let q = all_from M Q x f in record { s = q.0; from = h q.0 x q.1; step = q.1 })
      (holds_union_of Q v c.states k))
  pass_holds (o ∷ w) v p Q h k l =
      let M = machine_of_coder c in
      holds_map (λ x. from_after M Q o w p x) (λ x. after_from M Q o w p x h)
      (pass_holds w (advance c c.next v o (eqb p 1)) (pred p) (SetAfter M Q o (eqb p 1))
      (λ t x a. rw (← a.to) (sound.next_state a.s a.i))
      (λ t m. advance_holds c sound Q v o (eqb p 1) k t (let n = sound.states_high in omega arith))
      (omega arith))

  pub word_fits :
      (starts : ℕ) (w : List ℕ) (b : ℕ) → Bounded (from_word c starts) → b < length w →
      Holds (Fits (from_word c starts) w b) (fitting_word c starts w b)
  unfolding fitting_word
  word_fits starts w b h l =
      let S = from_word c starts in
      holds_map (λ x. fits_from S w b x l) (from_fits S w b)
      (pass_holds w (start_sets starts) (suc b) (starting_sets S) (λ s x q. h s q.0) (start_holds c sound starts) (omega arith))
