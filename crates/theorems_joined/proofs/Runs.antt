-- Running the joined file is running the second file's coder on what the first one's wrote; which runs are refused.
use mathlib.Core.Path.{◌≡◌, sym, ap, ap₂, ◌∙◌}
use mathlib.Core.List.{List}
use Prim.Native.Nat.{ℕ, ◌+◌, ◌*◌, ◌≤◌, ◌<◌}
use native.Mathlib.Omega.{arith}
use native.Mathlib.Decide.{dec_lt}
use native.Mathlib.Nat.{mul-le-mul_right}
use lib.ListN.{length, take}
use lib.Arith.{digits_lt}
use lib.Dec.{ltb}
use borrow.Author.Tests.{lt-ltb, le-ltb, le-leb}
use Rattle.mealy.specs.Machine.{outs, end, Letters}
use Rattle.mealy.proofs.RunParts.{length_outs}
use Rattle.coder.specs.File.{states_of, inputs_of, machine_of}
use Rattle.coder.proofs.Inverse.{written_read}
use Rattle.running.specs.Run.{run_refusal, run_refusal_in}
use Rattle.joining.specs.Join.{joined_file, Matching}
use Rattle.joining.proofs.Files.{joined_entries_lem, joined_accepted, file_outs, file_end, file_letters}
use Rattle.published.specs.Published.{long_enough}
use Rattle.published.proofs.Published.{run_published}
use Rattle.theorems.proofs.RoundTrip.{letters_test}
use Rattle.theorems_joined.specs.InRow.{Runs, RunsInRow, SameNumber, TakesLetters}
use Rattle.theorems_joined.proofs.Ran.{RanOn, wrote}

-- a way to call the run of which each outcome is understood
abbrev pub AllRanOn : Runs → Type 0
AllRanOn R =
    (f : List ℕ) (s : ℕ) (xs before : List ℕ) (n e : ℕ) (after : List ℕ) → R f s xs before n e after → RanOn f s xs before n e after

module _ (f g : List ℕ) (h : Matching f g) where
  -- ---- letters and end states

  pub runs_in_row : (R : Runs) → AllRanOn R → RunsInRow R f g (joined_file f g)
  runs_in_row R known s t xs before₁ n e after₁ before₂ n' e' after₂ before m q after p₁ p₂ p =
      let a = known f s xs before₁ n e after₁ p₁ in
      let b = known g t (take n after₁) before₂ n' e' after₂ p₂ in
      let c = known (joined_file f g) (s * states_of g + t) xs before m q after p in
      let us = outs (machine_of f) s xs in
      let same : length us ≡ length xs = length_outs (machine_of f) s xs in
      let count : n' ≡ length xs = b.count ∙ ap length (wrote a) ∙ same in
      let last : end (machine_of g) t us ≡ e' = rw (wrote a) at (sym b.ends) in
      let letters : take n' after₂ ≡ outs (machine_of g) t us = rw (wrote a) at (wrote b) in
      let long : length (outs (machine_of g) t us) ≡ length xs = length_outs (machine_of g) t us ∙ same in (
        c.count ∙ sym count,
        c.ends ∙ file_end f g h s t xs a.state b.state a.letters ∙ ap₂ (λ i j. i * states_of g + j) (sym a.ends) last,
        c.bytes ∙ rw (letters, long, file_outs f g h s t xs a.state b.state a.letters),
      )

  -- ---- which runs are refused

  -- s × N + t is a state of the joined coder exactly where s is one of the first
  state_test : (s t : ℕ) → t < states_of g → ltb (s * states_of g + t) (states_of f * states_of g) ≡ ltb s (states_of f)
  state_test s t l =
      elim (dec_lt s (states_of f)) [
        | yes p ↦ rw (lt-ltb s (states_of f) p) (lt-ltb (s * states_of g + t) (states_of f * states_of g) (digits_lt p l))
        | no p ↦
            let m : states_of f ≤ s = omega arith in
            rw (le-ltb s (states_of f) m)
            (le-ltb (s * states_of g + t) (states_of f * states_of g) (omega (arith, mul-le-mul_right (states_of g) m)))
      ]

  pub same_number : SameNumber f g (joined_file f g)
  unfolding run_refusal
  same_number s t xs before others l =
      let k = written_read _ _ _ _ (joined_entries_lem f g h) in
      let same : run_refusal_in (joined_file f g) (s * states_of g + t) xs (length before) (long_enough others)
      ≡ run_refusal_in f s xs (length before) (long_enough others) =
      rw (joined_accepted f g h, h.first, k.states, k.inputs, state_test s t l) in
      sym (run_published (joined_file f g) (s * states_of g + t) xs before others) ∙ same ∙ run_published f s xs before others

  pub takes_letters : (R : Runs) → AllRanOn R → TakesLetters R f g
  unfolding run_refusal
  takes_letters R known s t xs before₁ n e after₁ before₂ others p l m enough =
      let a = known f s xs before₁ n e after₁ p in
      let long : length (take n after₁) ≡ n = ap length (wrote a) ∙ length_outs (machine_of f) s xs ∙ sym a.count in
      let k : Letters (inputs_of g) (take n after₁) = rw (wrote a) (file_letters f g h s t xs a.state l a.letters) in
      sym (run_published g t (take n after₁) before₂ others)
      ∙ rw (
        h.second,
        lt-ltb t (states_of g) l,
        le-leb (length (take n after₁)) (length before₂) (omega (arith, long)),
        enough,
        letters_test (inputs_of g) (take n after₁) k,
      )
