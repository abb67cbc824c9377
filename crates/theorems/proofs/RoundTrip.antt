-- Demand 2, last sentence, over the promises of the three calls: what the run wrote, decoded with the window that the search reports,
-- is the input from the first letter that has a full window to the last.
use mathlib.Core.Path.{◌≡◌, refl, ap, ◌∙◌}
use mathlib.Core.Bool.{true}
use mathlib.Core.List.{List, [], ◌∷◌}
use Prim.Native.Nat.{ℕ, ◌≤◌, ◌<◌}
use native.Mathlib.Omega.{arith}
use lib.ListN.{length, take, drop}
use lib.Seq.{take_at}
use borrow.Author.Tests.{lt-ltb, le-leb}
use Rattle.mealy.specs.Machine.{Machine, outs, end, Letters}
use Rattle.mealy.specs.Product.{pairs}
use Rattle.mealy.proofs.RunParts.{length_outs}
use Rattle.mealy.proofs.ReachableStates.{reachable_along}
use Rattle.coder.specs.Limits.{max_side}
use Rattle.coder.specs.Refusal.{letters_below}
use Rattle.coder.specs.File.{states_of, inputs_of, outputs_of, machine_of}
use Rattle.running.specs.Run.{run_refusal, run_refusal_in, RunPromise}
use Rattle.coder.proofs.Accepted.{accepted}
use Rattle.coder.proofs.Tables.{output_below, file_bounded}
use Rattle.product.proofs.Depths.{pairs_high}
use Rattle.values.specs.declared.Window.{Window}
use Rattle.search.specs.declared.Verdict.TheVariants.{Least}
use Rattle.search.proofs.Files.{search_accepted}
use Rattle.search.proofs.Determined.{found}
use Rattle.decoder_refusal.specs.Refusal.{limits_refusal, string_refusal, places, string_refusal_in}
use Rattle.decoder.specs.Places.{StringPromise}
use Rattle.decoder_refusal.proofs.Accepting.{limits_pass}
use Rattle.decoder.proofs.ComeBack.{string_comes_back}
use Rattle.theorems.specs.RoundTrip.{Coded, LettersComeBack}
use Rattle.std.specs.Prelude.{Result, Ok}
use Rattle.coder.specs.declared.refusal.Refusal.{Refusal}
use Rattle.running.specs.declared.RunEnd.{RunEnd}

-- ---- letters

pub letters_test : (n : ℕ) (xs : List ℕ) → Letters n xs → letters_below n xs ≡ true
letters_test n [] l = refl
letters_test n (x ∷ xs) l = rw (lt-ltb x n l.0) (letters_test n xs l.1)

pub outs_letters : (M : Machine) (n : ℕ) → ((s i : ℕ) → M.out s i < n) → (s : ℕ) (xs : List ℕ) → Letters n (outs M s xs)
outs_letters M n h s [] = tt
outs_letters M n h s (x ∷ xs) = (h s x, outs_letters M n h (M.next s x) xs)

-- a string with room for its bytes and letters below O is not refused
pub string_pass :
    (f : List ℕ) (w : Window) (received : List ℕ) (room : ℕ) → limits_refusal f w ≡ 0 → places (length received) w ≤ room →
    Letters (outputs_of f) received → string_refusal_in f w received room true ≡ 0
unfolding string_refusal
string_pass f w received room e n h = rw (e, le-leb (places (length received) w) room n, letters_test (outputs_of f) received h)

-- ---- the three calls

pub states_are : (f : List ℕ) → (machine_of f).states ≡ states_of f
unfolding machine_of
states_are f = refl

module _ (f : List ℕ) (s : ℕ) (xs : List ℕ) (coded : Coded f s xs) where
  start_low : s < states_of f
  start_low = rw (states_are f) at (file_bounded f (accepted f coded.file) s coded.start)

  pub end_low : end (machine_of f) s xs < states_of f
  unfolding machine_of
  end_low =
      file_bounded f (accepted f coded.file) (end (machine_of f) s xs)
      (reachable_along (machine_of f) s xs coded.start coded.letters)

  pub not_refused : (before : List ℕ) → length xs ≤ length before → run_refusal_in f s xs (length before) true ≡ 0
  unfolding run_refusal
  not_refused before l = rw (coded.file, lt-ltb s (states_of f) start_low, le-leb (length xs) (length before) l, letters_test (inputs_of f) xs coded.letters)

  -- the letters that a run wrote
  pub wrote :
      (before after : List ℕ) (r : Result RunEnd Refusal) → length xs ≤ length before → RunPromise f s xs before r after →
      take (length xs) after ≡ outs (machine_of f) s xs
  wrote before after r l p =
      rw (rw (not_refused before l) at p.bytes)
      (take_at (outs (machine_of f) s xs) (drop (length xs) before) (length xs) (length_outs (machine_of f) s xs))

pub round_trip : LettersComeBack
round_trip f s xs coded before₁ r₁ after₁ l h o p before₂ w after₂ q before₃ r₃ after₃ m d =
    let os = outs (machine_of f) s xs in
    let g = found o f p before₂ (Least w) after₂ q in
    let report = g.says in
    let small = (search_accepted f p _ g.accepted).settle in
    let limit = (accepted f coded.file).entries.limits.states_high in
    let high : pairs (machine_of f).states ≤ max_side = rw (states_are f) (pairs_high (states_of f) limit) in
    let d' : StringPromise f w os before₃ r₃ after₃ = rw (wrote f s xs coded before₁ after₁ r₁ l h) at d in
    let long : length os ≡ length xs = length_outs (machine_of f) s xs in
    let limits : limits_refusal f w ≡ 0 =
    limits_pass f w coded.file (omega (arith, report.before_small)) (omega (arith, report.after_small))
    (omega (arith, report.settle)) in
    let z : string_refusal_in f w os (length before₃) true ≡ 0 =
    string_pass f w os (length before₃) limits (rw long m)
    (outs_letters (machine_of f) (outputs_of f) (output_below f (accepted f coded.file)) s xs) in
    record {
      ran = rw (not_refused f s xs coded before₁ l) at h.result;
      counted = (rw z at d'.result) ∙ ap (λ n. Ok (places n w)) long;
      back =
          λ k ahead n.
          string_comes_back f w s xs before₃ r₃ after₃ (rw report.settle report.least.works) coded.start coded.letters z d' k
          (omega arith) ahead;
    }
