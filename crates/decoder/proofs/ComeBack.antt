-- Letters come back: what the coder writes on xs from a reachable state, decoded with a window that works, is xs from place b on, at the
-- places that have as many letters ahead of the window as its settle count says.
use mathlib.Core.Path.{◌≡◌, refl}
use mathlib.Core.Bool.{true}
use mathlib.Core.List.{List}
use Rattle.std.specs.Prelude.{Result}
use Prim.Native.Nat.{ℕ, ◌+◌, ◌≤◌, ◌<◌}
use native.Mathlib.Omega.{arith}
use lib.ListN.{length, get_or, take, drop}
use Rattle.mealy.specs.Machine.{outs, Letters}
use Rattle.mealy.specs.Reachable.{Reachable}
use Rattle.mealy.specs.Window.{Works}
use Rattle.mealy.specs.Answer.{letter}
use Rattle.mealy.proofs.RunParts.{length_outs}
use Rattle.mealy.proofs.ComesBack.{comes_back_at}
use Rattle.mealy.proofs.StartStates.{start_take}
use Rattle.coder.specs.File.{inputs_of, machine_of}
use Rattle.coder.specs.declared.refusal.Refusal.{Refusal}
use Rattle.fitting.proofs.Answers.{right_byte_unique}
use Rattle.values.specs.Window.{size}
use Rattle.values.specs.declared.Window.{Window}
use Rattle.decoder_refusal.specs.Refusal.{places, string_refusal_in}
use Rattle.decoder.specs.Written.{Written}
use Rattle.decoder.specs.Window.{window_setting}
use Rattle.decoder.specs.Places.{ByteAt, StringPromise}

-- the letter that went in is the right byte for the part of the coded string at its place
pub place_comes_back :
    (f : List ℕ) (w : Window) (s : ℕ) (xs : List ℕ) → Works (window_setting f w) w.before w.after → Reachable (machine_of f) s →
    Letters (inputs_of f) xs → (k : ℕ) → k < places (length xs) w → w.settle ≤ k →
    ByteAt f (outs (machine_of f) s xs) w k (get_or xs (k + w.before) 0)
unfolding machine_of
place_comes_back f w s xs works start letters k l ahead =
    record {
      answer = letter (get_or xs (k + w.before) 0);
      right =
          comes_back_at (window_setting f w) (λ i j d. d) w.before w.after works s xs k
          (start_take (machine_of f) w.settle k s xs ahead (omega arith) start letters) letters (omega arith);
      byte = refl;
    }

pub string_comes_back :
    (f : List ℕ) (w : Window) (s : ℕ) (xs before : List ℕ) (r : Result ℕ Refusal) (after : List ℕ) →
    Works (window_setting f w) w.before w.after → Reachable (machine_of f) s → Letters (inputs_of f) xs →
    string_refusal_in f w (outs (machine_of f) s xs) (length before) true ≡ 0 →
    StringPromise f w (outs (machine_of f) s xs) before r after → (k : ℕ) → k < places (length xs) w → w.settle ≤ k →
    get_or after k 0 ≡ get_or xs (k + w.before) 0
string_comes_back f w s xs before r after works start letters accepted_call p k l ahead =
    let o = outs (machine_of f) s xs in
    let long : length o ≡ length xs = length_outs (machine_of f) s xs in
    let written : Written (ByteAt f o w) (places (length o) w) before after = rw accepted_call at p.bytes in
    right_byte_unique (window_setting f w) (take (size w) (drop k o)) w.before (written.is k (omega arith))
    (place_comes_back f w s xs works start letters k l ahead)
