-- How long the report's lines are.
use Prim.Native.Nat.{ℕ, ◌<◌, ◌≤◌}
use native.Mathlib.Omega.{arith}
use lib.ListN.{length, length-append}
use Rattle.text.proofs.Decimals.{three_digits}
use Rattle.report_text.specs.Report.{refused_text, coder_line, window_line}

pub refused_length : (k : ℕ) → k < 1000 → length (refused_text k) ≤ 12
refused_length k l = simp length-append (omega (arith, three_digits k l))

pub coder_length : (n i o : ℕ) → n < 1000 → i < 1000 → o < 1000 → length (coder_line n i o) ≤ 18
coder_length n i o l m k = simp length-append (omega (arith, three_digits n l, three_digits i m, three_digits o k))

pub window_length : (b a : ℕ) → b < 1000 → a < 1000 → length (window_line b a) ≤ 15
window_length b a l m = simp length-append (omega (arith, three_digits b l, three_digits a m))
