-- Two pairs that compare as equal have the same lines.
use mathlib.Core.Path.{◌≡◌}
use Prim.Native.Nat.{◌*◌}
use lib.ListN.{take}
use Rattle.mealy.specs.LoopedPair.{LoopedPair, letters}
use Rattle.mealy.specs.First.{key}
use Rattle.pair_text.specs.Lines.{pair_text}

pub text_same : (p q : LoopedPair) → key p ≡ key q → pair_text p ≡ pair_text q
text_same p q e =
    let s : p.s ≡ q.s = cc in
    let t : p.t ≡ q.t = cc in
    let b : p.back_loop ≡ q.back_loop = cc in
    let i : p.lead_in ≡ q.lead_in = cc in
    let o : p.lead_out ≡ q.lead_out = cc in
    let f : p.forward_loop ≡ q.forward_loop = cc in
    let bytes : take (2 * letters p) p.bytes ≡ take (2 * letters q) q.bytes = cc in
    rw (bytes, s, t, b, i, o, f)
