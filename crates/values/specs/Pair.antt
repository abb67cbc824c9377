-- A looped pair of a call as one of the theory.
use Rattle.std.specs.Prelude.{List, ℕ}
use Rattle.mealy.specs.LoopedPair as mealy
use Rattle.values.specs.declared.LoopedPair.{LoopedPair}

-- Starts and lengths from the value, letters from the bytes of a buffer.
abbrev pub pair_of : LoopedPair → List ℕ → mealy.LoopedPair
pair_of p bytes =
    record {
      s = p.s;
      t = p.t;
      back_loop = p.back_loop;
      lead_in = p.lead_in;
      lead_out = p.lead_out;
      forward_loop = p.forward_loop;
      bytes = bytes;
    }

-- The value that six numbers make.
abbrev pub looped_pair : ℕ → ℕ → ℕ → ℕ → ℕ → ℕ → LoopedPair
looped_pair s t b i o f =
    record { s = s; t = t; back_loop = b; lead_in = i; lead_out = o; forward_loop = f }
