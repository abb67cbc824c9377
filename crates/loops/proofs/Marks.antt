-- The differing letter: conflicting edges in the arrays of a coder as those of its machine, and the lowest of them written.
use mathlib.Core.Path.{◌≡◌}
use mathlib.Core.List.{List}
use Prim.Native.Nat.{ℕ, ◌+◌, ◌*◌, ◌/◌, ◌%◌, ◌<◌}
use native.Mathlib.Omega.{arith}
use lib.ListN.{length}
use Rattle.coder.specs.declared.inner.tables.Coder.{Coder}
use Rattle.coder.proofs.Tables.{next_high}
use Rattle.first_pair.specs.Reach.{ConflictInto}
use Rattle.first_pair.specs.Lowest.{LowestOf}
use Rattle.first_pair.specs.Cost.{entry}
use Rattle.letters.specs.Walk.{EdgeTo, LowestAsked, AfterLetters, with_letters}
use Rattle.letters.proofs.Edges.{edge_into, into_edge}
use Rattle.letters.proofs.Steps.{with_first, with_second, kept_none, kept_more, after_pair}
use Rattle.loops.specs.Parts.{setting_in, MarkAsked, MarkWritten}
use Rattle.loops.proofs.ClosedParts.{own_arrays}

module _ {c : Coder} {conflicts tails : List ℕ} {a want place : ℕ} {before : List ℕ} (w : MarkAsked c conflicts tails a want place before) where
  -- a conflicting edge stands in the arrays
  mark_edge :
      (starts i j : ℕ) → ConflictInto (setting_in c starts conflicts) (λ x y. entry tails x y ≡ want) (a / 16) (a % 16) i j →
      EdgeTo c.next c.output c.inputs conflicts tails (a / 16) (a % 16) want i j
  mark_edge starts i j e = into_edge (own_arrays w.sound) conflicts tails (a / 16) (a % 16) want i j e.conflict e.into

  -- what finding the letters asks
  pub mark_asks : LowestAsked c.next c.output c.inputs conflicts tails a want
  mark_asks =
      let s = w.sound in
      let m = w.some in
      record {
        pair = omega (arith, w.pair.0, s.states_high);
        inputs_high = s.inputs_high;
        next_high = λ p. omega (arith, next_high c s p, s.states_high);
        some = record { i = m.i; j = m.j; edge = mark_edge 0 m.i m.j (m.mark 0) };
      }

  -- they are written
  pub mark_written :
      {r : ℕ} (x : ℕ) → LowestOf (EdgeTo c.next c.output c.inputs conflicts tails (a / 16) (a % 16) want) (x / 16) (x % 16) → x < 256 →
      AfterLetters c.next a x r →
      MarkWritten c conflicts tails a want place before (with_letters before place (x / 16) (x % 16)) r
  mark_written {r} x o l f =
      let s = w.sound in
      let i = x / 16 in
      let j = x % 16 in
      let room : 2 * place + 1 < length before = omega (arith, w.room) in
      let g = after_pair (own_arrays s) a x r (omega arith) f in
      let e : place + 0 ≡ place = omega arith in
      let b₁ = with_first before place i j room (2 * place + 0) (omega arith) in
      let b₂ = with_second before place i j room in
      record {
        lowest = λ starts. rw (b₁, b₂) (record {
          holds = record {
            conflict = o.holds.within;
            into = edge_into (own_arrays s) conflicts tails (a / 16) (a % 16) want i j o.holds;
          };
          lowest = λ i' j' h. o.lowest i' j' (mark_edge starts i' j' h);
        });
        first = rw b₁ g.0;
        second = rw b₂ g.1;
        pair = (rw g.0 (s.next_state (a / 16) i), rw g.1 (s.next_state (a % 16) j));
        kept = rw e at (kept_more {place = place} {k = 0} {before = before} {bytes = before} i j kept_none);
      }
