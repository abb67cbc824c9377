-- From the parts that are written to the first looped pair.
use mathlib.Core.Path.{◌≡◌, refl, sym, ◌∙◌}
use mathlib.Core.List.{List}
use Prim.Native.Nat.{ℕ, suc, ◌+◌, ◌*◌, ◌/◌, ◌%◌, ◌≤◌, ◌<◌}
use native.Mathlib.Omega.{arith}
use lib.ListN.{length, get_or, drop, length-drop}
use lib.Seq.{ext_get_or, get_or-drop}
use Rattle.mealy.specs.Machine.{Machine, Total}
use Rattle.mealy.specs.Setting.{Setting, Bounded}
use Rattle.coder.specs.Table.{machine_of_coder}
use Rattle.coder.specs.declared.inner.tables.Coder.{Coder}
use Rattle.values.specs.Pair.{pair_of}
use Rattle.values.specs.declared.LoopedPair.{LoopedPair}
use Rattle.first_pair.specs.Lowest.{bytes_at}
use Rattle.first_pair.specs.Cost.{CostOf, letter_cost, out_cost}
use Rattle.first_pair.specs.Successors.{SuccessorsOf}
use Rattle.first_pair.specs.Found.{LengthsBy}
use Rattle.first_pair.proofs.Writing.{bytes_same}
use Rattle.first_pair.proofs.Found.{back_cycle, back_shortest, forward_cycle, forward_shortest, found_first}
use Rattle.letters.specs.Walk.{StatePair, StaysOutside}
use Rattle.loops.specs.Pair.{FindAsked, FoundPair}
use Rattle.loops.specs.Parts.{setting_in, CostTablesOf, ClosedAsked, ClosedWritten, LengthsFrom, LengthsDone, BetweenFrom, BetweenWritten, LettersWritten}
use Rattle.loops.proofs.Keeping.{kept_then}

-- the bytes past those written are as they were
kept_rest : {n m : ℕ} {before after : List ℕ} → 2 * n ≡ m → StaysOutside 0 n before after → drop m after ≡ drop m before
kept_rest {n} {m} {before} {after} e k =
    ext_get_or 0 (drop m after) (drop m before) (length-drop m after ∙ rw k.size (sym (length-drop m before)))
    (λ j l. get_or-drop m after j 0 ∙ k.later (m + j) (omega arith) ∙ sym (get_or-drop m before j 0))

-- what starts and lengths are found from, and the letters
pub lengths_from :
    {c : Coder} {starts : ℕ} {conflicts before loops tails heads : List ℕ} → FindAsked c starts conflicts before →
    CostTablesOf c conflicts loops tails heads → LengthsFrom c starts conflicts loops heads
lengths_from {starts = starts} p t =
    record {
      sound = p.sound;
      loops_table = t.loops_table;
      heads_table = t.heads_table;
      loops_are = t.loops_are;
      heads_are = t.heads_are starts;
      some = p.some;
    }

pub between_from :
    {c : Coder} {starts : ℕ} {conflicts before loops tails heads : List ℕ} {r : LoopedPair} → FindAsked c starts conflicts before →
    CostTablesOf c conflicts loops tails heads → LengthsDone c.states starts loops heads r →
    BetweenFrom c starts conflicts loops tails heads r
between_from p t l = record { sound = p.sound; tables = t; found = l _ _ refl (lengths_from p t) }

module _ {c : Coder} {starts : ℕ} {conflicts loops tails heads : List ℕ} {p : LoopedPair}
    (from : BetweenFrom c starts conflicts loops tails heads p) where
  abbrev M : Machine
  M = machine_of_coder c

  abbrev S : Setting
  S = setting_in c starts conflicts

  bounded : Bounded S
  bounded s z = z.0

  total : Total M
  total s i l m = from.sound.next_state s i

  module _ (bytes : List ℕ) where
    w : LengthsBy S loops heads (pair_of p bytes)
    w = from.found.lengths bytes

  abbrev t : CostTablesOf c conflicts loops tails heads
  t = from.tables

  -- ---- what the loops ask

  module _ {words before : List ℕ} (successors : SuccessorsOf M words) (room : 1026 ≤ length before) where
    pub back_asked : (a : ℕ) → a ≡ 16 * p.s + p.t → ClosedAsked c words a p.back_loop 0 before
    back_asked a e =
        let l = (w before).start₁.0 in
        let m = (w before).start₂.0 in
        let h = from.sound.states_high in
        let f = from.found.few in
        let e₁ : a / 16 ≡ p.s = omega arith in
        let e₂ : a % 16 ≡ p.t = omega arith in
        record {
          sound = from.sound;
          successors = successors;
          pair = (omega arith, omega arith);
          closed = rw (e₁, e₂) (back_cycle S bounded total loops tails heads t.loops_are t.tails_are (t.heads_are starts) (pair_of p before) (w before));
          shortest = λ n z.
              back_shortest S bounded total loops tails heads t.loops_are t.tails_are (t.heads_are starts) (pair_of p before) (w before) n (rw (e₁, e₂) at z);
          letters_high = omega arith;
          place_high = omega arith;
          room = omega arith;
        }

    pub forward_asked :
        (r : ℕ) → StatePair c r → CostOf tails out_cost (letter_cost * p.forward_loop) 0 (r / 16) (r % 16) →
        ClosedAsked c words r p.forward_loop (p.back_loop + p.lead_in + 1 + p.lead_out) before
    forward_asked r l z =
        let f = from.found.few in
        record {
          sound = from.sound;
          successors = successors;
          pair = l;
          closed =
              forward_cycle S bounded total loops tails heads t.loops_are t.tails_are (t.heads_are starts) (pair_of p before) (w before)
              (r / 16) (r % 16) l.0 l.1 z;
          shortest =
              forward_shortest S bounded total loops tails heads t.loops_are t.tails_are (t.heads_are starts) (pair_of p before) (w before)
              (r / 16) (r % 16) l.0 l.1 z;
          letters_high = omega arith;
          place_high = omega arith;
          room = omega arith;
        }

  -- ---- the letters

  module _ {b₀ b₁ b₂ b₃ : List ℕ} {a r : ℕ} (e : a ≡ 16 * p.s + p.t) (x : ClosedWritten c a p.back_loop 0 b₀ b₁)
      (y : BetweenWritten c starts conflicts tails heads p b₁ b₂ r)
      (z : ClosedWritten c r p.forward_loop (p.back_loop + p.lead_in + 1 + p.lead_out) b₂ b₃) where
    abbrev bl : ℕ
    bl = p.back_loop

    abbrev li : ℕ
    li = p.lead_in

    abbrev lo : ℕ
    lo = p.lead_out

    same₂ : (k : ℕ) → k < 2 * (bl + li + 1 + lo) → get_or b₂ k 0 ≡ get_or b₃ k 0
    same₂ k l = sym (z.kept.earlier k l)

    same₁ : (k : ℕ) → k < 2 * bl → get_or b₁ k 0 ≡ get_or b₃ k 0
    same₁ k l = sym (y.kept.earlier k l) ∙ same₂ k (omega arith)

    back_bytes : bytes_at b₁ 0 bl ≡ bytes_at b₃ 0 bl
    back_bytes = bytes_same b₁ b₃ bl 0 (λ k l m. same₁ k (omega arith))

    in_bytes : bytes_at b₂ bl li ≡ bytes_at b₃ bl li
    in_bytes = bytes_same b₂ b₃ li bl (λ k l m. same₂ k (omega arith))

    out_bytes : bytes_at b₂ (suc (bl + li)) lo ≡ bytes_at b₃ (suc (bl + li)) lo
    out_bytes = bytes_same b₂ b₃ lo (suc (bl + li)) (λ k l m. same₂ k (omega arith))

    mark_first : get_or b₂ (2 * (bl + li) + 0) 0 ≡ get_or b₃ (2 * (bl + li) + 0) 0
    mark_first = same₂ (2 * (bl + li) + 0) (omega arith)

    mark_second : get_or b₂ (2 * (bl + li) + 1) 0 ≡ get_or b₃ (2 * (bl + li) + 1) 0
    mark_second = same₂ (2 * (bl + li) + 1) (omega arith)

    pub letters_written : LettersWritten c starts conflicts tails heads p b₀ b₃
    letters_written =
        let m = (w b₀).start₂.0 in
        let h = from.sound.states_high in
        let e₁ : a / 16 ≡ p.s = omega arith in
        let e₂ : a % 16 ≡ p.t = omega arith in
        record {
          u = y.u;
          v = y.v;
          x = r / 16;
          y = r % 16;
          lowest = record {
            back = rw (e₁, e₂, back_bytes) at x.lowest;
            before = rw in_bytes at y.lead_in;
            conflict = rw (mark_first, mark_second) at y.mark;
            after = rw (mark_first, mark_second, out_bytes) at y.lead_out;
            forward = z.lowest;
          };
          kept =
              let q : bl + (li + 1 + lo) + p.forward_loop ≡ bl + li + 1 + lo + p.forward_loop = omega arith in
              rw q at (kept_then (omega arith) (kept_then (omega arith) x.kept y.kept) z.kept);
        }

-- ---- the pair

pub found_pair :
    {c : Coder} {starts : ℕ} {conflicts loops tails heads : List ℕ} {p : LoopedPair} {before after : List ℕ} → 1026 ≤ length before →
    BetweenFrom c starts conflicts loops tails heads p → LettersWritten c starts conflicts tails heads p before after →
    FoundPair c starts conflicts p before after
found_pair {c} {starts} {conflicts} {loops} {tails} {heads} {p} {before} {after} room from z =
    let t = from.tables in
    let f = from.found.few in
    record {
      first =
          found_first (setting_in c starts conflicts) (λ s l. l.0) (λ s i l m. from.sound.next_state s i) loops tails heads t.loops_are
          t.tails_are (t.heads_are starts) (pair_of p after) (from.found.lengths after) z.u z.v z.x z.y z.lowest
          from.sound.states_high (omega (arith, z.kept.size));
      size = z.kept.size;
      rest = kept_rest refl z.kept;
    }
