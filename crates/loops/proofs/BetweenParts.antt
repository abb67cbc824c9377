-- The letters between the loops: what each of the three parts asks, and that together they are as the tables say.
use mathlib.Core.Path.{◌≡◌, refl, sym, ◌∙◌}
use mathlib.Core.List.{List}
use Prim.Native.Nat.{ℕ, suc, ◌+◌, ◌*◌, ◌/◌, ◌%◌, ◌≤◌, ◌<◌}
use native.Mathlib.Omega.{arith}
use lib.ListN.{length, get_or}
use Rattle.mealy.specs.Setting.{Setting}
use Rattle.coder.specs.Table.{machine_of_coder, Sound}
use Rattle.coder.specs.declared.inner.tables.Coder.{Coder}
use Rattle.values.specs.Pair.{pair_of}
use Rattle.values.specs.declared.LoopedPair.{LoopedPair}
use Rattle.first_pair.specs.Reach.{Pairs}
use Rattle.first_pair.specs.Lowest.{bytes_at}
use Rattle.first_pair.specs.Cost.{CostOf, letter_cost, in_cost, out_cost, tail_cost}
use Rattle.first_pair.specs.Found.{LengthsBy}
use Rattle.first_pair.proofs.Lowest.{lowest_within}
use Rattle.first_pair.proofs.Writing.{bytes_same}
use Rattle.first_pair.proofs.Costs.{Along, cost_on}
use Rattle.first_pair.proofs.Found.{tail_along, head_along, mark_some}
use Rattle.letters.specs.Walk.{StatePair, WriteFrom, WriteAsked, Wrote}
use Rattle.loops.specs.Parts.{setting_in, SomeMark, MarkAsked, MarkWritten, BetweenFrom, BetweenWritten}
use Rattle.loops.proofs.Keeping.{kept_then}
use Rattle.loops.proofs.ClosedParts.{sound_total, own_arrays, some_into}

-- along a table, from a pair with the cost of all letters
along_walk :
    {c : Coder} {step base n : ℕ} {A : ℕ → Pairs} {P : Pairs} {t : List ℕ} → Sound c → Along (machine_of_coder c) step base n A P t →
    (from : ℕ) → StatePair c from → CostOf t step base n (from / 16) (from % 16) → WriteFrom c t step base from n
along_walk {c} s w from pair cost =
    let M = machine_of_coder c in
    record {
      pair = pair;
      none = λ e. rw e at cost;
      first = λ k e. some_into (cost_on M (sound_total s) w k (from / 16) (from % 16) (omega arith) pair.0 pair.1 (rw e at cost));
      on = λ k u v l₁ l₂ m z. some_into (cost_on M (sound_total s) w k u v (omega arith) l₁ l₂ z);
    }

parts : (s t : ℕ) → t < 16 → ((16 * s + t) / 16 ≡ s) × ((16 * s + t) % 16 ≡ t)
parts s t l = (omega arith, omega arith)

module _ {c : Coder} {starts : ℕ} {conflicts loops tails heads : List ℕ} {p : LoopedPair} (f : BetweenFrom c starts conflicts loops tails heads p) where
  abbrev S : Setting
  S = setting_in c starts conflicts

  abbrev bl : ℕ
  bl = p.back_loop

  abbrev li : ℕ
  li = p.lead_in

  abbrev lo : ℕ
  lo = p.lead_out

  abbrev fl : ℕ
  fl = p.forward_loop

  abbrev start : ℕ
  start = 16 * p.s + p.t

  lengths : LengthsBy S loops heads (pair_of p conflicts)
  lengths = f.found.lengths conflicts

  -- the numbers are small
  pub few : bl + li + 1 + lo + fl ≤ 513
  few = f.found.few

  pub start_below : (p.s < c.states) × (p.t < c.states)
  start_below = (lengths.start₁.0, lengths.start₂.0)

  start_parts : (start / 16 ≡ p.s) × (start % 16 ≡ p.t)
  start_parts = parts p.s p.t (omega (arith, start_below.1, f.sound.states_high))

  pub head_walk : WriteFrom c heads in_cost (letter_cost + tail_cost lo fl) start li
  head_walk =
      let q = start_parts in
      along_walk f.sound (head_along S li lo fl (omega (arith, few)) heads (f.tables.heads_are starts)) start
      (rw q.0 start_below.0, rw q.1 start_below.1) (rw (q.0, q.1) lengths.head_is)

  -- the lead-in
  pub head_asks :
      {b₀ : List ℕ} → 1026 ≤ length b₀ →
      WriteAsked c.next c.output c.inputs heads in_cost (letter_cost + tail_cost lo fl) start li bl b₀
  head_asks room =
      let l = few in
      record {
        c = c;
        arrays = own_arrays f.sound;
        walk = head_walk;
        step_high = omega arith;
        base_high = omega arith;
        letters_high = omega arith;
        place_high = omega arith;
        room = omega arith;
      }

  module _ {b₀ b₁ : List ℕ} {u : ℕ} (h : Wrote c heads in_cost (letter_cost + tail_cost lo fl) start li bl b₀ b₁ u) where
    some_mark : SomeMark c conflicts tails u (tail_cost lo fl)
    some_mark =
        let m =
        mark_some S (λ s q. q.0) (sound_total f.sound) loops tails heads f.tables.loops_are f.tables.tails_are
        (f.tables.heads_are starts) (pair_of p conflicts) lengths (u / 16) (u % 16) h.pair.0 h.pair.1 (lowest_within h.lowest) in
        record { i = m.0; j = m.1; mark = λ starts'. record { conflict = m.2.conflict; into = m.2.into } }

    -- the differing letter
    pub mark_follows : 1026 ≤ length b₀ → MarkAsked c conflicts tails u (tail_cost lo fl) (bl + li) b₁
    mark_follows room =
        let l = few in
        record {
          sound = f.sound;
          pair = h.pair;
          some = some_mark;
          place_high = omega arith;
          room = omega (arith, h.kept.size);
        }

    module _ {b₂ : List ℕ} {v : ℕ} (m : MarkWritten c conflicts tails u (tail_cost lo fl) (bl + li) b₁ b₂ v) where
      pub tail_walk : WriteFrom c tails out_cost (letter_cost * fl) v lo
      tail_walk =
          along_walk f.sound (tail_along (machine_of_coder c) lo fl (omega (arith, few)) tails f.tables.tails_are) v m.pair
          (rw (m.first, m.second) (m.lowest starts).holds.into.within)

      -- the lead-out
      pub tail_asks :
          1026 ≤ length b₀ → WriteAsked c.next c.output c.inputs tails out_cost (letter_cost * fl) v lo (bl + li + 1) b₂
      tail_asks room =
          let l = few in
          record {
            c = c;
            arrays = own_arrays f.sound;
            walk = tail_walk;
            step_high = omega arith;
            base_high = omega arith;
            letters_high = omega arith;
            place_high = omega arith;
            room = omega (arith, h.kept.size, m.kept.size);
          }

      pub between_written :
          {b₃ : List ℕ} {r : ℕ} → Wrote c tails out_cost (letter_cost * fl) v lo (bl + li + 1) b₂ b₃ r →
          BetweenWritten c starts conflicts tails heads p b₀ b₃ r
      between_written {b₃} {r} t =
          let q = start_parts in
          let k₁ = m.kept in
          let k₂ = t.kept in
          let e : bytes_at b₁ bl li ≡ bytes_at b₃ bl li =
          bytes_same b₁ b₃ li bl (λ a l n. sym (k₂.earlier a (omega arith) ∙ k₁.earlier a (omega arith))) in
          let i : get_or b₂ (2 * (bl + li) + 0) 0 ≡ get_or b₃ (2 * (bl + li) + 0) 0 = sym (k₂.earlier _ (omega arith)) in
          let j : get_or b₂ (2 * (bl + li) + 1) 0 ≡ get_or b₃ (2 * (bl + li) + 1) 0 = sym (k₂.earlier _ (omega arith)) in
          let n : bl + li + 1 ≡ suc (bl + li) = omega arith in
          record {
            u = u / 16;
            v = u % 16;
            lead_in = rw (q.0, q.1, e) at h.lowest;
            mark = rw (i, j) at (m.lowest starts);
            lead_out = rw (m.first, m.second, i, j, n) at t.lowest;
            pair = t.pair;
            inside = t.inside;
            kept = kept_then (omega arith) (kept_then refl h.kept k₁) k₂;
          }
