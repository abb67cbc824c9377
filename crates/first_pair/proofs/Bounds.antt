-- The first pair keeps both bounds of N × N letters.
use mathlib.Core.Path.{◌≡◌, refl}
use Prim.Native.Nat.{ℕ, zero, suc, ◌+◌, ◌*◌, ◌≤◌, ◌<◌}
use native.Mathlib.Omega.{arith}
use native.Mathlib.Decide.{dec_le}
use Rattle.mealy.specs.Setting.{Setting, Closed, Bounded}
use Rattle.mealy.specs.Product.{Edge}
use Rattle.mealy.specs.LoopedPair.{LoopedPair, first, second, letter_at, mark, unlooped, letters, Valid, Short}
use Rattle.mealy.specs.First.{First}
use Rattle.mealy.proofs.Runs.{edge_start}
use Rattle.first_pair.specs.Reach.{Reach, At, Cycle, SomeConflictInto}
use Rattle.first_pair.proofs.Reaching.{edge_into, reach_end, leads_reach}
use Rattle.first_pair.proofs.Parts.{state_at, valid_edges, edges_leads}
use Rattle.first_pair.proofs.Making.{possible_valid}
use Rattle.first_pair.proofs.Shortening.{fewer_before, fewer_after}

module _ (S : Setting) (closed : Closed S) (bounded : Bounded S) (p : LoopedPair) (f : First S p) where
  open S use {M, Start}

  abbrev N : ℕ
  N = M.states

  w : Valid S p
  w = f.valid

  abbrev σ : ℕ → ℕ
  σ = state_at M p first

  abbrev τ : ℕ → ℕ
  τ = state_at M p second

  edge : (k : ℕ) → k < letters p → Edge M (σ k) (τ k) (letter_at p first k) (letter_at p second k) (σ (suc k)) (τ (suc k))
  edge = valid_edges S p w

  segment : (n a b : ℕ) → a + n ≡ b → b ≤ letters p → Reach M (At (σ b) (τ b)) n (σ a) (τ a)
  segment n a b e l = leads_reach _ (edges_leads M p (state_at M p) (letters p) n a b edge e l) (refl, refl)

  starts : (k : ℕ) → k ≤ letters p → Start (σ k) × Start (τ k)
  starts zero l = (w.start first, w.start second)
  starts (suc k) l = let z = starts k (omega arith) in edge_start S closed (edge k (omega arith)) z.0 z.1

  small : (k : ℕ) → k ≤ letters p → (σ k < N) × (τ k < N)
  small k l = let z = starts k l in (bounded _ z.0, bounded _ z.1)

  -- the conflicting edge, with another lead-out and forward loop
  conflicting :
      (lo fl : ℕ) → Reach M (Cycle M fl) lo (σ (suc (mark p))) (τ (suc (mark p))) →
      SomeConflictInto S (Reach M (Cycle M fl) lo) (σ (mark p)) (τ (mark p))
  conflicting lo fl r =
      record { i = _; j = _; edge = record { conflict = w.conflict; into = edge_into (edge (mark p) (omega arith)) r } }

  -- no fewer letters from any place of the pair
  fewest :
      (at bl li lo fl : ℕ) → at ≤ letters p → Cycle M bl (σ at) (τ at) → Reach M (At (σ (mark p)) (τ (mark p))) li (σ at) (τ at) →
      Reach M (Cycle M fl) lo (σ (suc (mark p))) (τ (suc (mark p))) → letters p ≤ bl + li + 1 + lo + fl
  fewest at bl li lo fl l c r o =
      let z = starts at l in
      let q = possible_valid S (σ at) (τ at) bl li lo fl (bl + li + 1 + lo + fl) refl z.0 z.1 c
      (reach_end M (SomeConflictInto S (Reach M (Cycle M fl) lo)) li (σ at) (τ at) (σ (mark p)) (τ (mark p)) r (conflicting lo fl o)) in
      omega (arith, (f.first q.pair q.valid).0, q.all)

  back_loop : Cycle M p.back_loop (σ 0) (τ 0)
  back_loop = record {
    letter = w.back_letter;
    closed = rw (w.back_closed first, w.back_closed second) at (segment p.back_loop 0 p.back_loop (omega arith) (omega arith));
  }

  lead_in : Reach M (At (σ (mark p)) (τ (mark p))) p.lead_in (σ 0) (τ 0)
  lead_in = rw (w.back_closed first, w.back_closed second) at (segment p.lead_in p.back_loop (mark p) refl (omega arith))

  rest : Reach M (Cycle M p.forward_loop) p.lead_out (σ (suc (mark p))) (τ (suc (mark p)))
  rest =
      reach_end M (Cycle M p.forward_loop) p.lead_out _ _ (σ (unlooped p)) (τ (unlooped p))
      (segment p.lead_out (suc (mark p)) (unlooped p) (omega arith) (omega arith))
      (record {
        letter = w.forward_letter;
        closed = rw (w.forward_closed first, w.forward_closed second) at (segment p.forward_loop (unlooped p) (letters p) refl (omega arith));
      })

  pub first_short : Short N p
  first_short = record {
    before = elim (dec_le (mark p) (N * N)) [
      | yes l ↦ l
      | no l ↦ (let c = fewer_before M N (letters p) σ τ segment small p.back_loop p.lead_in (mark p) refl (omega arith)
          w.back_letter (w.back_closed first) (w.back_closed second) (omega arith) in
          absurd (omega (arith, fewest c.at c.bl c.li p.lead_out p.forward_loop c.inside c.loop c.on rest, c.fewer)))
    ];
    after = elim (dec_le (p.lead_out + p.forward_loop) (N * N)) [
      | yes l ↦ l
      | no l ↦ (let c = fewer_after M N (letters p) σ τ segment small p.lead_out p.forward_loop (suc (mark p)) (unlooped p) (letters p)
          (omega arith) refl (omega arith) w.forward_letter (w.forward_closed first) (w.forward_closed second) (omega arith) in
          absurd (omega (arith, fewest 0 p.back_loop p.lead_in c.lo c.fl (omega arith) back_loop lead_in c.on, c.fewer)))
    ];
  }
