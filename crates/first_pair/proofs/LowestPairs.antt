-- With starts and lengths fixed, the pair whose five parts have the lowest letters has the lowest bytes.
use mathlib.Core.Path.{◌≡◌, refl}
use mathlib.Core.List.{List}
use Prim.Native.Nat.{ℕ, suc, ◌+◌, ◌<◌}
use native.Mathlib.Omega.{arith}
use Rattle.mealy.specs.Machine.{Machine}
use Rattle.mealy.specs.Setting.{Setting}
use Rattle.mealy.specs.LoopedPair.{LoopedPair, first, second, letter_at, mark, unlooped, letters}
use Rattle.mealy.specs.First.{Lexicographic}
use Rattle.first_pair.specs.Reach.{Pairs, Reach, Cycle, ConflictInto}
use Rattle.first_pair.specs.Lowest.{BytesLead, Lowest, bytes_from, LowestPair}
use Rattle.first_pair.proofs.Reaching.{leads_reach, leads_same}
use Rattle.first_pair.proofs.Lowest.{lowest_leads, lowest_least}
use Rattle.first_pair.proofs.Parts.{lexicographic_join, PartsWith, PartsOf}

module _ {M : Machine} where
  pub leads_cycle : {n u v : ℕ} {bytes : List ℕ} → 0 < n → BytesLead M n u v bytes u v → Cycle M n u v
  leads_cycle l w = record { letter = l; closed = leads_reach _ w (refl, refl) }

  -- the same bytes lead to the pair where the lowest do
  same_end :
      {L : ℕ → Pairs} {k u v x y x' y' : ℕ} {bytes bytes' : List ℕ} → Lowest M L k u v bytes x y → BytesLead M k u v bytes' x' y' →
      bytes ≡ bytes' → (x' ≡ x) × (y' ≡ y)
  same_end a b e = leads_same (rw (← e) at b) (lowest_leads a)

-- a pair with such parts has its five walks
pub lowest_parts : (S : Setting) (p : LoopedPair) (u v x y : ℕ) → LowestPair S p u v x y → PartsOf S p
lowest_parts S p u v x y w = record {
  u = u;
  v = v;
  x = x;
  y = y;
  back = lowest_leads w.back;
  before = lowest_leads w.before;
  edge = w.conflict.holds.into.edge;
  conflict = w.conflict.holds.conflict;
  after = lowest_leads w.after;
  forward = lowest_leads w.forward;
}

module _ (S : Setting) (p : LoopedPair) (u v x y : ℕ) (w : LowestPair S p u v x y) (q : LoopedPair)
    (d : PartsWith S q p.s p.t p.back_loop p.lead_in p.lead_out p.forward_loop) (l : 0 < p.forward_loop) where
  open S use {M}

  abbrev rest : ℕ → ℕ → Type 0
  rest = Reach M (Cycle M p.forward_loop) p.lead_out

  -- the conflicting edge of q
  other : ConflictInto S rest d.u d.v (letter_at q first (mark p)) (letter_at q second (mark p))
  other = record {
    conflict = d.conflict;
    into = record { edge = d.edge; within = leads_reach _ d.after (leads_cycle l d.forward) };
  }

  forward_lowest : d.x ≡ x → d.y ≡ y → Lexicographic (bytes_from p (unlooped p) p.forward_loop) (bytes_from q (unlooped p) p.forward_loop)
  forward_lowest e f = lowest_least _ w.forward (rw (e, f) at d.forward) (refl, refl)

  after_lowest :
      d.u ≡ u → d.v ≡ v → letter_at p first (mark p) ≡ letter_at q first (mark p) → letter_at p second (mark p) ≡ letter_at q second (mark p) →
      Lexicographic (bytes_from p (suc (mark p)) (p.lead_out + p.forward_loop)) (bytes_from q (suc (mark p)) (p.lead_out + p.forward_loop))
  after_lowest e f g h =
      let a = rw (e, f, ← g, ← h) at d.after in
      lexicographic_join p q p.lead_out p.forward_loop (p.lead_out + p.forward_loop) (suc (mark p)) (unlooped p) refl (omega arith)
      (lowest_least _ w.after a (leads_cycle l d.forward))
      (λ z. let c = same_end w.after a z in forward_lowest c.0 c.1)

  conflict_lowest :
      d.u ≡ u → d.v ≡ v →
      Lexicographic (bytes_from p (mark p) (suc (p.lead_out + p.forward_loop))) (bytes_from q (mark p) (suc (p.lead_out + p.forward_loop)))
  conflict_lowest e f =
      let o = rw (e, f) at other in
      let c = w.conflict.lowest _ _ o in
      (c.0, λ g. (c.1 g, λ h. after_lowest e f g h))

  before_lowest :
      Lexicographic (bytes_from p p.back_loop (p.lead_in + suc (p.lead_out + p.forward_loop)))
      (bytes_from q p.back_loop (p.lead_in + suc (p.lead_out + p.forward_loop)))
  before_lowest =
      lexicographic_join p q p.lead_in (suc (p.lead_out + p.forward_loop)) (p.lead_in + suc (p.lead_out + p.forward_loop))
      p.back_loop (mark p) refl refl
      (lowest_least _ w.before d.before (record { i = _; j = _; edge = other }))
      (λ z. let c = same_end w.before d.before z in conflict_lowest c.0 c.1)

  pub lowest_pair : Lexicographic (bytes_from p 0 (letters p)) (bytes_from q 0 (letters p))
  lowest_pair =
      lexicographic_join p q p.back_loop (p.lead_in + suc (p.lead_out + p.forward_loop)) (letters p) 0 p.back_loop
      (omega arith) (omega arith)
      (lowest_least _ w.back d.back (refl, refl)) (λ _. before_lowest)
