-- The pair with the least starts and lengths and with the lowest letters is the first.
use mathlib.Core.Path.{◌≡◌, refl}
use mathlib.Core.List.{List, [], ◌∷◌}
use Prim.Native.Nat.{ℕ, ◌*◌, ◌≤◌, ◌<◌}
use lib.ListN.{length, take}
use Rattle.mealy.specs.Setting.{Setting}
use Rattle.mealy.specs.LoopedPair.{LoopedPair, letters, Valid}
use Rattle.mealy.specs.First.{Lexicographic, First}
use Rattle.mealy.proofs.FirstPairs.{lexicographic_append}
use Rattle.first_pair.specs.Reach.{Reach, Cycle, SomeConflictInto}
use Rattle.first_pair.specs.Lowest.{LowestPair}
use Rattle.first_pair.proofs.Reaching.{leads_reach}
use Rattle.first_pair.proofs.Parts.{bytes_taken, PartsOf, parts_as, parts_valid, valid_parts}
use Rattle.first_pair.proofs.LowestPairs.{leads_cycle, lowest_parts, lowest_pair}

-- what pairs are compared by before the bytes of their letters, and these bytes
abbrev pub lengths : LoopedPair → List ℕ
lengths p = letters p ∷ p.s ∷ p.t ∷ p.back_loop ∷ p.lead_in ∷ p.lead_out ∷ p.forward_loop ∷ []

abbrev bytes_of : LoopedPair → List ℕ
bytes_of p = take (2 * letters p) p.bytes

-- ---- the walks of a valid pair, by their numbers of letters

module _ (S : Setting) (q : LoopedPair) (w : Valid S q) where
  open S use {M}

  d : PartsOf S q
  d = valid_parts S q w

  pub valid_cycle : Cycle M q.back_loop q.s q.t
  valid_cycle = leads_cycle w.back_letter d.back

  pub valid_reach : Reach M (SomeConflictInto S (Reach M (Cycle M q.forward_loop) q.lead_out)) q.lead_in q.s q.t
  valid_reach =
      leads_reach _ d.before
      (record {
        i = _;
        j = _;
        edge = record {
          conflict = d.conflict;
          into = record { edge = d.edge; within = leads_reach _ d.after (leads_cycle w.forward_letter d.forward) };
        };
      })

-- ---- the first pair

pub first_pair :
    (S : Setting) (p : LoopedPair) (u v x y : ℕ) → 2 * letters p ≤ length p.bytes → S.Start p.s → S.Start p.t →
    0 < p.back_loop → 0 < p.forward_loop → ((q : LoopedPair) → Valid S q → Lexicographic (lengths p) (lengths q)) →
    LowestPair S p u v x y → First S p
first_pair S p u v x y held a b m n least w = record {
  valid = parts_valid S p held a b m n (lowest_parts S p u v x y w);
  first = λ q c. lexicographic_append (lengths p) (lengths q) (bytes_of p) (bytes_of q) refl (least q c) (bytes q c);
}
  where
    bytes : (q : LoopedPair) → Valid S q → lengths p ≡ lengths q → Lexicographic (bytes_of p) (bytes_of q)
    bytes q c e =
        let e₀ : letters p ≡ letters q = cc in
        let e₁ : p.s ≡ q.s = cc in
        let e₂ : p.t ≡ q.t = cc in
        let e₃ : p.back_loop ≡ q.back_loop = cc in
        let e₄ : p.lead_in ≡ q.lead_in = cc in
        let e₅ : p.lead_out ≡ q.lead_out = cc in
        let e₆ : p.forward_loop ≡ q.forward_loop = cc in
        rw (bytes_taken p held, bytes_taken q c.held, ← e₀)
        (lowest_pair S p u v x y w q (parts_as e₁ e₂ e₃ e₄ e₅ e₆ (valid_parts S q c)) n)
