-- The starts, lengths and letters of a pair as tables of least costs give them. `found_first` of proofs/Found.antt: they are those of the
-- first pair.
use Rattle.std.specs.Prelude.{ℕ, suc, ◌+◌, ◌*◌, ◌/◌, ◌≤◌, ◌<◌, ◌≡◌, List, get_or}
use Rattle.mealy.specs.Setting.{Setting}
use Rattle.mealy.specs.LoopedPair.{LoopedPair, first, second, letter_at, mark, unlooped, letters}
use Rattle.first_pair.specs.Reach.{Reach, At, ConflictInto}
use Rattle.first_pair.specs.Lowest.{LowestOf, Lowest, bytes_from}
use Rattle.first_pair.specs.Cost.{CostOf, entry, letter_cost, in_cost, out_cost, tail_cost, head_cost, too_long}

-- the letters in all of a pair of states, by its number 16 s + t, from the tables of closed walks and of what follows them; and by s and t
abbrev pub total_of : List ℕ → List ℕ → ℕ → ℕ
total_of loops heads a = (get_or loops a 0 + get_or heads a 0) / letter_cost

abbrev pub total_at : List ℕ → List ℕ → ℕ → ℕ → ℕ
total_at loops heads s t = total_of loops heads (16 * s + t)

-- The starts have fewest letters in all, of those with as many the lowest number 16 s + t; and the lengths are those of their costs.
pub record LengthsBy (S : Setting) (loops heads : List ℕ) (p : LoopedPair) : Type 0 where
  pub start₁ : S.Start p.s
  pub start₂ : S.Start p.t
  pub few : letters p < too_long
  pub back_is : entry loops p.s p.t ≡ letter_cost * p.back_loop
  pub head_is : entry heads p.s p.t ≡ head_cost p.lead_in p.lead_out p.forward_loop
  pub fewest : (s t : ℕ) → S.Start s → S.Start t → letters p ≤ total_at loops heads s t
  pub lowest :
      (s t : ℕ) → S.Start s → S.Start t → total_at loops heads s t ≡ letters p → 16 * p.s + p.t ≤ 16 * s + t

-- The letters of both loops are the lowest that lead back; those between are the lowest by the tables, along the costs of heads up to (u, v)
-- and along those of tails from the differing letter on, up to (x, y).
pub record LettersBy (S : Setting) (tails heads : List ℕ) (p : LoopedPair) (u v x y : ℕ) : Type 0 where
  pub back : Lowest S.M (Reach S.M (At p.s p.t)) p.back_loop p.s p.t (bytes_from p 0 p.back_loop) p.s p.t
  pub before :
      Lowest S.M (CostOf heads in_cost (letter_cost + tail_cost p.lead_out p.forward_loop)) p.lead_in p.s p.t
      (bytes_from p p.back_loop p.lead_in) u v
  pub conflict :
      LowestOf (ConflictInto S (λ a b. entry tails a b ≡ tail_cost p.lead_out p.forward_loop) u v)
      (letter_at p first (mark p)) (letter_at p second (mark p))
  pub after :
      Lowest S.M (CostOf tails out_cost (letter_cost * p.forward_loop)) p.lead_out
      (S.M.next u (letter_at p first (mark p))) (S.M.next v (letter_at p second (mark p))) (bytes_from p (suc (mark p)) p.lead_out) x y
  pub forward : Lowest S.M (Reach S.M (At x y)) p.forward_loop x y (bytes_from p (unlooped p) p.forward_loop) x y
