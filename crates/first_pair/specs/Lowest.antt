-- The lowest letters that lead into a set of pairs, letter by letter.
use Rattle.std.specs.Prelude.{ℕ, zero, suc, ◌+◌, ◌*◌, ◌≤◌, ◌≡◌, List, [], ◌∷◌, get_or}
use Rattle.mealy.specs.Machine.{Machine}
use Rattle.mealy.specs.Setting.{Setting}
use Rattle.mealy.specs.Product.{Edge}
use Rattle.mealy.specs.LoopedPair.{LoopedPair, first, second, letter_at, mark, unlooped}
use Rattle.first_pair.specs.Reach.{Pairs, Reach, At, Cycle, Into, ConflictInto, SomeConflictInto}

-- the k letters in the bytes, two bytes each, lead from (u, v) to (x, y)
pub data BytesLead (M : Machine) : ℕ → ℕ → ℕ → List ℕ → ℕ → ℕ → Type 0 where
  none : {u v : ℕ} → BytesLead M zero u v [] u v
  letter :
      {k u v i j x y : ℕ} {bytes : List ℕ} → Edge M u v i j (M.next u i) (M.next v j) →
      BytesLead M k (M.next u i) (M.next v j) bytes x y → BytesLead M (suc k) u v (i ∷ j ∷ bytes) x y

-- of the pairs of letters in A, the lowest, comparing i, then j
pub record LowestOf (A : ℕ → ℕ → Type 0) (i j : ℕ) : Type 0 where
  pub holds : A i j
  pub lowest : (i' j' : ℕ) → A i' j' → (i ≤ i') × (i ≡ i' → j ≤ j')

-- The letters in the bytes lead from (u, v) to (x, y), and each is the lowest whose edge leads into L k, where k is the number
-- of letters still to come.
pub data Lowest (M : Machine) (L : ℕ → Pairs) : ℕ → ℕ → ℕ → List ℕ → ℕ → ℕ → Type 0 where
  there : {u v : ℕ} → L 0 u v → Lowest M L zero u v [] u v
  lowest :
      {k u v i j x y : ℕ} {bytes : List ℕ} → LowestOf (Into M (L k) u v) i j → Lowest M L k (M.next u i) (M.next v j) bytes x y →
      Lowest M L (suc k) u v (i ∷ j ∷ bytes) x y

-- of a buffer, the bytes of n letters from a place on
abbrev pub bytes_at : List ℕ → ℕ → ℕ → List ℕ
bytes_at bytes place zero = []
bytes_at bytes place (suc n) = get_or bytes (2 * place + 0) 0 ∷ get_or bytes (2 * place + 1) 0 ∷ bytes_at bytes (suc place) n

abbrev pub bytes_from : LoopedPair → ℕ → ℕ → List ℕ
bytes_from p = bytes_at p.bytes

-- With its starts and lengths, each of the five parts of the pair has the lowest letters: the back loop of those that lead back to (s, t);
-- the lead-in of those after which the rest can follow; the differing letter; the lead-out of those that lead to a closed walk with the
-- forward loop's number of letters; the forward loop. (u, v) is where the lead-in ends, and (x, y) where the lead-out does.
pub record LowestPair (S : Setting) (p : LoopedPair) (u v x y : ℕ) : Type 0 where
  pub back : Lowest S.M (Reach S.M (At p.s p.t)) p.back_loop p.s p.t (bytes_from p 0 p.back_loop) p.s p.t
  pub before :
      Lowest S.M (Reach S.M (SomeConflictInto S (Reach S.M (Cycle S.M p.forward_loop) p.lead_out))) p.lead_in p.s p.t
      (bytes_from p p.back_loop p.lead_in) u v
  pub conflict :
      LowestOf (ConflictInto S (Reach S.M (Cycle S.M p.forward_loop) p.lead_out) u v)
      (letter_at p first (mark p)) (letter_at p second (mark p))
  pub after :
      Lowest S.M (Reach S.M (Cycle S.M p.forward_loop)) p.lead_out
      (S.M.next u (letter_at p first (mark p))) (S.M.next v (letter_at p second (mark p))) (bytes_from p (suc (mark p)) p.lead_out) x y
  pub forward : Lowest S.M (Reach S.M (At x y)) p.forward_loop x y (bytes_from p (unlooped p) p.forward_loop) x y
