-- From the costs of closed walks and of what follows them to the starts and lengths of the first pair.
use mathlib.Core.Path.{◌≡◌, refl, sym, ◌∙◌}
use mathlib.Core.List.{List}
use Prim.Native.Nat.{ℕ, ◌+◌, ◌*◌, ◌-◌, ◌/◌, ◌%◌, ◌≤◌, ◌<◌}
use native.Mathlib.Omega.{arith}
use lib.ListN.{get_or}
use Rattle.mealy.specs.Setting.{Setting}
use Rattle.mealy.specs.LoopedPair as mealy
use Rattle.coder.specs.declared.inner.tables.Coder.{Coder}
use Rattle.values.specs.Pair.{pair_of, looped_pair}
use Rattle.first_pair.specs.Reach.{Pairs}
use Rattle.first_pair.specs.Cost.{too_long, LeastCosts, entry, letter_cost, no_cost, head_cost}
use Rattle.first_pair.specs.Found.{LengthsBy}
use Rattle.first_pair.proofs.ByLengths.{valid_cycle, valid_reach}
use Rattle.first_pair.proofs.LengthCosts.{head_of, head_lengths}
use Rattle.costs.specs.Starts.{total_of, StartPair, FirstStart}
use Rattle.loops.specs.Parts.{setting_in, LengthsFrom, LengthsFound}

-- ---- the lengths in two costs

-- the costs of a back loop and of what follows it are those of some lengths, few enough
pub record CostsOf (loop head : ℕ) : Type 0 where
  pub bl : ℕ
  pub li : ℕ
  pub lo : ℕ
  pub fl : ℕ
  pub back_is : letter_cost * bl ≡ loop
  pub head_is : head_cost li lo fl ≡ head
  pub few : bl + li + 1 + lo + fl ≤ 513

module _ {loop head : ℕ} (w : CostsOf loop head) where
  open w use {bl, li, lo, fl, back_is, head_is, few}

  pub read_back : loop / letter_cost ≡ bl
  read_back = omega (arith, back_is)

  rest_is : head ≡ letter_cost * (li + 1 + lo + fl) + (1024 * li + lo)
  rest_is = omega (arith, head_is)

  pub read_all : head / letter_cost ≡ li + 1 + lo + fl
  read_all = omega (arith, rest_is, few)

  rest : head % letter_cost ≡ 1024 * li + lo
  rest = omega (arith, rest_is, few)

  pub read_in : head % letter_cost / 1024 ≡ li
  read_in = let r = rest in omega (arith, few)

  pub read_out : head % 1024 ≡ lo
  read_out = omega (arith, rest_is, few)

  -- what the number of letters of the forward loop is read off by
  pub read_forward : head / letter_cost - 1 - head % letter_cost / 1024 - head % 1024 ≡ fl
  read_forward = omega (arith, read_all, read_in, read_out)

  total_is : (loop + head) / letter_cost ≡ bl + li + 1 + lo + fl
  total_is = omega (arith, rest_is, back_is, few)

-- ---- the costs of the pair that is chosen

module _ {c : Coder} {starts : ℕ} {conflicts loops heads : List ℕ} (f : LengthsFrom c starts conflicts loops heads) where
  abbrev S : Setting
  S = setting_in c starts conflicts

  abbrev q : mealy.LoopedPair
  q = f.some.pair

  -- two start states as one number
  start_pair : (s t : ℕ) → S.Start s → S.Start t → StartPair c.states starts (16 * s + t)
  start_pair s t a b =
      let h = f.sound.states_high in
      let l = b.0 in
      let d : (16 * s + t) / 16 ≡ s = omega arith in
      let r : (16 * s + t) % 16 ≡ t = omega arith in
      (rw d a, rw r b)

  -- the costs of the starts of a valid pair are at most those of its lengths
  back_most : entry loops q.s q.t ≤ letter_cost * q.back_loop
  back_most =
      let v = f.some.valid in
      (f.loops_are.at q.s q.t (v.start mealy.first).0 (v.start mealy.second).0).least (letter_cost * q.back_loop)
      (record { k = q.back_loop; all = refl; cycle = valid_cycle S q v })

  head_most : entry heads q.s q.t ≤ head_cost q.lead_in q.lead_out q.forward_loop
  head_most =
      let v = f.some.valid in
      (f.heads_are.at q.s q.t (v.start mealy.first).0 (v.start mealy.second).0).least
      (head_cost q.lead_in q.lead_out q.forward_loop)
      (head_of S q.lead_in q.lead_out q.forward_loop q.s q.t (valid_reach S q v))

  total_most : total_of loops heads (16 * q.s + q.t) ≤ 513
  total_most = let a = back_most in let b = head_most in let n = f.some.few in omega arith

  -- a is the first pair of start states with the fewest letters, where one has few enough
  module _ {a : ℕ} (first : (b : ℕ) → StartPair c.states starts b → total_of loops heads b < too_long →
      FirstStart c.states starts loops heads a) where
    is_first : FirstStart c.states starts loops heads a
    is_first =
        let v = f.some.valid in
        let l = total_most in
        first (16 * q.s + q.t) (start_pair q.s q.t (v.start mealy.first) (v.start mealy.second)) (omega arith)

    pub pair_below : a < 256
    pair_below = let b = is_first.start.0.0 in let h = f.sound.states_high in omega arith

    total_few : total_of loops heads a ≤ 513
    total_few =
        let v = f.some.valid in
        omega (
          arith,
          total_most,
          is_first.fewest (16 * q.s + q.t) (start_pair q.s q.t (v.start mealy.first) (v.start mealy.second)),
        )

    -- the pair's costs, below `endless`, are costs of walks
    place : 16 * (a / 16) + a % 16 ≡ a
    place = omega arith

    cost_at : (A : ℕ → Pairs) (t : List ℕ) → LeastCosts c.states A t → get_or t a 0 < no_cost → A (get_or t a 0) (a / 16) (a % 16)
    cost_at A t w l =
        let b = is_first.start in
        rw place at ((w.at (a / 16) (a % 16) b.0.0 b.1.0).holds (rw place l))

    pub costs_of : CostsOf (get_or loops a 0) (get_or heads a 0)
    costs_of =
        let l = cost_at _ loops f.loops_are (omega (arith, total_few)) in
        let h = head_lengths S (get_or heads a 0) (a / 16) (a % 16) (cost_at _ heads f.heads_are (omega (arith, total_few))) in
        let e = l.all in
        let d = h.all in
        record {
          bl = l.k;
          li = h.li;
          lo = h.lo;
          fl = h.fl;
          back_is = e;
          head_is = d;
          few = omega (arith, total_few);
        }

    lengths_by :
        (bytes : List ℕ) →
        LengthsBy S loops heads (pair_of (looped_pair (a / 16) (a % 16) costs_of.bl costs_of.li costs_of.lo costs_of.fl) bytes)
    lengths_by bytes =
        let w = is_first.start in
        let e = total_is costs_of in
        record {
          start₁ = w.0;
          start₂ = w.1;
          few = omega (arith, costs_of.few);
          back_is = rw place (sym costs_of.back_is);
          head_is = rw place (sym costs_of.head_is);
          fewest = λ s t h k. omega (arith, is_first.fewest (16 * s + t) (start_pair s t h k));
          lowest = λ s t h k z. omega (arith, is_first.first (16 * s + t) (start_pair s t h k) (z ∙ sym e));
        }

    -- starts and lengths as they are read off
    pub lengths_found :
        LengthsFound c starts conflicts loops heads
        (looped_pair (a / 16) (a % 16) (get_or loops a 0 / letter_cost) (get_or heads a 0 % letter_cost / 1024) (get_or heads a 0 % 1024)
        (get_or heads a 0 / letter_cost - 1 - get_or heads a 0 % letter_cost / 1024 - get_or heads a 0 % 1024))
    lengths_found =
        rw (read_forward costs_of, read_back costs_of, read_in costs_of, read_out costs_of)
        (record { lengths = lengths_by; few = costs_of.few })
