-- The letters of a walk along the costs, written one after the other: before the first, with one more, with the last.
use mathlib.Core.Path.{◌≡◌, refl, sym, ◌∙◌}
use mathlib.Core.List.{List}
use Prim.Native.Nat.{ℕ, suc, ◌+◌, ◌*◌, ◌/◌, ◌%◌, ◌≤◌, ◌<◌}
use native.Mathlib.Omega.{arith}
use lib.ListN.{length, get_or, set, length-set}
use lib.Seq.{get_or-set_same, get_or-set_other}
use Rattle.coder.specs.Table.{table_at, machine_of_coder}
use Rattle.coder.specs.declared.inner.tables.Coder.{Coder}
use Rattle.coder.proofs.Tables.{next_high}
use Rattle.first_pair.specs.Lowest.{LowestOf, bytes_at}
use Rattle.first_pair.proofs.Writing.{LowestSoFar, so_far_none, so_far_write, so_far_all}
use Rattle.letters.specs.Walk.{EdgeTo, LowestAsked, AfterLetters, with_letters, CoderArrays, CostOf, StatePair, SomeInto, WriteFrom, StaysOutside, Wrote}
use Rattle.letters.proofs.Edges.{AllLetters, table_is, some_edge, lowest_into}

-- ---- the bytes

with_other :
    (bytes : List ℕ) (at i j p : ℕ) → (p ≡ 2 * at → ⊥) → (p ≡ 2 * at + 1 → ⊥) → get_or (with_letters bytes at i j) p 0 ≡ get_or bytes p 0
with_other bytes at i j p n m =
    get_or-set_other (set bytes (2 * at) i) (2 * at + 1) p j 0 m ∙ get_or-set_other bytes (2 * at) p i 0 n

module _ (bytes : List ℕ) (at i j : ℕ) (room : 2 * at + 1 < length bytes) where
  pub with_first : (p : ℕ) → p ≡ 2 * at → get_or (with_letters bytes at i j) p 0 ≡ i
  with_first p e =
      get_or-set_other (set bytes (2 * at) i) (2 * at + 1) p j 0 (λ q. omega arith) ∙ rw e (get_or-set_same bytes (2 * at) i 0 (omega arith))

  pub with_second : get_or (with_letters bytes at i j) (2 * at + 1) 0 ≡ j
  with_second = get_or-set_same (set bytes (2 * at) i) (2 * at + 1) j 0 (rw (length-set bytes (2 * at) i) room)

pub kept_none : {place : ℕ} {bytes : List ℕ} → StaysOutside place 0 bytes bytes
kept_none = record { size = refl; earlier = λ p l. refl; later = λ p l. refl }

pub kept_more :
    {place k : ℕ} {before bytes : List ℕ} (i j : ℕ) → StaysOutside place k before bytes →
    StaysOutside place (k + 1) before (with_letters bytes (place + k) i j)
kept_more {place} {k} {before} {bytes} i j w =
    let at = place + k in
    record {
      size = length-set (set bytes (2 * at) i) (2 * at + 1) j ∙ length-set bytes (2 * at) i ∙ w.size;
      earlier = λ p l. with_other bytes at i j p (λ q. omega arith) (λ q. omega arith) ∙ w.earlier p l;
      later = λ p l. with_other bytes at i j p (λ q. omega arith) (λ q. omega arith) ∙ w.later p (omega arith);
    }

-- ---- the walk

-- k letters are written, and `rest` are to come. They lead from `from` to the pair a, from which the walk goes on.
pub record WalkSoFar (c : Coder) (t : List ℕ) (step base from n place k rest a : ℕ) (bytes : List ℕ) : Type 0 where
  pub so_far : LowestSoFar (machine_of_coder c) (CostOf t step base) n (from / 16) (from % 16) (bytes_at bytes place k) rest (a / 16) (a % 16)
  pub pair : StatePair c a
  pub last : rest ≡ 0 → CostOf t step base 0 (a / 16) (a % 16)
  pub onward : (m : ℕ) → rest ≡ suc m → SomeInto c (CostOf t step base m) (a / 16) (a % 16)

pub walked_none :
    {c : Coder} {t : List ℕ} {step base from n place : ℕ} {bytes : List ℕ} (rest : ℕ) → rest ≡ n → WriteFrom c t step base from n →
    WalkSoFar c t step base from n place 0 rest from bytes
walked_none rest e w = rw e (record { so_far = so_far_none; pair = w.pair; last = w.none; onward = w.first })

-- the pair to which letters lead, as the machine says
pub after_pair :
    {c : Coder} {next output : List ℕ} {inputs : ℕ} → CoderArrays c next output inputs → (a x r : ℕ) → x / 16 < 16 → AfterLetters next a x r →
    (r / 16 ≡ table_at c.next (a / 16) (x / 16)) × (r % 16 ≡ table_at c.next (a % 16) (x % 16))
after_pair {c} arrays a x r l e =
    let s = arrays.sound in
    let u = table_is arrays.next_is (a / 16) (x / 16) l in
    let v = table_is arrays.next_is (a % 16) (x % 16) (omega arith) in
    let low : table_at c.next (a % 16) (x % 16) < 16 = omega (arith, s.next_state (a % 16) (x % 16), s.states_high) in
    (omega (arith, e), omega (arith, e))

module _ {c : Coder} {next output : List ℕ} {inputs : ℕ} (arrays : CoderArrays c next output inputs) (all : List ℕ) (allowed : AllLetters all)
    {t : List ℕ} {step base from n place k rest a : ℕ} {bytes : List ℕ} (w : WalkSoFar c t step base from n place k rest a bytes) (m : ℕ)
    (e : rest ≡ suc m) where
  -- what finding the next letters asks
  pub walked_asks : LowestAsked next output inputs all t a (step * m + base)
  walked_asks =
      let s = arrays.sound in
      record {
        pair = omega (arith, w.pair.0, s.states_high);
        inputs_high = omega (arith, arrays.inputs_is, s.inputs_high);
        next_high = λ p. rw arrays.next_is (omega (arith, next_high c s p, s.states_high));
        some = some_edge arrays all allowed t step base m (a / 16) (a % 16) (w.onward m e);
      }

  -- with them it goes on
  pub walked_more :
      {r : ℕ} (x : ℕ) → 2 * (place + k) + 1 < length bytes → rest ≤ n → WriteFrom c t step base from n →
      LowestOf (EdgeTo next output inputs all t (a / 16) (a % 16) (step * m + base)) (x / 16) (x % 16) → AfterLetters next a x r →
      WalkSoFar c t step base from n place (k + 1) m r (with_letters bytes (place + k) (x / 16) (x % 16))
  walked_more {r} x room few walk o f =
      let s = arrays.sound in
      let at = place + k in
      let i = x / 16 in
      let j = x % 16 in
      let low = lowest_into arrays all allowed t step base m (a / 16) (a % 16) o in
      let cost = low.holds.within in
      let g = after_pair arrays a x r (omega (arith, o.holds.below₁, arrays.inputs_is, s.inputs_high)) f in
      let u = s.next_state (a / 16) i in
      let v = s.next_state (a % 16) j in
      record {
        so_far =
            rw (g.0, g.1)
            (so_far_write bytes (with_letters bytes at i j) place k (k + 1) at m (a / 16) (a % 16) i j refl refl
            (λ p l h. sym (with_other bytes at i j p (λ q. omega arith) (λ q. omega arith)))
            (with_first bytes at i j room (2 * at + 0) (omega arith)) (with_second bytes at i j room) (rw e at w.so_far) low);
        pair = (rw g.0 u, rw g.1 v);
        last = λ z. rw (g.0, g.1) (rw z at cost);
        onward = λ k' z. rw (g.0, g.1) (walk.on k' _ _ u v (omega arith) (rw z at cost));
      }

-- with the last it is done
pub walked_all :
    {c : Coder} {t : List ℕ} {step base from n place k rest a : ℕ} {before after : List ℕ} → c.states ≤ 16 → k ≡ n → rest ≡ 0 →
    WalkSoFar c t step base from n place k rest a after → StaysOutside place k before after → Wrote c t step base from n place before after a
walked_all high e z w kept =
    let q = w.pair in
    record {
      lowest = rw e at (so_far_all (rw z at w.so_far) (w.last z));
      pair = q;
      inside = omega arith;
      kept = rw e at kept;
    }
