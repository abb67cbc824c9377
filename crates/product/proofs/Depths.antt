-- From the first round to the last: what the rounds start from, from one round to the next, and the depths at their end.
use mathlib.Core.Path.{◌≡◌}
use mathlib.Core.Bool.{Bool, true}
use mathlib.Core.List.{List, []}
use mathlib.Core.Logic.Dec
use Prim.Native.Nat.{ℕ, suc, ◌+◌, ◌*◌, ◌/◌, ◌%◌, ◌^◌, ◌≤◌, ◌<◌}
use native.Mathlib.Nat.{mul-le-mul}
use native.Mathlib.Numerals.{add-one}
use native.Mathlib.Omega.{arith}
use native.Mathlib.Decide.{dec_lt, ℕ_discrete}
use lib.ListN.{get_or, get_or-eq_default}
use Rattle.mealy.specs.Setting.{Setting, Bounded, worded}
use Rattle.mealy.specs.Product.{Direction, back, forward, Settled, pairs}
use Rattle.mealy.proofs.Levels.{level_start, level_fall, every_level}
use Rattle.mealy.proofs.Settling.{settled_by}
use Rattle.coder.specs.Limits.{max_states, max_side}
use Rattle.coder.specs.Table.{machine_of_coder, Sound}
use Rattle.coder.specs.declared.inner.tables.Coder.{Coder}
use Rattle.coder.proofs.Fill.{length_table}
use Rattle.chains.specs.Chain.{Keys, Chained}
use Rattle.chains.specs.declared.inner.Chain.{Chain}
use Rattle.chains.proofs.Chains.{last_above}
use Rattle.chains.proofs.Entries.{has_key_lem}
use Rattle.product.specs.Depth.{at, endless, Depth, Depths}
use Rattle.product.specs.Entries.{sources, near_ends, far_ends, ArraysOf}
use Rattle.product.specs.declared.inner.Edge.{Edge}
use Rattle.product.specs.Rounds.{Seeking, RightTo, StartIn, CoderLevel, edge_at, Before, After, Some, Rounded, RoundDone, Started, FirstEdges}
use Rattle.product.proofs.Entries.{source_at, entry_below}
use Rattle.coder.proofs.Tables.{next_high}
use Rattle.product.proofs.Seeking.{chain_last, last_is}
use Rattle.product.proofs.Rounds.{seeking_map}

pub pairs_high : (n : ℕ) → n ≤ max_states → pairs n ≤ max_side
pairs_high n l = let k : n + 1 ≤ 17 = omega arith in let h : n * (n + 1) ≤ 16 * 17 = mul-le-mul l k in omega arith

-- ---- the keys of a direction

source_high : (p : ℕ) → get_or sources p 0 < 64
source_high p = elim (dec_lt p 256) [
  | yes l ↦ rw (source_at p l) (omega arith)
  | no l ↦ rw (get_or-eq_default sources 0 {n = p} (omega (arith, length_table 256 (λ p. p / 16)))) (omega arith)
]

pub near_keys : (c : Coder) → Sound c → (d : Direction) → Keys (near_ends d c) c.states c.inputs
near_keys c s back = record {
  states = s.states_high;
  inputs = s.inputs_high;
  below = λ p. let h = s.states_high in omega (arith, next_high c s p);
}
near_keys c s forward = record { states = s.states_high; inputs = s.inputs_high; below = source_high }

pub arrays_of :
    (c : Coder) (d : Direction) → Sound c → {chain : Chain} {near' far' : List ℕ} → near' ≡ near_ends d c → far' ≡ far_ends d c →
    Chained near' c.states c.inputs chain → ArraysOf c d chain far'
arrays_of c d s n f h = record { sound = s; far_is = f; chained = rw n at h }

-- a round on the arrays of the direction w
pub round_along :
    {c : Coder} {starts k : ℕ} {chain : Chain} {near' far' : List ℕ} {square square' : List (List ℕ)} {edges edges' : List (List Edge)}
    {b : Bool} → Sound c → Chained near' c.states c.inputs chain → RoundDone c chain far' k square edges square' edges' b →
    ((w : Direction) → near' ≡ near_ends w c → far' ≡ far_ends w c → Before c w starts k square edges) →
    (w : Direction) → near' ≡ near_ends w c → far' ≡ far_ends w c → Rounded c w starts k square' edges' b
round_along {c} s h r before w n f = r w _ (arrays_of c w s n f h) (before w n f)

module _ (c : Coder) (d : Direction) (starts : ℕ) (sound : Sound c) where
  abbrev S : Setting
  S = worded (machine_of_coder c) starts []

  abbrev L : ℕ → ℕ → ℕ → Type 0
  L = CoderLevel c d starts

  pub start_decided : (s : ℕ) → Dec (S.Start s)
  start_decided s = Dec.and (dec_lt s c.states) (ℕ_discrete (starts / 2 ^ s % 2) 1)

  pub start_bounded : Bounded S
  start_bounded s p = p.0

  -- ---- before the first round

  module _ {square : List (List ℕ)} (h : Started c.states starts square) where
    right_start : (u v : ℕ) → u < 16 → v < 16 → RightTo (λ m. L m u v) 0 (at square u v)
    right_start u v l m = elim (Dec.and (start_decided u) (start_decided v)) [
      | yes p ↦ (let x = h.start u v l m p in record {
        stands = λ k n s. let z : k ≡ 0 = omega arith in rw z p;
        below = λ k n q. omega arith;
        shape = λ s. absurd (omega arith);
        high = omega arith;
      })
      | no p ↦ (let x = h.other u v l m p in record {
        stands = λ k n s. absurd (omega arith);
        below = λ k n q. let z : k ≡ 0 = omega arith in let w : L 0 u v = rw z at q in absurd (p w);
        shape = λ s. omega arith;
        high = omega arith;
      })
    ]

    module _ {chain : Chain} {far' : List ℕ} {edges : List (List Edge)} (arrays : ArraysOf c d chain far')
        (f : FirstEdges chain.last c.states edges) where
      seeking_start : (u v : ℕ) → u < c.states → v < 16 → Seeking c d (L 0) u v (edge_at edges u v).x (edge_at edges u v).y
      seeking_start u v l m =
          let n = sound.states_high in
          rw (f.first u v l m, last_is c d sound arrays u (omega arith), last_is c d sound arrays v (omega arith))
          record {
            column = m;
            on₁ = chain_last c d sound u 256 (omega arith);
            on₂ = chain_last c d sound v 256 (omega arith);
            none_before = record {
              first = λ p q j s. last_above _ p 256 (has_key_lem _ _ _ u p j.entry₁ j.near₁) (entry_below c sound p j.entry₁);
              second = λ p q j s e. last_above _ q 256 (has_key_lem _ _ _ v q j.entry₂ j.near₂) (entry_below c sound q j.entry₂);
            };
          }

      pub before_start : Before c d starts 0 square edges
      before_start = record {
        shape = h.shape;
        kept = f.kept;
        right = right_start;
        seeking = λ u v l m e. let q : L 0 u v = (right_start u v l m).stands 0 (omega arith) (omega arith) in seeking_start u v q.0.0 m;
      }

  -- ---- from one round to the next

  pub before_next :
      {k : ℕ} {square : List (List ℕ)} {edges : List (List Edge)} → suc k < endless → After c d starts k square edges →
      Before c d starts (k + 1) square edges
  before_next {k} low r =
      rw (add-one k)
      record {
        shape = r.shape;
        kept = r.kept;
        right = r.right;
        seeking = λ u v l m e. seeking_map c d starts sound k low (λ s t _ _. level_fall S d k s t) (r.seeking u v l m e);
      }

  -- a round that changed something was not past N (N + 1) / 2
  pub changed_low :
      {k : ℕ} {square : List (List ℕ)} {edges : List (List Edge)} {b : Bool} → Rounded c d starts k square edges b → b ≡ true →
      (k < pairs c.states) × (pairs c.states ≤ max_side)
  changed_low {k} {square} r e =
      let s = r.changed.yes' e in
      let h = r.after.right s.u s.v s.row s.column in
      let i = s.is in (
        elim (dec_lt k (pairs c.states)) [
          | yes l ↦ l
          | no l ↦ absurd (omega (
            arith,
            h.below (suc k) (omega arith)
                (settled_by S start_decided start_bounded d k (omega arith) s.u s.v (h.stands k (omega arith) (omega arith))),
          ))
        ],
        pairs_high c.states sound.states_high,
      )

  -- ---- the last round

  module _ {k : ℕ} {square : List (List ℕ)} {edges : List (List Edge)} (low : k ≤ pairs c.states) (r : After c d starts k square edges)
      (none : Some square (suc k) → ⊥) where
    k_high : k ≤ max_side
    k_high = omega (arith, pairs_high c.states sound.states_high)

    -- a depth is at most k, or endless
    value : (u v : ℕ) → u < 16 → v < 16 → at square u v < endless → at square u v ≤ k
    value u v l m n = elim (ℕ_discrete (at square u v) (suc k)) [
      | yes e ↦ absurd (none (record { u = u; v = v; row = l; column = m; is = e }))
      | no e ↦ omega (arith, (r.right u v l m).shape n)
    ]

    above : (u v : ℕ) → u < 16 → v < 16 → L k u v → at square u v ≡ endless
    above u v l m h =
        let x = r.right u v l m in
        let y = x.below k (omega arith) h in
        elim (dec_lt (at square u v) endless) [ yes n ↦ absurd (omega (arith, value u v l m n)) | no n ↦ omega (arith, x.high) ]

    level_high : (m u v : ℕ) → L m u v → (u < 16) × (v < 16)
    level_high m u v h = let z = level_start S d m u v h in let n = sound.states_high in (omega (arith, z.0.0), omega (arith, z.1.0))

    settled : Settled S d k
    settled u v h =
        let b = level_high k u v h in
        (r.right u v b.0 b.1).stands (suc k) (omega arith) (omega (arith, above u v b.0 b.1 h, k_high))

    depth : (u v : ℕ) → u < 16 → v < 16 → Depth (λ m. L m u v) (at square u v)
    depth u v l m =
        let x = r.right u v l m in
        let ever : at square u v ≡ endless → (n : ℕ) → L n u v = λ e.
        every_level S d k settled u v (x.stands k (omega arith) (omega (arith, k_high))) in
        record {
          stands = λ n s. elim (dec_lt (at square u v) endless) [
            | yes f ↦ x.stands n (omega (arith, value u v l m f)) s
            | no f ↦ ever (omega (arith, x.high)) n
          ];
          falls = λ f h. omega (arith, x.below (at square u v) (omega (arith, value u v l m f)) h);
          always = ever;
          high = x.high;
        }

    pub depths_found : Depths (machine_of_coder c) (StartIn c.states starts) d square
    depths_found = record { shape = r.shape; depth = depth; finite = λ u v l m n. omega (arith, value u v l m n) }
