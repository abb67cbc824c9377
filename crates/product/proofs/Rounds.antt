-- One round, pair by pair.
use mathlib.Core.Path.{◌≡◌, refl, sym, ◌∙◌, subst}
use mathlib.Core.Bool.{Bool, true, false}
use mathlib.Core.List.{List, []}
use Prim.Native.Nat.{ℕ, suc, ◌+◌, ◌*◌, ◌%◌, ◌≤◌, ◌<◌}
use native.Mathlib.Numerals.{add-one}
use native.Mathlib.Omega.{arith}
use native.Mathlib.Decide.{dec_lt, ℕ_discrete}
use Rattle.mealy.specs.Setting.{Setting, worded}
use Rattle.mealy.specs.Product.{Direction}
use Rattle.mealy.proofs.Levels.{level_start, level_fall}
use Rattle.coder.specs.Table.{machine_of_coder, Sound}
use Rattle.coder.specs.declared.inner.tables.Coder.{Coder}
use Rattle.coder.proofs.Refusals.{true_false}
use Rattle.product.specs.Depth.{at, endless, Square}
use Rattle.product.specs.Entries.{far, Joins}
use Rattle.product.specs.Rounds.{Seeking, Sought, NoEdge, Above, RightTo, CoderLevel, edge_at, Before, Some, Rounded}
use Rattle.product.specs.declared.inner.Edge.{Edge}
use Rattle.product.proofs.Entries.{far_below, joins_step, step_joins}
use Rattle.product.proofs.Squares.{put, put_same, put_other, put_square}

-- ---- one depth

module _ (P : ℕ → Type 0) (fall : (k : ℕ) → P (suc k) → P k) {k x : ℕ} (r : RightTo P k x) where
  -- a pair that has fallen stays fallen
  pub right_fallen : x < endless → RightTo P (suc k) x
  right_fallen l =
      let h = r.shape l in
      record {
        stands = λ m n s. r.stands m (omega arith) s;
        below = λ m n p. elim (ℕ_discrete m (suc k)) [
          | yes e ↦ absurd (omega (arith, r.below k (omega arith) (fall k (rw e at p))))
          | no e ↦ r.below m (omega arith) p
        ];
        shape = λ s. omega arith;
        high = r.high;
      }

  module _ (low : suc k < endless) where
    -- one that stands at level k + 1 too
    pub right_stands : x ≡ endless → P (suc k) → RightTo P (suc k) x
    right_stands e p = record {
      stands = λ m n s. elim (ℕ_discrete m (suc k)) [ yes f ↦ rw f p | no f ↦ r.stands m (omega arith) s ];
      below = λ m n q. omega arith;
      shape = λ s. absurd (omega arith);
      high = r.high;
    }

    -- and one that does not
    pub right_falls : x ≡ endless → (P (suc k) → ⊥) → RightTo P (suc k) (suc k)
    right_falls e f = record {
      stands = λ m n s. r.stands m (omega arith) (omega arith);
      below = λ m n q. elim (ℕ_discrete m (suc k)) [ yes g ↦ absurd (f (rw g at q)) | no g ↦ omega arith ];
      shape = λ s. omega arith;
      high = omega arith;
    }

module _ (c : Coder) (d : Direction) (starts : ℕ) (sound : Sound c) (k : ℕ) (low : suc k < endless) where
  abbrev S : Setting
  S = worded (machine_of_coder c) starts []

  abbrev L : ℕ → ℕ → ℕ → Type 0
  L = CoderLevel c d starts

  start_below : (m u v : ℕ) → L m u v → (u < c.states) × (v < c.states)
  start_below m u v h = let z = level_start S d m u v h in (z.0.0, z.1.0)

  -- ---- one edge

  -- an edge to a pair of level k puts a pair of level k into level k + 1
  pub edge_level : (u v p q : ℕ) → L k u v → Joins c d u v p q → L k (far d c p) (far d c q) → L (suc k) u v
  edge_level u v p q h j w =
      let z = level_start S d k u v h in
      (z.0, z.1, record { s = far d c p; t = far d c q; i = p % 16; j = q % 16; step = joins_step c sound d u v p q j; within = w })

  -- where no edge stands, the pair is not in level k + 1
  pub none_level : (u v : ℕ) → NoEdge c d (L k) u v → L (suc k) u v → ⊥
  none_level u v none h =
      let n = h.2 in
      let a = start_below (suc k) u v h in
      let b = start_below k n.s n.t n.within in
      let j = step_joins c sound d u v n.i n.j n.s n.t a.0 a.1 b.0 b.1 n.step in
      none j.p j.q j.joins (rw (j.far₁, j.far₂) n.within)

  -- ---- the search by depths and by levels

  module _ {P Q : ℕ → ℕ → Type 0} {u v : ℕ} (f : (s t : ℕ) → s < 16 → t < 16 → Q s t → P s t) where
    far_high : (p q : ℕ) → Joins c d u v p q → (far d c p < 16) × (far d c q < 16)
    far_high p q j =
        let h = sound.states_high in
        (omega (arith, far_below c sound d p j.entry₁), omega (arith, far_below c sound d q j.entry₂))

    pub seeking_map : {x y : ℕ} → Seeking c d P u v x y → Seeking c d Q u v x y
    seeking_map s = record {
      column = s.column;
      on₁ = s.on₁;
      on₂ = s.on₂;
      none_before = record {
        first = λ p q j w. let h = far_high p q j in s.none_before.first p q j (f _ _ h.0 h.1 w);
        second = λ p q j w. let h = far_high p q j in s.none_before.second p q j (f _ _ h.0 h.1 w);
      };
    }

    pub none_map : NoEdge c d P u v → NoEdge c d Q u v
    none_map none p q j w = let h = far_high p q j in none p q j (f _ _ h.0 h.1 w)

    pub sought_map : ((s t : ℕ) → s < 16 → t < 16 → P s t → Q s t) → {e : Edge} → Sought c d P u v e → Sought c d Q u v e
    sought_map g s = record {
      seeking = seeking_map s.seeking;
      first = s.first;
      second = s.second;
      joins = s.joins;
      stands = let h = far_high _ _ s.joins in g _ _ h.0 h.1 s.stands;
    }

  -- the search has come as far with an equal edge
  seeking_same :
      {u v : ℕ} {e e' : Edge} → e' ≡ e → Seeking c d (L k) u v e.x e.y → Seeking c d (L k) u v e'.x e'.y
  seeking_same {u} {v} p = subst (λ (g : Edge). Seeking c d (L k) u v g.x g.y) (sym p)

  -- ---- the round has come to place a, which is 16 u + v at the pair of u and v

  pub record InRound (a : ℕ) (square : List (List ℕ)) (edges : List (List Edge)) (b : Bool) : Type 0 where
    pub shape : Square square
    pub kept : Square edges
    pub done : (u v : ℕ) → u < 16 → v < 16 → 16 * u + v < a → RightTo (λ m. L m u v) (suc k) (at square u v)
    pub left : (u v : ℕ) → u < 16 → v < 16 → a ≤ 16 * u + v → RightTo (λ m. L m u v) k (at square u v)
    pub seeking :
        (u v : ℕ) → u < 16 → v < 16 → at square u v ≡ endless → Seeking c d (L k) u v (edge_at edges u v).x (edge_at edges u v).y
    pub changed : b ≡ true → Some square (suc k)
    pub unchanged : b ≡ false → (u v : ℕ) → u < 16 → v < 16 → 16 * u + v < a → at square u v ≡ suc k → ⊥

  pub round_start : {square : List (List ℕ)} {edges : List (List Edge)} → Before c d starts k square edges → InRound 0 square edges false
  round_start b = record {
    shape = b.shape;
    kept = b.kept;
    done = λ u v l m n. absurd (omega arith);
    left = λ u v l m n. b.right u v l m;
    seeking = b.seeking;
    changed = λ e. absurd (true_false e refl);
    unchanged = λ e u v l m n. absurd (omega arith);
  }

  -- the same place, said otherwise
  pub round_at :
      {a a' : ℕ} {square : List (List ℕ)} {edges : List (List Edge)} {b : Bool} → a ≡ a' → InRound a square edges b →
      InRound a' square edges b
  round_at {a} {a'} {square} {edges} {b} e = subst (λ x. InRound x square edges b) e

  -- what is known of the pair at u and v after it was seen to
  record Seen (u v : ℕ) (square : List (List ℕ)) (edges : List (List Edge)) (b b' : Bool) : Type 0 where
    right : RightTo (λ m. L m u v) (suc k) (at square u v)
    seeking : at square u v ≡ endless → Seeking c d (L k) u v (edge_at edges u v).x (edge_at edges u v).y
    changed : b' ≡ true → Some square (suc k)
    unchanged : b' ≡ false → (b ≡ false) × (at square u v ≡ suc k → ⊥)

  -- one place more; the other places stay
  module _ {u v : ℕ} {square square' : List (List ℕ)} {edges edges' : List (List Edge)} {b b' : Bool}
      (r : InRound (16 * u + v) square edges b) (column : v < 16)
      (shape : Square square') (kept : Square edges')
      (other : (s t : ℕ) → s < 16 → t < 16 → (s ≡ u → t ≡ v → ⊥) → at square' s t ≡ at square s t)
      (edges_other : (s t : ℕ) → (s ≡ u → t ≡ v → ⊥) → edge_at edges' s t ≡ edge_at edges s t)
      (seen : Seen u v square' edges' b b') where
    row : (s t : ℕ) → t < 16 → 16 * s + t ≡ 16 * u + v → (s ≡ u) × (t ≡ v)
    row s t l e = (omega arith, omega arith)

    apart : (s t : ℕ) → (16 * s + t ≡ 16 * u + v → ⊥) → s ≡ u → t ≡ v → ⊥
    apart s t n e f = n (omega arith)

    round_place : InRound (16 * u + (v + 1)) square' edges' b'
    round_place = record {
      shape = shape;
      kept = kept;
      done = λ s t l m n. elim (ℕ_discrete (16 * s + t) (16 * u + v)) [
        | yes e ↦ let z = row s t m e in rw (z.0, z.1) seen.right
        | no e ↦ rw (other s t l m (apart s t e)) (r.done s t l m (omega arith))
      ];
      left = λ s t l m n. rw (other s t l m (λ e f. omega arith)) (r.left s t l m (omega arith));
      seeking = λ s t l m f. elim (ℕ_discrete (16 * s + t) (16 * u + v)) [
        | yes e ↦ let z = row s t m e in rw (z.0, z.1) (seen.seeking (rw (z.0, z.1) at f))
        | no e ↦ seeking_same (edges_other s t (apart s t e)) (r.seeking s t l m (sym (other s t l m (apart s t e)) ∙ f))
      ];
      changed = seen.changed;
      unchanged = λ g s t l m n f. let h = seen.unchanged g in elim (ℕ_discrete (16 * s + t) (16 * u + v)) [
        | yes e ↦ let z = row s t m e in h.1 (rw (z.0, z.1) at f)
        | no e ↦ r.unchanged h.0 s t l m (omega arith) (sym (other s t l m (apart s t e)) ∙ f)
      ];
    }

  -- ---- the pair at u and v: it has fallen before, it stands, or it falls

  module _ {u v : ℕ} {square : List (List ℕ)} {edges : List (List Edge)} {b : Bool} (r : InRound (16 * u + v) square edges b)
      (inside : u < 16) (column : v < 16) where
    abbrev here : ℕ → Type 0
    here m = L m u v

    right_here : RightTo here k (at square u v)
    right_here = r.left u v inside column (omega arith)

    -- standing at level k, by depth and by level set
    pub above_level : (s t : ℕ) → s < 16 → t < 16 → Above square k s t → L k s t
    above_level s t l m n = elim (dec_lt (16 * s + t) (16 * u + v)) [
      | yes e ↦ (r.done s t l m e).stands k (omega arith) n
      | no e ↦ (r.left s t l m (omega arith)).stands k (omega arith) n
    ]

    pub level_above : (s t : ℕ) → s < 16 → t < 16 → L k s t → Above square k s t
    level_above s t l m n = elim (dec_lt (16 * s + t) (16 * u + v)) [
      | yes e ↦ (r.done s t l m e).below k (omega arith) n
      | no e ↦ (r.left s t l m (omega arith)).below k (omega arith) n
    ]

    pub round_fallen : (at square u v ≡ endless → ⊥) → InRound (16 * u + (v + 1)) square edges b
    round_fallen f =
        let h = right_here.high in
        let g = right_here.shape (omega arith) in
        round_place r column r.shape r.kept (λ s t l m e. refl) (λ s t e. refl) (record {
          right = right_fallen here (λ m. level_fall S d m u v) right_here (omega arith);
          seeking = λ e. absurd (f e);
          changed = r.changed;
          unchanged = λ e. (e, λ z. omega arith);
        })

    module _ (stands : at square u v ≡ endless) where
      pub seeking_here : {e : Edge} → e ≡ edge_at edges u v → Seeking c d (Above square k) u v e.x e.y
      seeking_here {e} p =
          subst (λ (g : Edge). Seeking c d (Above square k) u v g.x g.y) (sym p) (seeking_map above_level (r.seeking u v inside column stands))

      level_here : L k u v
      level_here = right_here.stands k (omega arith) (omega arith)

      -- an edge stands: it is kept
      pub round_stands : {e : Edge} → Sought c d (Above square k) u v e → InRound (16 * u + (v + 1)) square (put edges u v e) b
      round_stands {e} found =
          let s = sought_map level_above above_level found in
          round_place r column r.shape (put_square r.kept u v e inside column) (λ s t l m e. refl)
          (put_other r.kept u v e inside column _) (record {
            right =
                right_stands here (λ m. level_fall S d m u v) right_here low stands
                (edge_level u v _ _ level_here s.joins s.stands);
            seeking = λ _. seeking_same (put_same r.kept u v e inside column _) s.seeking;
            changed = r.changed;
            unchanged = λ f. (f, λ z. omega arith);
          })

      -- none does: the pair falls
      pub round_falls : NoEdge c d (Above square k) u v → InRound (16 * u + (v + 1)) (put square u v (k + 1)) edges true
      round_falls none =
          let same : at (put square u v (k + 1)) u v ≡ suc k = put_same r.shape u v (k + 1) inside column 0 ∙ add-one k in
          round_place r column (put_square r.shape u v (k + 1) inside column) r.kept
          (λ s t l m e. put_other r.shape u v (k + 1) inside column 0 s t e)
          (λ s t e. refl) (record {
            right =
                rw same
                (right_falls here (λ m. level_fall S d m u v) right_here low stands
                (none_level u v (none_map level_above none)));
            seeking = λ e. absurd (omega arith);
            changed = λ e. record { u = u; v = v; row = inside; column = column; is = same };
            unchanged = λ e. absurd (true_false refl e);
          })

  -- ---- the end of the round: from the row of N on nothing stands

  pub round_end :
      {a : ℕ} {square : List (List ℕ)} {edges : List (List Edge)} {b : Bool} → InRound a square edges b → a ≡ 16 * c.states →
      Rounded c d starts k square edges b
  round_end {a} {square} {edges} {b} r e = record {
    after = record {
      shape = r.shape;
      kept = r.kept;
      right = λ u v l m. elim (dec_lt (16 * u + v) a) [
        | yes n ↦ r.done u v l m n
        | no n ↦ right_fallen (λ m. L m u v) (λ m. level_fall S d m u v) (r.left u v l m (omega arith)) (past u v l m (omega arith))
      ];
      seeking = r.seeking;
    };
    changed = record {
      yes' = r.changed;
      no' = λ f s. elim (dec_lt (16 * s.u + s.v) a) [
        | yes n ↦ r.unchanged f s.u s.v s.row s.column n s.is
        | no n ↦ absurd (omega (
          arith,
          s.is,
          (r.left s.u s.v s.row s.column (omega arith)).shape (past s.u s.v s.row s.column (omega arith)),
        ))
      ];
    };
  }
    where
      past : (u v : ℕ) → u < 16 → v < 16 → a ≤ 16 * u + v → at square u v < endless
      past u v l m n =
          let h = r.left u v l m n in
          elim (dec_lt (at square u v) endless) [
            | yes g ↦ g
            | no g ↦ absurd (omega (arith, (start_below 0 u v (h.stands 0 (omega arith) (omega arith))).0))
          ]
