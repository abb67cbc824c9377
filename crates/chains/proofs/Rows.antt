-- The chains laid out as rows, one entry at a time.
use mathlib.Core.Path.{◌≡◌, refl, sym, ap, ◌∙◌}
use mathlib.Core.Bool.{Bool, true}
use mathlib.Core.List.{List}
use Prim.Native.Nat.{ℕ, zero, suc, ◌+◌, ◌-◌, ◌*◌, ◌≤◌, ◌<◌}
use native.Mathlib.Omega.{arith}
use native.Mathlib.Decide.{ℕ_discrete, dec_lt}
use lib.ListN.{length, get_or, set, replicate, length-set}
use lib.Seq.{get_or-set_same, get_or-set_other}
use borrow.Author.Tests.{lt-ltb, le-ltb}
use Rattle.chains.specs.Chain.{has_key, last_below, Chained}
use Rattle.chains.specs.Rows.{ahead, Row, Rowed}
use Rattle.chains.specs.declared.inner.Chain.{Chain}
use Rattle.chains.specs.declared.inner.Rows.{Rows}
use Rattle.chains.proofs.Chains.{last_bound, last_passes}
use Rattle.chains.proofs.Entries.{key_entry}

-- how many places below m have a turn from t on: 1 - (t - x) is 1 where t ≤ x, and otherwise 0
unfoldable pub left : (ℕ → ℕ) → ℕ → ℕ → ℕ
left turn t zero = 0
left turn t (suc m) = (1 - (t - turn m)) + left turn t m

module _ (turn : ℕ → ℕ) (t : ℕ) where
  left_high : (m : ℕ) → left turn t m ≤ m
  unfolding left
  left_high zero = omega arith
  left_high (suc m) = omega (arith, left_high m)

  module _ (u : ℕ) (l : t ≤ u) where
    left_later : (m : ℕ) → left turn u m ≤ left turn t m
    unfolding left
    left_later zero = omega arith
    left_later (suc m) = omega (arith, left_later m)

    -- a turn is taken
    left_less : (p m : ℕ) → p < m → t ≤ turn p → turn p < u → left turn u m < left turn t m
    unfolding left
    left_less p zero h a b = absurd (omega arith)
    left_less p (suc m) h a b = elim (ℕ_discrete p m) [
      | yes e ↦ omega (arith, left_later m, rw e at a, rw e at b)
      | no e ↦ omega (arith, left_less p m (omega arith) a b)
    ]

-- the number ahead within a row, and at its end
pub ahead_in : (entries : List ℕ) (e q j : ℕ) → j < e → ahead entries e q j ≡ suc (get_or entries j 0)
ahead_in entries e q j l = rw (lt-ltb j e l)

pub ahead_end : (entries : List ℕ) (e q j : ℕ) → e ≤ j → ahead entries e q j ≡ q
ahead_end entries e q j l = rw (le-ltb j e l)

before_set : (xs : List ℕ) (n p j : ℕ) → j < n → get_or (set xs n p) j 0 ≡ get_or xs j 0
before_set xs n p j l = get_or-set_other xs n j p 0 (λ (z : j ≡ n). omega arith)

module _ {test : ℕ → Bool} {entries : List ℕ} {b e q : ℕ} (r : Row test entries b e q) where
  -- another place is written after the row
  row_kept : (n p : ℕ) → e ≤ n → Row test (set entries n p) b e q
  row_kept n p l =
      record {
        first = same b ∙ r.first;
        more = λ j x y. same (j + 1) ∙ r.more j x y ∙ ap (last_below test) (sym (before_set entries n p j (omega arith)));
      }
    where
      same : (j : ℕ) → ahead (set entries n p) e q j ≡ ahead entries e q j
      same j = elim (dec_lt j e) [
        | yes h ↦ ahead_in (set entries n p) e q j h ∙ ap suc (before_set entries n p j (omega arith)) ∙ sym (ahead_in entries e q j h)
        | no h ↦ ahead_end (set entries n p) e q j (omega arith) ∙ sym (ahead_end entries e q j (omega arith))
      ]

  -- the row's next place
  row_more : (p s : ℕ) → b ≤ e → e < length entries → q ≡ suc p → s ≡ last_below test p → Row test (set entries e p) b (e + 1) s
  row_more p s l m f g =
      record {
        first = same b l ∙ r.first;
        more = λ j x y. elim (dec_lt j e) [
          | yes h ↦ same (j + 1) (omega arith) ∙ r.more j x h ∙ ap (last_below test) (sym (before_set entries e p j h))
          | no h ↦
              let z : j ≡ e = omega arith in
              ahead_end (set entries e p) (e + 1) s (j + 1) (omega arith) ∙ g
              ∙ rw z (ap (last_below test) (sym (get_or-set_same entries e p 0 m)))
        ];
      }
    where
      same : (j : ℕ) → j ≤ e → ahead (set entries e p) (e + 1) s j ≡ ahead entries e q j
      same j k =
          ahead_in (set entries e p) (e + 1) s j (omega arith) ∙
          elim (dec_lt j e) [
            | yes h ↦ ap suc (before_set entries e p j h) ∙ sym (ahead_in entries e q j h)
            | no h ↦
                let z : j ≡ e = omega arith in
                rw z (ap suc (get_or-set_same entries e p 0 m) ∙ sym f ∙ sym (ahead_end entries e q e (omega arith)))
          ]

module _ (keys : List ℕ) (n i : ℕ) where
  -- when the place p has its turn: key by key, and with one key from the last place to the first
  abbrev pub turn_of : ℕ → ℕ
  turn_of p = 256 * get_or keys p 0 + (255 - p)

  -- the rows of the keys below k are laid out, with m places written and the turns from t on to come
  pub record RowedBelow (k t m : ℕ) (start entries : List ℕ) : Type 0 where
    pub size_start : length start ≡ 65
    pub size_entries : length entries ≡ 256
    pub room : m + left turn_of t 256 ≤ 256
    pub starts : (j : ℕ) → j ≤ k → get_or start j 0 ≤ m
    pub row : (j : ℕ) → j < k → Row (has_key keys n i j) entries (get_or start j 0) (get_or start (j + 1) 0) 0

  -- the walk along the chain of k has come to the entry with number q
  pub record Walking (k q m : ℕ) (start entries : List ℕ) : Type 0 where
    pub rows : RowedBelow k (256 * k + (256 - q)) m start entries
    pub bound : q ≤ 256
    pub entry : (p : ℕ) → q ≡ suc p → has_key keys n i k p ≡ true
    pub row : Row (has_key keys n i k) entries (get_or start k 0) m q

  pub rowed_none : RowedBelow 0 0 0 (replicate 65 0) (replicate 256 0)
  rowed_none =
      record {
        size_start = refl;
        size_entries = refl;
        room = omega (arith, left_high turn_of 0 256);
        starts = λ j l. let z : j ≡ 0 = omega arith in rw z (omega arith);
        row = λ j l. absurd (omega arith);
      }

  module _ {k m : ℕ} {start entries : List ℕ} where
    pub walk_none :
        {chain : Chain} {q : ℕ} → RowedBelow k (256 * k) m start entries → get_or start k 0 ≡ m → k < 64 →
        Chained keys n i chain → q ≡ get_or chain.last k 0 → Walking k q m start entries
    walk_none {chain} {q} r s l h f =
        let e : q ≡ last_below (has_key keys n i k) 256 = f ∙ h.last k l in
        record {
          rows = record {
            size_start = r.size_start;
            size_entries = r.size_entries;
            room = omega (arith, r.room, left_later turn_of (256 * k) (256 * k + (256 - q)) (omega arith) 256);
            starts = r.starts;
            row = r.row;
          };
          bound = rw e (last_bound (has_key keys n i k) 256);
          entry = λ p f. last_passes (has_key keys n i k) 256 p (sym e ∙ f);
          row = record {
            first = ahead_end entries m q (get_or start k 0) (omega arith) ∙ e;
            more = λ j x y. absurd (omega arith);
          };
        }

    module _ {q : ℕ} (w : Walking k q m start entries) (p : ℕ) (e : q ≡ suc p) where
      -- the entry at place p has its turn
      turn_less : (u : ℕ) → 256 * k + (256 - p) ≤ u → left turn_of u 256 < left turn_of (256 * k + (256 - q)) 256
      turn_less u l =
          let h : get_or keys p 0 ≡ k = (key_entry keys n i k p (w.entry p e)).1 in
          let b = w.bound in
          left_less turn_of (256 * k + (256 - q)) u (omega arith) p 256 (omega arith) (omega arith) (omega arith)

      pub walk_room : m < 256
      walk_room = omega (arith, w.rows.room, turn_less (256 * k + (256 - p)) (omega arith))

      module _ {chain : Chain} {s : ℕ} (h : Chained keys n i chain) (f : s ≡ get_or chain.previous p 0) where
        next_is : s ≡ last_below (has_key keys n i k) p
        next_is =
            let b = key_entry keys n i k p (w.entry p e) in
            f ∙ h.previous p (omega (arith, w.bound)) b.0 ∙ ap (λ j. last_below (has_key keys n i j) p) b.1

        pub walk_less : s < q
        walk_less = let l : s ≤ p = rw next_is (last_bound (has_key keys n i k) p) in omega arith

        pub walk_more : Walking k s (m + 1) start (set entries m p)
        walk_more =
            let r = w.rows in
            let l = walk_less in
            record {
              rows = record {
                size_start = r.size_start;
                size_entries = length-set entries m p ∙ r.size_entries;
                room = omega (arith, r.room, turn_less (256 * k + (256 - s)) (omega arith));
                starts = λ j x. omega (arith, r.starts j x);
                row = λ j x. row_kept (r.row j x) m p (r.starts (j + 1) (omega arith));
              };
              bound = omega (arith, w.bound);
              entry = λ t g. last_passes (has_key keys n i k) p t (sym next_is ∙ g);
              row = row_more w.row p s (r.starts k (omega arith)) (omega (arith, walk_room, r.size_entries)) e next_is;
            }

    pub walk_all :
        {q : ℕ} → Walking k q m start entries → q ≡ 0 → k < 64 →
        RowedBelow (k + 1) (256 * (k + 1)) m (set start (k + 1) m) entries × (get_or (set start (k + 1) m) (k + 1) 0 ≡ m)
    walk_all {q} w e l = (
      record {
        size_start = length-set start (k + 1) m ∙ r.size_start;
        size_entries = r.size_entries;
        room = omega (arith, r.room, left_later turn_of (256 * k + (256 - q)) (256 * (k + 1)) (omega arith) 256);
        starts = λ j x. elim (ℕ_discrete j (k + 1)) [
          | yes z ↦ rw (z, new) (omega arith)
          | no z ↦ rw (old j (omega arith)) (r.starts j (omega arith))
        ];
        row = λ j x. elim (ℕ_discrete j k) [
          | yes z ↦ rw (z, old k (omega arith), new) (rw e at w.row)
          | no z ↦ rw (old j (omega arith), old (j + 1) (omega arith)) (r.row j (omega arith))
        ];
      },
      new,
    )
      where
        r : RowedBelow k (256 * k + (256 - q)) m start entries
        r = w.rows

        new : get_or (set start (k + 1) m) (k + 1) 0 ≡ m
        new = get_or-set_same start (k + 1) m 0 (omega (arith, r.size_start))

        old : (j : ℕ) → j ≤ k → get_or (set start (k + 1) m) j 0 ≡ get_or start j 0
        old j x = before_set start (k + 1) m j (omega arith)

  pub rowed_all : {k t m : ℕ} (r : Rows) → k ≡ 64 → RowedBelow k t m r.start r.entries → Rowed keys n i r
  rowed_all r e b =
      record {
        bound = λ j l. omega (arith, b.starts j (omega arith), b.room);
        row = λ j l. b.row j (omega arith);
      }
