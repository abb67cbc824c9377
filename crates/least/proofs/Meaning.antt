-- From the depths and the counted edges to the least window.
use mathlib.Core.Path.{◌≡◌, sym, ◌∙◌}
use mathlib.Core.Bool.{true}
use mathlib.Core.Logic.{◌↔◌}
use mathlib.Core.List.{List}
use Prim.Native.Nat.{ℕ, suc, ◌/◌, ◌%◌, ◌≤◌, ◌<◌}
use native.Mathlib.Omega.{arith}
use native.Mathlib.Decide.{dec_lt, dec_le}
use lib.ListN.{get_or}
use Rattle.mealy.specs.Setting.{Setting, Closed, worded}
use Rattle.mealy.specs.Window.{Works}
use Rattle.mealy.specs.Order.{Relation, IsOrder, Least}
use Rattle.mealy.specs.Product.{back, forward, Level, Ambiguous, pairs}
use Rattle.mealy.proofs.Levels.{down, level_start, level_fall}
use Rattle.mealy.proofs.Windows.{works→unambiguous, unambiguous→works}
use Rattle.mealy.proofs.LeastWindows.{least_need, least_sides}
use Rattle.mealy.proofs.Settling.{settled_by}
use Rattle.coder.specs.Table.{machine_of_coder, Sound}
use Rattle.coder.specs.declared.inner.tables.Coder.{Coder}
use Rattle.chains.proofs.Entries.{entry_place}
use Rattle.coder.specs.Limits.{max_side}
use Rattle.chains.specs.Chain.{is_entry}
use Rattle.product.specs.Depth.{endless, Depth, Depths}
use Rattle.product.specs.Rounds.{StartIn}
use Rattle.product.specs.Conflict.{Conflicting, EndlessConflict, back_of, forward_of}
use Rattle.product.proofs.Entries.{source_at, entry_below, far_below, entries_edge, edge_entries}
use Rattle.product.proofs.Depths.{pairs_high, start_decided, start_bounded}
use Rattle.least.specs.Need.{Counted, EachCounted, Needs, Chosen}
use Rattle.values.specs.declared.Window.{Window}

-- a pair that is in level k has a depth above k, or is endless
pub depth_above : (P : ℕ → Type 0) → ((k : ℕ) → P (suc k) → P k) → (x k : ℕ) → Depth P x → P k → x < endless → k < x
depth_above P fall x k d p l = elim (dec_lt k x) [ yes m ↦ m | no m ↦ absurd (d.falls l (down P fall {m = x} {k = k} (omega arith) p)) ]

module _ (c : Coder) (starts : ℕ) (conflicts : List ℕ) (sound : Sound c) (backs forwards : List (List ℕ))
    (back_depths : Depths (machine_of_coder c) (StartIn c.states starts) back backs)
    (forward_depths : Depths (machine_of_coder c) (StartIn c.states starts) forward forwards) where
  abbrev S : Setting
  S = worded (machine_of_coder c) starts conflicts

  state_high : (s : ℕ) → s < c.states → s < 16
  state_high s l = omega (arith, sound.states_high)

  next_state : (p : ℕ) → is_entry c.states c.inputs p ≡ true → get_or c.next p 0 < 16
  next_state p k = state_high _ (far_below c sound forward p k)

  back_depth : (p q : ℕ) → Conflicting c conflicts p q → Depth (λ k. Level S back k (p / 16) (q / 16)) (back_of backs p q)
  back_depth p q k =
      let s = (entry_place _ _ p k.entry₁).state in
      let t = (entry_place _ _ q k.entry₂).state in
      back_depths.depth (p / 16) (q / 16) (state_high _ s) (state_high _ t)

  forward_depth :
      (p q : ℕ) → Conflicting c conflicts p q →
      Depth (λ k. Level S forward k (get_or c.next p 0) (get_or c.next q 0)) (forward_of c.next forwards p q)
  forward_depth p q k = forward_depths.depth _ _ (next_state p k.entry₁) (next_state q k.entry₂)

  -- a conflicting edge of the product machine, by its entries
  conflict_edge :
      (b a p q : ℕ) → Conflicting c conflicts p q → Level S back b (p / 16) (q / 16) →
      Level S forward a (get_or c.next p 0) (get_or c.next q 0) → Ambiguous S b a
  conflict_edge b a p q k h g = record {
    s = p / 16;
    t = q / 16;
    i = p % 16;
    j = q % 16;
    u = get_or c.next p 0;
    v = get_or c.next q 0;
    from = h;
    edge =
        let l = entry_below c sound p k.entry₁ in
        let m = entry_below c sound q k.entry₂ in
        rw (source_at p l, source_at q m) at (entries_edge c sound p q k.entry₁ k.entry₂ k.output);
    conflict = k.conflict;
    to = g;
  }

  -- one that is endless on both sides joins all levels
  pub endless_edge : (p q : ℕ) → EndlessConflict c conflicts backs forwards p q → (b a : ℕ) → Ambiguous S b a
  endless_edge p q e b a =
      conflict_edge b a p q e.edge ((back_depth p q e.edge).always e.ends.back_endless b)
      ((forward_depth p q e.edge).always e.ends.forward_endless a)

  -- and the entries of a conflicting edge between level sets
  record EdgeEntries (b a : ℕ) : Type 0 where
    p : ℕ
    q : ℕ
    conflicting : Conflicting c conflicts p q
    level_back : Level S back b (p / 16) (q / 16)
    level_forward : Level S forward a (get_or c.next p 0) (get_or c.next q 0)

  conflict_entries : (b a : ℕ) → Ambiguous S b a → EdgeEntries b a
  conflict_entries b a e =
      let z = level_start S back b e.s e.t e.from in
      let x = edge_entries c sound e.s e.t e.i e.j e.u e.v z.0.0 z.1.0 e.edge in
      let ps = source_at x.p (entry_below c sound x.p x.entry₁) in
      let qs = source_at x.q (entry_below c sound x.q x.entry₂) in
      record {
        p = x.p;
        q = x.q;
        conflicting = record {
          entry₁ = x.entry₁;
          entry₂ = x.entry₂;
          output = x.output;
          conflict = rw (x.letter₁, x.letter₂) e.conflict;
        };
        level_back = rw (sym ps ∙ x.source₁, sym qs ∙ x.source₂) e.from;
        level_forward = rw (x.next₁, x.next₂) e.to;
      }

  module _ (worst need : List ℕ) (counted : (p q : ℕ) → Conflicting c conflicts p q → Counted c backs forwards worst p q)
      (from : EachCounted c conflicts backs forwards worst) (needs : Needs worst need) where
    -- what is needed was counted at an edge to a pair that stands at level a forward
    record NeedSource (a : ℕ) : Type 0 where
      p : ℕ
      q : ℕ
      conflicting : Conflicting c conflicts p q
      past : a < forward_of c.next forwards p q
      back_is : back_of backs p q ≡ get_or need a 0

    need_source : (a : ℕ) → a < endless → 0 < get_or need a 0 → NeedSource a
    need_source a l m =
        let s = (needs a l).source m in
        let e = from s.0 (omega (arith, s.3)) in
        record { p = e.p; q = e.q; conflicting = e.conflicting; past = omega (arith, e.forward_is, s.1); back_is = e.back_is ∙ s.3 }

    -- the letters that lookahead max_side needs are finite: where the forward levels have settled, only endless pairs stand
    pub need_finite : get_or need max_side 0 < endless
    need_finite = elim (dec_lt (get_or need max_side 0) endless) [
      | yes l ↦ l
      | no l ↦ (let n = need_source max_side (omega arith) (omega arith) in
          let k = n.conflicting in
          let d = forward_depth n.p n.q k in
          let h = forward_depths.finite _ _ (next_state n.p k.entry₁) (next_state n.q k.entry₂) in
          absurd ((counted n.p n.q k).finite (record {
            back_endless = omega (arith, n.back_is, (back_depth n.p n.q k).high);
            forward_endless = elim (dec_lt (forward_of c.next forwards n.p n.q) endless) [
              | yes m ↦ absurd (omega (arith, n.past, h m, pairs_high c.states sound.states_high))
              | no m ↦ omega (arith, d.high)
            ];
          })))
    ]

    -- the windows of lookahead a that work are those with at least the letters that it needs
    pub need_is : Closed S → (b a : ℕ) → a ≤ max_side → Works S b a ↔ ((get_or need a 0 < endless) × (get_or need a 0 ≤ b))
    need_is closed b a l = (to, from')
      where
        to : Works S b a → (get_or need a 0 < endless) × (get_or need a 0 ≤ b)
        to f = elim (dec_lt 0 (get_or need a 0)) [
          | no z ↦ omega arith
          | yes m ↦ (let n = need_source a (omega arith) m in
              let k = n.conflicting in
              let d = back_depth n.p n.q k in
              let stands : Level S back b (n.p / 16) (n.q / 16) → ⊥ = λ h.
              works→unambiguous S b a f (conflict_edge b a n.p n.q k h ((forward_depth n.p n.q k).stands a n.past)) in
              elim (dec_lt (get_or need a 0) endless) [
                | yes o ↦ (
                  o,
                  elim (dec_le (get_or need a 0) b) [ yes e ↦ e | no e ↦ absurd (stands (d.stands b (omega (arith, n.back_is)))) ],
                )
                | no o ↦ absurd (stands (d.always (omega (arith, n.back_is, d.high)) b))
              ])
        ]

        from' : (get_or need a 0 < endless) × (get_or need a 0 ≤ b) → Works S b a
        from' m = unambiguous→works S closed b a (λ e.
            let x = conflict_entries b a e in
            let k = x.conflicting in
            let f = forward_of c.next forwards x.p x.q in
            let df = forward_depth x.p x.q k in
            let past : a < f = elim (dec_lt f endless) [
              | yes n ↦ depth_above (λ k. Level S forward k _ _) (λ k. level_fall S forward k _ _) f a df x.level_forward n
              | no n ↦ omega arith
            ] in
            let u = (needs a (omega arith)).upper f past (omega (arith, df.high)) in
            let w = (counted x.p x.q k).least in
            let y = back_of backs x.p x.q in
            let n : y < endless = omega (arith, u, w, m.0) in
            let db = back_depth x.p x.q k in
            let o = depth_above (λ k. Level S back k _ _) (λ k. level_fall S back k _ _) y b db x.level_back n in
            omega (arith, u, w, m.1, o))

    -- the first of the candidates is the least window among all, whatever their sides, and its own are small
    pub least_window :
        {R : Relation} {p : ℕ} → IsOrder R → Closed S → (w : Window) → Chosen R p need w → Least R S w.before w.after
    least_window order closed w h =
        let settled = settled_by S (start_decided c back starts sound) (start_bounded c back starts sound) in
        rw h.is
        (least_need order S closed max_side (settled forward max_side (pairs_high c.states sound.states_high)) endless
        (λ a. get_or need a 0) (need_is closed) w.after h.lookahead h.finite (λ a l m. rw h.is at (h.first a l m)))

  pub sides_small :
      {R : Relation} → IsOrder R → Closed S → (b a : ℕ) → Least R S b a → (b ≤ pairs c.states) × (a ≤ pairs c.states)
  sides_small order closed =
      let settled = settled_by S (start_decided c back starts sound) (start_bounded c back starts sound) in
      let n = pairs c.states in
      least_sides order S closed n n (settled back n (omega arith)) (settled forward n (omega arith))
