-- One received letter: the words that hold the sets of letters before it and after it.
use mathlib.Core.Path.{◌≡◌, refl, sym, ap, ◌∙◌}
use mathlib.Core.Bool.{Bool, true, false, ◌&&◌, cond}
use mathlib.Core.List.{List}
use mathlib.Core.Logic.{◌⊎◌, inl, inr, ⊎_elim}
use Prim.Native.Nat.{ℕ, zero, suc, ◌+◌, ◌*◌, ◌/◌, ◌%◌, ◌<◌}
use native.Mathlib.Decide.{ℕ_discrete}
use native.Mathlib.Omega.{arith}
use lib.ListN.{length, get_or, replicate, length-set, get_or-replicate}
use lib.Dec.{eqb}
use lib.Seq.{get_or-set_same, get_or-set_other}
use borrow.Author.Tests.{eq-eqb, ne_eqb, eqb-true, eqb-false}
use Rattle.mealy.specs.Machine.{Machine}
use Rattle.mealy.specs.Word.{Holds}
use Rattle.mealy.specs.Image.{Image}
use Rattle.mealy.proofs.Words.{holds_none, holds_one, holds_map, holds_empty, holds_greatest, holds_union}
use Rattle.mealy.proofs.OneMore.{OneMore, next_below, more_image, image_cases}
use Rattle.mealy.proofs.Members.{holds_itself}
use Rattle.coder.proofs.Tables.{table_at_lem}
use Rattle.coder.specs.Table.{machine_of_coder, Sound}
use Rattle.coder.specs.declared.inner.tables.Coder.{Coder}
use Rattle.coder.proofs.Refusals.{both_true, true_false}
use Rattle.chains.specs.Chain.{over}
use Rattle.chains.proofs.Entries.{is_entry_lem, entry_place, has_key_lem, key_entry}
use Rattle.filling.specs.Runs.{Sets, Contributes, SetAfter, EachWord, SetsIn, LetterAfter}
use Rattle.filling.specs.Sets.{contribution, gather, add, has_output, added, advance}

contributes_none :
    (Q : Sets) (here : Bool) (s i : ℕ) → ((x : ℕ) → Q s x → ⊥) → (x : ℕ) → Contributes Q here s i x → ⊥
contributes_none Q true s i h x g = h g.1.0 g.1.1
contributes_none Q false s i h x g = h x g

contribution_holds :
    (Q : Sets) (here : Bool) (s p : ℕ) {u : ℕ} → Holds (Q s) u → Holds (Contributes Q here s (p % 16)) (contribution here p u)
unfolding contribution
contribution_holds Q here s p {u} a = go here (eqb u 0) refl
  where
    go : (h b : Bool) → eqb u 0 ≡ b → Holds (Contributes Q h s (p % 16)) (contribution h p u)
    go h true e = rw e (holds_none (contributes_none Q h s (p % 16) (holds_empty a (eqb-true u 0 e))))
    go true false e =
        let g = holds_greatest a (eqb-false u 0 e) in
        rw e (holds_one (p % 16) (omega arith) (refl, (g.0, g.4)) (λ y g. g.0))
    go false false e = rw e a

-- ---- the union of what the entries with a test give

-- some entry below place n with the test gives x
abbrev ContributedBelow : (ℕ → Bool) → Sets → Bool → ℕ → ℕ → Type 0
ContributedBelow T Q here n = Image (λ p x. (T p ≡ true) × Contributes Q here (p / 16) (p % 16) x) (λ p. p < n)

module _ (Q : Sets) (v : List ℕ) (here : Bool) (T : ℕ → Bool)
    (known : (p : ℕ) → T p ≡ true → Holds (Q (p / 16)) (get_or v (p / 16) 0)) where
  abbrev GatherHolds : ℕ → Type 1
  GatherHolds n =
      (P : ℕ → Type 0) (u : ℕ) → Holds P u → Holds (λ x. P x ⊎ ContributedBelow T Q here n x) (over T (gather v here) u n)

  gather_holds : (n : ℕ) → GatherHolds n
  unfolding over gather
  gather_holds zero P u h =
      holds_map (λ x. inl) (λ x. ⊎_elim (λ q. q) (λ f. absurd (let m = f.from in omega arith))) h
  gather_holds (suc n) P u h = go (T n) refl (gather_holds n)
    where
      m : OneMore (λ p. p < n) n (λ p. p < suc n)
      m = next_below (omega arith)

      go : (b : Bool) → T n ≡ b → GatherHolds n →
          Holds (λ x. P x ⊎ ContributedBelow T Q here (suc n) x) (over T (gather v here) u (suc n))
      go true e r =
          rw e
          (holds_map
          (λ x. ⊎_elim (⊎_elim inl (λ g. inr (more_image m x (inr (e, g))))) (λ g. inr (more_image m x (inl g))))
          (λ x. ⊎_elim (λ q. inl (inl q)) (λ g. ⊎_elim inr (λ f. inl (inr f.1)) (image_cases m x g)))
          (r (λ x. P x ⊎ Contributes Q here (n / 16) (n % 16) x) (gather v here u n)
          (holds_union h (contribution_holds Q here (n / 16) n (known n e)))))
      go false e r =
          rw e
          (holds_map
          (λ x. ⊎_elim inl (λ g. inr (more_image m x (inl g))))
          (λ x. ⊎_elim inl (λ g. ⊎_elim inr (λ f. absurd (true_false f.0 e)) (image_cases m x g)))
          (r P u h))

-- the set of state t is the union of what the entries that lead to t give
module _ (next v : List ℕ) (here : Bool) (T : ℕ → Bool) (t : ℕ) (l : t < 16) where
  abbrev leads_to : ℕ → Bool
  leads_to p = T p && eqb (get_or next p 0) t

  add_at :
      (to : List ℕ) → length to ≡ 16 → (p : ℕ) →
      get_or (cond (T p) (add next v here to p) to) t 0 ≡ cond (leads_to p) (gather v here (get_or to t 0) p) (get_or to t 0)
  unfolding add
  add_at to z p = go (T p)
    where
      go :
          (b : Bool) →
          get_or (cond b (add next v here to p) to) t 0
          ≡ cond (b && eqb (get_or next p 0) t) (gather v here (get_or to t 0) p) (get_or to t 0)
      go false = refl
      go true =
          elim (ℕ_discrete (get_or next p 0) t) [
            | yes q ↦ rw (eq-eqb (get_or next p 0) t q, q) (get_or-set_same to t _ 0 (omega arith))
            | no q ↦
                rw (ne_eqb (get_or next p 0) t q) (get_or-set_other to (get_or next p 0) t _ 0 (λ (e : t ≡ get_or next p 0). q (sym e)))
          ]

  add_size : (to : List ℕ) → length to ≡ 16 → (p : ℕ) → length (cond (T p) (add next v here to p) to) ≡ 16
  unfolding add
  add_size to z p = go (T p)
    where
      go : (b : Bool) → length (cond b (add next v here to p) to) ≡ 16
      go false = z
      go true = length-set to (get_or next p 0) _ ∙ z

  over_at :
      (n : ℕ) (to : List ℕ) → length to ≡ 16 →
      get_or (over T (add next v here) to n) t 0 ≡ over leads_to (gather v here) (get_or to t 0) n
  unfolding over
  over_at zero to z = refl
  over_at (suc n) to z =
      over_at n (cond (T n) (add next v here to n) to) (add_size to z n)
      ∙ ap (λ u. over leads_to (gather v here) u n) (add_at to z n)

-- ---- the entries with an output letter

module _ (c : Coder) (sound : Sound c) (Q : Sets) (v : List ℕ) (o : ℕ) (here : Bool)
    (known : (s : ℕ) → s < c.states → Holds (Q s) (get_or v s 0)) where
  abbrev M : Machine
  M = machine_of_coder c

  known_at : (p : ℕ) → has_output c o p ≡ true → Holds (Q (p / 16)) (get_or v (p / 16) 0)
  known_at p e =
      known (p / 16) (entry_place c.states c.inputs p (key_entry c.output c.states c.inputs o p e).0).state

  set_after :
      (p : ℕ) {x t : ℕ} → has_output c o p ≡ true → get_or c.next p 0 ≡ t → Contributes Q here (p / 16) (p % 16) x →
      SetAfter M Q o here t x
  set_after p h e g =
      let k = key_entry c.output c.states c.inputs o p h in
      let q = entry_place c.states c.inputs p k.0 in
      record {
        s = p / 16;
        i = p % 16;
        state = q.state;
        letter = q.letter;
        output = table_at_lem c.output p ∙ k.1;
        to = table_at_lem c.next p ∙ e;
        contributes = g;
      }

  -- the place of its entry
  record AfterPlace (t x : ℕ) : Type 0 where
    place : ℕ
    below : place < 256
    is : has_output c o place ≡ true
    to : get_or c.next place 0 ≡ t
    contributes : Contributes Q here (place / 16) (place % 16) x

  after_place : {t x : ℕ} → SetAfter M Q o here t x → AfterPlace t x
  after_place {t} {x} a = at (16 * a.s + a.i) (omega arith) (omega arith)
    where
      ls : a.s < 16
      ls = let m = a.state in let n = sound.states_high in omega arith

      li : a.i < 16
      li = let m = a.letter in let n = sound.inputs_high in omega arith

      at : (p : ℕ) → p / 16 ≡ a.s → p % 16 ≡ a.i → AfterPlace t x
      at p es ei =
          record {
            place = p;
            below = omega (arith, ls, li);
            is =
                has_key_lem c.output c.states c.inputs o p
                (is_entry_lem c.states c.inputs p (rw es a.state) (rw ei a.letter))
                (sym (table_at_lem c.output p) ∙ rw (es, ei) a.output);
            to = sym (table_at_lem c.next p) ∙ rw (es, ei) a.to;
            contributes = rw (es, ei) a.contributes;
          }

  -- the sets of the states, and of all of them together
  pub advance_holds : (t : ℕ) → t < 16 → Holds (SetAfter M Q o here t) (get_or (advance c c.next v o here) t 0)
  unfolding added
  advance_holds t l =
      let T = leads_to c.next v here (has_output c o) t l in
      rw (over_at c.next v here (has_output c o) t l 256 (replicate 16 0) refl, get_or-replicate {A = ℕ} 16 t 0 0 l)
      (holds_map
      (λ x. ⊎_elim absurd
      (λ f.
      let b = both_true (has_output c o f.s) (eqb (get_or c.next f.s 0) t) f.step.0 in
      set_after f.s b.0 (eqb-true _ _ b.1) f.step.1))
      (λ x a.
      let p = after_place a in
      inr
      (record { s = p.place; from = p.below; step = (rw p.is (eq-eqb _ _ p.to), p.contributes) }))
      (gather_holds Q v here T
      (λ p e. known_at p (both_true (has_output c o p) (eqb (get_or c.next p 0) t) e).0) 256 (λ x. ⊥) 0 (holds_none (λ x f. f))))

-- ---- by the words v

-- the words of a coder's sets hold them
pub sets_hold : (c : Coder) → Sound c → (v : List ℕ) → EachWord v → (s : ℕ) → s < c.states → Holds (SetsIn c v s) (get_or v s 0)
sets_hold c sound v words s l =
    holds_map (λ x h. (l, h)) (λ x h. h.1) (holds_itself (words s (let n = sound.states_high in omega arith)))

-- all states together
pub letters_hold :
    (c : Coder) → Sound c → (v : List ℕ) (o : ℕ) (here : Bool) → EachWord v →
    Holds (LetterAfter c v o here) (over (has_output c o) (gather v here) 0 256)
letters_hold c sound v o here words =
    let Q = SetsIn c v in
    let known = sets_hold c sound v words in
    holds_map
    (λ x. ⊎_elim absurd
    (λ f. record { t = _; is = set_after c sound Q v o here known f.s f.step.0 refl f.step.1 }))
    (λ x a.
    let p = after_place c sound Q v o here known a.is in
    inr (record { s = p.place; from = p.below; step = (p.is, p.contributes) }))
    (gather_holds Q v here (has_output c o) (known_at c sound Q v o here known) 256 (λ x. ⊥) 0 (holds_none (λ x f. f)))
