-- The five parts of a valid pair as walks of the product machine, with their bytes; and a valid pair from its parts.
use mathlib.Core.Path.{◌≡◌, refl, sym, ◌∙◌}
use mathlib.Core.List.{List}
use Prim.Native.Nat.{ℕ, zero, suc, ◌+◌, ◌*◌, ◌≤◌, ◌<◌}
use native.Mathlib.Omega.{arith}
use lib.ListN.{length, take, drop}
use lib.Seq.{drop-cons}
use Rattle.mealy.specs.Machine.{Machine, outs, end, Letters}
use Rattle.mealy.specs.Setting.{Setting}
use Rattle.mealy.specs.Product.{Edge}
use Rattle.mealy.specs.LoopedPair.{LoopedPair, Run, first, second, letter_at, letters_from, mark, unlooped, letters, start_of, run_inputs, Valid}
use Rattle.mealy.specs.Walk.{Part}
use Rattle.mealy.specs.First.{Lexicographic}
use Rattle.mealy.proofs.Walks.{walk_nil, walk_cons}
use Rattle.mealy.proofs.Places.{Edges}
use Rattle.first_pair.specs.Lowest.{BytesLead, none, letter, bytes_at, bytes_from}

-- ---- the bytes of the letters

pub bytes_part : (bytes : List ℕ) (n place a b : ℕ) → 2 * n ≡ a → 2 * place ≡ b → a + b ≤ length bytes → take a (drop b bytes) ≡ bytes_at bytes place n
bytes_part bytes zero place zero b e f l = refl
bytes_part bytes zero place (suc a) b e f l = absurd (omega arith)
bytes_part bytes (suc n) place zero b e f l = absurd (omega arith)
bytes_part bytes (suc n) place (suc zero) b e f l = absurd (omega arith)
bytes_part bytes (suc n) place (suc (suc a)) b e f l =
    let g : b ≡ 2 * place + 0 = omega arith in
    let h : suc b ≡ 2 * place + 1 = omega arith in
    rw (
      drop-cons bytes b 0 (omega arith),
      drop-cons bytes (suc b) 0 (omega arith),
      bytes_part bytes n (suc place) a (suc (suc b)) (omega arith) (omega arith) (omega arith),
    )
    (cc (g, h))

pub bytes_taken : (p : LoopedPair) → 2 * letters p ≤ length p.bytes → take (2 * letters p) p.bytes ≡ bytes_from p 0 (letters p)
bytes_taken p l = bytes_part p.bytes (letters p) 0 (2 * letters p) 0 refl refl (omega arith)

-- ---- one part after the other

pub leads_join :
    {M : Machine} (p : LoopedPair) (m n k place mid : ℕ) {u v x y x' y' : ℕ} → m + n ≡ k → place + m ≡ mid →
    BytesLead M m u v (bytes_from p place m) x y → BytesLead M n x y (bytes_from p mid n) x' y' → BytesLead M k u v (bytes_from p place k) x' y'
leads_join p zero n k place mid e f none b =
    let g : n ≡ k = omega arith in
    let h : mid ≡ place = omega arith in
    rw (g, h) at b
leads_join p (suc m) n zero place mid e f a b = absurd (omega arith)
leads_join p (suc m) n (suc k) place mid e f (letter d a) b = letter d (leads_join p m n k (suc place) mid (omega arith) (omega arith) a b)

pub lexicographic_join :
    (p q : LoopedPair) (m n k place mid : ℕ) → m + n ≡ k → place + m ≡ mid → Lexicographic (bytes_from p place m) (bytes_from q place m) →
    (bytes_from p place m ≡ bytes_from q place m → Lexicographic (bytes_from p mid n) (bytes_from q mid n)) →
    Lexicographic (bytes_from p place k) (bytes_from q place k)
lexicographic_join p q zero n k place mid e f a b =
    let g : n ≡ k = omega arith in
    let h : mid ≡ place = omega arith in
    rw (g, h) at (b refl)
lexicographic_join p q (suc m) n zero place mid e f a b = absurd (omega arith)
lexicographic_join p q (suc m) n (suc k) place mid e f a b =
    (a.0, λ g. ((a.1 g).0, λ h. lexicographic_join p q m n k (suc place) mid (omega arith) (omega arith) ((a.1 g).1 h) (λ z. b (cc))))

-- ---- walks as runs

pub leads_walk :
    {M : Machine} (p : LoopedPair) (n place : ℕ) {u v x y : ℕ} → BytesLead M n u v (bytes_from p place n) x y →
    Part M p place n u v x y
leads_walk p zero place none = walk_nil
leads_walk p (suc n) place (letter e r) = walk_cons e (leads_walk p n (suc place) r)

-- ---- a pair from its parts

-- Five parts with these starts and lengths: the back loop closed at (s, t), the lead-in to (u, v), a conflicting edge, the
-- lead-out to (x, y), the forward loop closed there.
pub record PartsWith (S : Setting) (p : LoopedPair) (s t bl li lo fl : ℕ) : Type 0 where
  pub u : ℕ
  pub v : ℕ
  pub x : ℕ
  pub y : ℕ
  pub back : BytesLead S.M bl s t (bytes_from p 0 bl) s t
  pub before : BytesLead S.M li s t (bytes_from p bl li) u v
  pub edge :
      Edge S.M u v (letter_at p first (bl + li)) (letter_at p second (bl + li))
      (S.M.next u (letter_at p first (bl + li))) (S.M.next v (letter_at p second (bl + li)))
  pub conflict : S.Conflict (letter_at p first (bl + li)) (letter_at p second (bl + li))
  pub after :
      BytesLead S.M lo (S.M.next u (letter_at p first (bl + li))) (S.M.next v (letter_at p second (bl + li)))
      (bytes_from p (suc (bl + li)) lo) x y
  pub forward : BytesLead S.M fl x y (bytes_from p (bl + li + 1 + lo) fl) x y

abbrev pub PartsOf : Setting → LoopedPair → Type 0
PartsOf S p = PartsWith S p p.s p.t p.back_loop p.lead_in p.lead_out p.forward_loop

-- with the starts and lengths of another pair, where they are equal
pub parts_as :
    {S : Setting} {q : LoopedPair} {s t bl li lo fl s' t' bl' li' lo' fl' : ℕ} → s ≡ s' → t ≡ t' → bl ≡ bl' → li ≡ li' → lo ≡ lo' →
    fl ≡ fl' → PartsWith S q s' t' bl' li' lo' fl' → PartsWith S q s t bl li lo fl
parts_as a b c d e f w = rw (a, b, c, d, e, f) w

pub parts_valid :
    (S : Setting) (p : LoopedPair) → 2 * letters p ≤ length p.bytes → S.Start p.s → S.Start p.t → 0 < p.back_loop →
    0 < p.forward_loop → PartsOf S p → Valid S p
parts_valid S p held a b c d w = record {
  held = held;
  start = λ r. elim r as (λ k. S.Start (start_of p k)) [ first ↦ a | second ↦ b ];
  below = λ r. elim r as (λ k. Letters S.M.inputs (run_inputs p k)) [ first ↦ all.equal.letters₁ | second ↦ all.equal.letters₂ ];
  back_letter = c;
  forward_letter = d;
  outputs = all.equal.outputs;
  conflict = w.conflict;
  back_closed = λ r. elim r as (λ k. end S.M (start_of p k) (letters_from p k 0 p.back_loop) ≡ start_of p k) [ first ↦ loop.end₁ | second ↦ loop.end₂ ];
  forward_closed = λ r. elim r as (λ k. end S.M (start_of p k) (run_inputs p k) ≡ end S.M (start_of p k) (letters_from p k 0 (unlooped p))) [ first ↦ all.end₁ ∙ sym some.end₁ | second ↦ all.end₂ ∙ sym some.end₂ ];
}
  where
    loop : Part S.M p 0 p.back_loop p.s p.t p.s p.t
    loop = leads_walk p p.back_loop 0 w.back

    to_mark : BytesLead S.M (mark p) p.s p.t (bytes_from p 0 (mark p)) w.u w.v
    to_mark = leads_join p p.back_loop p.lead_in (mark p) 0 p.back_loop refl (omega arith) w.back w.before

    to_loop : BytesLead S.M (unlooped p) p.s p.t (bytes_from p 0 (unlooped p)) w.x w.y
    to_loop = leads_join p (mark p) (suc p.lead_out) (unlooped p) 0 (mark p) (omega arith) (omega arith) to_mark (letter w.edge w.after)

    some : Part S.M p 0 (unlooped p) p.s p.t w.x w.y
    some = leads_walk p (unlooped p) 0 to_loop

    all : Part S.M p 0 (letters p) p.s p.t w.x w.y
    all = leads_walk p (letters p) 0 (leads_join p (unlooped p) p.forward_loop (letters p) 0 (unlooped p) refl (omega arith) to_loop w.forward)

-- ---- the parts of a valid pair

-- the state of a run before a place
abbrev pub state_at : Machine → LoopedPair → Run → ℕ → ℕ
state_at M p r k = end M (start_of p r) (letters_from p r 0 k)

pub edge_at :
    (M : Machine) (p : LoopedPair) (n k place at u v : ℕ) → k < n → place + k ≡ at → Letters M.inputs (letters_from p first place n) →
    Letters M.inputs (letters_from p second place n) →
    outs M u (letters_from p first place n) ≡ outs M v (letters_from p second place n) →
    Edge M (end M u (letters_from p first place k)) (end M v (letters_from p second place k)) (letter_at p first at) (letter_at p second at)
    (end M u (letters_from p first place (suc k))) (end M v (letters_from p second place (suc k)))
edge_at M p zero k place at u v l e a b o = absurd (omega arith)
edge_at M p (suc n) zero place at u v l e a b o =
    let f : place ≡ at = omega arith in
    rw (← f) (record { below₁ = a.0; below₂ = b.0; output = cc; to₁ = refl; to₂ = refl })
edge_at M p (suc n) (suc k) place at u v l e a b o =
    edge_at M p n k (suc place) at _ _ (omega arith) (omega arith) a.1 b.1 (cc)

pub valid_edges : (S : Setting) (p : LoopedPair) → Valid S p → Edges S.M p (state_at S.M p) (letters p)
valid_edges S p w k l = edge_at S.M p (letters p) k 0 k _ _ l (omega arith) (w.below first) (w.below second) w.outputs

-- from place to place
pub edges_leads :
    (M : Machine) (p : LoopedPair) (σ : Run → ℕ → ℕ) (L n place to : ℕ) → Edges M p σ L → place + n ≡ to → to ≤ L →
    BytesLead M n (σ first place) (σ second place) (bytes_from p place n) (σ first to) (σ second to)
edges_leads M p σ L zero place to h e l = let f : place ≡ to = omega arith in rw f none
edges_leads M p σ L (suc n) place to h e l =
    let d = h place (omega arith) in
    let r = edges_leads M p σ L n (suc place) to h (omega arith) l in
    letter (record { below₁ = d.below₁; below₂ = d.below₂; output = d.output; to₁ = refl; to₂ = refl }) (rw (← d.to₁, ← d.to₂) at r)

pub valid_parts : (S : Setting) (p : LoopedPair) → Valid S p → PartsOf S p
valid_parts S p w = record {
  u = σ first (mark p);
  v = σ second (mark p);
  x = σ first (unlooped p);
  y = σ second (unlooped p);
  back = rw (w.back_closed first, w.back_closed second) at (go p.back_loop 0 p.back_loop (omega arith) (omega arith));
  before = rw (w.back_closed first, w.back_closed second) at (go p.lead_in p.back_loop (mark p) refl (omega arith));
  edge = record { below₁ = d.below₁; below₂ = d.below₂; output = d.output; to₁ = refl; to₂ = refl };
  conflict = w.conflict;
  after = rw (d.to₁, d.to₂) (go p.lead_out (suc (mark p)) (unlooped p) (omega arith) (omega arith));
  forward = rw (w.forward_closed first, w.forward_closed second) at (go p.forward_loop (unlooped p) (letters p) refl (omega arith));
}
  where
    σ : Run → ℕ → ℕ
    σ = state_at S.M p

    go :
        (n place to : ℕ) → place + n ≡ to → to ≤ letters p →
        BytesLead S.M n (σ first place) (σ second place) (bytes_from p place n) (σ first to) (σ second to)
    go n place to = edges_leads S.M p σ (letters p) n place to (valid_edges S p w)

    d :
        Edge S.M (σ first (mark p)) (σ second (mark p)) (letter_at p first (mark p)) (letter_at p second (mark p))
        (σ first (suc (mark p))) (σ second (suc (mark p)))
    d = valid_edges S p w (mark p) (omega arith)
