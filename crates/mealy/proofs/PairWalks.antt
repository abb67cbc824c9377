-- A valid looped pair from walks of given lengths, and back: the bytes of the pair are the letters of its walks.
use mathlib.Core.Path.{◌≡◌, refl, sym, ap, ap₂, ◌∙◌, subst₂}
use mathlib.Core.List.{List, [], ◌∷◌, ◌++◌, append_assoc}
use Prim.Native.Nat.{ℕ, zero, suc, ◌+◌, ◌*◌, ◌<◌}
use native.Mathlib.Omega.{arith}
use lib.ListN.{length, get_or, length-append}
use lib.Seq.{get_or_at}
use Rattle.mealy.specs.Machine.{Machine}
use Rattle.mealy.specs.Setting.{Setting}
use Rattle.mealy.specs.Product.{ConflictEdge}
use Rattle.mealy.specs.LoopedPair.{LoopedPair, first, second, letter_at, letters_from, mark, unlooped, start_of, Valid}
use Rattle.mealy.specs.Walk.{Walk, Part}
use Rattle.mealy.proofs.Edges.{equal_edge}
use Rattle.mealy.proofs.Walks.{walk_cons, walk_tail}
use Rattle.mealy.proofs.PairParts.{length_letters, part_append, part_cut, valid→parts, parts→valid}

-- some walk of n letters
pub record WalkOf (M : Machine) (n s t u v : ℕ) : Type 0 where
  pub xs : List ℕ
  pub ys : List ℕ
  pub size : length xs ≡ n
  pub walk : Walk M s t xs ys u v

-- The walks of a valid pair with these start states and these four lengths: the back loop; the lead-in, an edge on conflicting letters
-- and the lead-out, which lead to (u, v); the forward loop.
pub record PairWalks (S : Setting) (s t b i o f : ℕ) : Type 0 where
  pub u : ℕ
  pub v : ℕ
  pub start₁ : S.Start s
  pub start₂ : S.Start t
  pub back_letter : 0 < b
  pub forward_letter : 0 < f
  pub back : WalkOf S.M b s t s t
  pub between : ConflictEdge S (λ x y. WalkOf S.M i s t x y) (λ x y. WalkOf S.M o x y u v)
  pub forward : WalkOf S.M f u v u v

-- ---- from a pair to its walks

part_walk : {M : Machine} (p : LoopedPair) (place n : ℕ) {s t u v : ℕ} → Part M p place n s t u v → WalkOf M n s t u v
part_walk p place n w = record {
  xs = letters_from p first place n;
  ys = letters_from p second place n;
  size = length_letters p first n place;
  walk = w;
}

pub valid→walks :
    (S : Setting) (p : LoopedPair) → Valid S p →
    PairWalks S p.s p.t p.back_loop p.lead_in p.lead_out p.forward_loop
valid→walks S p v =
    let h = valid→parts S p v in
    let a = h.parts in
    let c =
    part_cut p p.lead_in (suc p.lead_out) (p.lead_in + 1 + p.lead_out) p.back_loop (mark p) (omega arith) refl a.between in
    record {
      u = a.u;
      v = a.v;
      start₁ = h.start first;
      start₂ = h.start second;
      back_letter = a.back.letter;
      forward_letter = a.forward.letter;
      back = part_walk p 0 p.back_loop a.back.walk;
      between = record {
        s = _;
        t = _;
        i = letter_at p first (mark p);
        j = letter_at p second (mark p);
        u = _;
        v = _;
        from = part_walk p p.back_loop p.lead_in c.0;
        edge = equal_edge c.1.equal;
        conflict = h.conflict;
        to = part_walk p (suc (mark p)) p.lead_out (walk_tail c.1);
      };
      forward = part_walk p (unlooped p) p.forward_loop a.forward.walk;
    }

-- ---- from walks to a pair

-- the letters of two runs, two bytes each
pub bytes_of_runs : List ℕ → List ℕ → List ℕ
bytes_of_runs [] ys = []
bytes_of_runs (x ∷ xs) [] = []
bytes_of_runs (x ∷ xs) (y ∷ ys) = x ∷ y ∷ bytes_of_runs xs ys

length_bytes : (xs ys : List ℕ) → length ys ≡ length xs → length (bytes_of_runs xs ys) ≡ 2 * length xs
unfolding bytes_of_runs
length_bytes [] ys e = refl
length_bytes (x ∷ xs) [] e = absurd (omega arith)
length_bytes (x ∷ xs) (y ∷ ys) e = let l = length_bytes xs ys (omega arith) in omega arith

-- a pair in whose bytes these letters stand from `place` on
letters_written :
    (p : LoopedPair) (before xs ys after : List ℕ) (place n : ℕ) → p.bytes ≡ before ++ (bytes_of_runs xs ys ++ after) →
    length before ≡ 2 * place → length xs ≡ n → length ys ≡ n →
    (letters_from p first place n ≡ xs) × (letters_from p second place n ≡ ys)
unfolding bytes_of_runs
letters_written p before [] [] after place zero e l m k = (refl, refl)
letters_written p before [] [] after place (suc n) e l m k = absurd (omega arith)
letters_written p before [] (y ∷ ys) after place n e l m k = absurd (omega arith)
letters_written p before (x ∷ xs) [] after place n e l m k = absurd (omega arith)
letters_written p before (x ∷ xs) (y ∷ ys) after place zero e l m k = absurd (omega arith)
letters_written p before (x ∷ xs) (y ∷ ys) after place (suc n) e l m k =
    let rest = bytes_of_runs xs ys ++ after in
    let e₂ : p.bytes ≡ (before ++ (x ∷ [])) ++ (y ∷ rest) = e ∙ sym (append_assoc before (x ∷ []) (y ∷ rest)) in
    let e₃ : p.bytes ≡ (before ++ (x ∷ y ∷ [])) ++ rest = e ∙ sym (append_assoc before (x ∷ y ∷ []) rest) in
    let i : letter_at p first place ≡ x =
    ap (λ zs. get_or zs (2 * place + 0) 0) e ∙ get_or_at before x (y ∷ rest) 0 (2 * place + 0) (omega arith) in
    let j : letter_at p second place ≡ y =
    ap (λ zs. get_or zs (2 * place + 1) 0) e₂ ∙ get_or_at (before ++ (x ∷ [])) y rest 0 (2 * place + 1) (simp length-append (omega arith)) in
    let r =
    letters_written p (before ++ (x ∷ y ∷ [])) xs ys after (suc place) n e₃ (simp length-append (omega arith)) (omega arith) (omega arith) in
    (ap₂ ◌∷◌ i r.0, ap₂ ◌∷◌ j r.1)

part_written :
    {M : Machine} (p : LoopedPair) (before xs ys after : List ℕ) (place n : ℕ) → p.bytes ≡ before ++ (bytes_of_runs xs ys ++ after) →
    length before ≡ 2 * place → length xs ≡ n → {s t u v : ℕ} → Walk M s t xs ys u v → Part M p place n s t u v
part_written {M} p before xs ys after place n e l m {s} {t} {u} {v} w =
    let r = letters_written p before xs ys after place n e l m (w.equal.length₂ ∙ m) in
    subst₂ (λ xs' ys'. Walk M s t xs' ys' u v) (sym r.0) (sym r.1) w

-- the bytes of a walk
abbrev walk_bytes : {M : Machine} {n s t u v : ℕ} → WalkOf M n s t u v → List ℕ
walk_bytes w = bytes_of_runs w.xs w.ys

length_walk : {M : Machine} {n s t u v : ℕ} (w : WalkOf M n s t u v) → length (walk_bytes w) ≡ 2 * n
length_walk w = length_bytes w.xs w.ys w.walk.equal.length₂ ∙ ap (λ k. 2 * k) w.size

walk_written :
    {M : Machine} (p : LoopedPair) (before after : List ℕ) (place n : ℕ) {s t u v : ℕ} (w : WalkOf M n s t u v) →
    p.bytes ≡ before ++ (walk_bytes w ++ after) → length before ≡ 2 * place → Part M p place n s t u v
walk_written p before after place n w e l = part_written p before w.xs w.ys after place n e l w.size w.walk

module _ (S : Setting) {s t b i o f : ℕ} (w : PairWalks S s t b i o f) where
  open S use {M}

  -- the edge on conflicting letters with the lead-out
  abbrev edge_and_lead_out : WalkOf M (suc o) w.between.s w.between.t w.u w.v
  edge_and_lead_out =
      let c = w.between in
      record { xs = c.i ∷ c.to.xs; ys = c.j ∷ c.to.ys; size = ap suc c.to.size; walk = walk_cons c.edge c.to.walk }

  abbrev pub pair_of_walks : LoopedPair
  pair_of_walks =
      record {
        s = s;
        t = t;
        back_loop = b;
        lead_in = i;
        lead_out = o;
        forward_loop = f;
        bytes = walk_bytes w.back ++ (walk_bytes w.between.from ++ (walk_bytes edge_and_lead_out ++ (walk_bytes w.forward ++ [])));
      }

  pub walks→valid : Valid S pair_of_walks
  walks→valid =
      let p = pair_of_walks in
      let c = w.between in
      let B = walk_bytes w.back in
      let I = walk_bytes c.from in
      let O = walk_bytes edge_and_lead_out in
      let F = walk_bytes w.forward ++ [] in
      let lB = length_walk w.back in
      let lI = length_walk c.from in
      let lO = length_walk edge_and_lead_out in
      let lF = length_walk w.forward in
      let eO : p.bytes ≡ (B ++ I) ++ (O ++ F) = sym (append_assoc B I (O ++ F)) in
      let eF : p.bytes ≡ ((B ++ I) ++ O) ++ F = eO ∙ sym (append_assoc (B ++ I) O F) in
      let at : length (B ++ I) ≡ 2 * mark p = simp length-append (omega arith) in
      let mark-letters =
      letters_written p (B ++ I) edge_and_lead_out.xs edge_and_lead_out.ys F (mark p) (suc o) eO at edge_and_lead_out.size
      (edge_and_lead_out.walk.equal.length₂ ∙ edge_and_lead_out.size) in
      let e₁ : letter_at p first (mark p) ≡ c.i = cc in
      let e₂ : letter_at p second (mark p) ≡ c.j = cc in
      parts→valid S p (record {
        held = simp length-append (omega arith);
        start = λ r. elim r as (λ k. S.Start (start_of pair_of_walks k)) [ first ↦ w.start₁ | second ↦ w.start₂ ];
        conflict = rw (e₁, e₂) c.conflict;
        parts = record {
          u = w.u;
          v = w.v;
          back = record { letter = w.back_letter; walk = walk_written p [] (I ++ (O ++ F)) 0 b w.back refl refl };
          between =
              part_append p i (suc o) (i + 1 + o) b (mark p) (omega arith) refl
              (walk_written p B (O ++ F) b i c.from refl lB) (walk_written p (B ++ I) F (mark p) (suc o) edge_and_lead_out eO at);
          forward = record {
            letter = w.forward_letter;
            walk = walk_written p ((B ++ I) ++ O) [] (unlooped p) f w.forward eF (simp length-append (omega arith));
          };
        };
      })
