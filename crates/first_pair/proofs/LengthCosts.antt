-- The cost of lengths, and the lengths of a cost.
use mathlib.Core.Path.{◌≡◌, refl}
use Prim.Native.Nat.{ℕ, ◌+◌, ◌*◌, ◌≤◌, ◌<◌}
use native.Mathlib.Omega.{arith}
use Rattle.mealy.specs.Machine.{Machine}
use Rattle.mealy.specs.Setting.{Setting}
use Rattle.first_pair.specs.Reach.{Pairs, Reach, At, Cycle, SomeConflictInto}
use Rattle.first_pair.specs.Cost.{Cost, Only, Looped, Tail, Marked, Head, letter_cost, no_cost, tail_cost, head_cost}
use Rattle.first_pair.proofs.Reaching.{reach_map, leads_reach}
use Rattle.first_pair.proofs.Making.{reach_leads}

-- costs below `endless` are of one lead-out and one forward loop, and of one lead-in
pub tail_unique : (lo fl lo' fl' : ℕ) → tail_cost lo' fl' ≡ tail_cost lo fl → tail_cost lo fl < no_cost → (lo' ≡ lo) × (fl' ≡ fl)
tail_unique lo fl lo' fl' e l = let t : lo' + fl' ≡ lo + fl = omega arith in (omega arith, omega arith)

pub head_unique :
    (li lo fl li' lo' fl' : ℕ) → head_cost li' lo' fl' ≡ head_cost li lo fl → head_cost li lo fl < no_cost →
    (li' ≡ li) × (lo' ≡ lo) × (fl' ≡ fl)
head_unique li lo fl li' lo' fl' e l =
    let t : li' + lo' + fl' ≡ li + lo + fl = omega arith in
    let i : li' ≡ li = omega arith in
    (i, omega arith, omega arith)

-- of costs with as many letters, the lower has the shorter lead-in or, where it is equal, the shorter lead-out
pub head_order :
    (li lo fl li' lo' fl' : ℕ) → li + lo + fl ≡ li' + lo' + fl' → li + lo + fl < 1024 → head_cost li lo fl ≤ head_cost li' lo' fl' →
    (li ≤ li') × (li ≡ li' → lo ≤ lo')
head_order li lo fl li' lo' fl' e s l = (omega arith, λ d. omega arith)

-- ---- numbers of letters as costs

module _ (M : Machine) (x y : ℕ) where
  pub distance_to : (k u v : ℕ) → Cost M 1 (Only (At x y)) k u v → Reach M (At x y) k u v
  distance_to k u v c =
      let w = reach_leads M (Only (At x y) c.n) c.k u v c.reach in
      let e : c.k ≡ k = omega (arith, c.all, w.within.0) in
      rw e at (leads_reach (At x y) w.leads w.within.1)

  pub distance_from : (k u v : ℕ) → Reach M (At x y) k u v → Cost M 1 (Only (At x y)) k u v
  distance_from k u v h =
      record { k = k; n = 0; all = omega arith; reach = reach_map M (At x y) (Only (At x y) 0) (λ a b z. (refl, z)) k u v h }

-- ---- lead-out and forward loop

module _ (M : Machine) where
  pub tail_of : (lo fl u v : ℕ) → Reach M (Cycle M fl) lo u v → Tail M (tail_cost lo fl) u v
  tail_of lo fl u v h =
      record {
        k = lo;
        n = letter_cost * fl;
        all = refl;
        reach = reach_map M (Cycle M fl) (Looped M (letter_cost * fl)) (λ a b z. record { k = fl; all = refl; cycle = z }) lo u v h;
      }

  pub record TailLengths (m u v : ℕ) : Type 0 where
    pub lo : ℕ
    pub fl : ℕ
    pub all : tail_cost lo fl ≡ m
    pub reach : Reach M (Cycle M fl) lo u v

  pub tail_lengths : (m u v : ℕ) → Tail M m u v → TailLengths m u v
  tail_lengths m u v c =
      let w = reach_leads M (Looped M c.n) c.k u v c.reach in
      let z = w.within in
      record {
        lo = c.k;
        fl = z.k;
        all = omega (arith, c.all, z.all);
        reach = leads_reach (Cycle M z.k) w.leads z.cycle;
      }

  pub tail_to : (lo fl u v : ℕ) → tail_cost lo fl < no_cost → Tail M (tail_cost lo fl) u v → Reach M (Cycle M fl) lo u v
  tail_to lo fl u v l c =
      let w = tail_lengths (tail_cost lo fl) u v c in
      let e = tail_unique lo fl w.lo w.fl w.all l in
      rw (e.0, e.1) at w.reach

-- ---- and the lead-in and the differing letter before them

module _ (S : Setting) where
  open S use {M}

  pub conflicting_map : (P Q : Pairs) → ((a b : ℕ) → P a b → Q a b) → (u v : ℕ) → SomeConflictInto S P u v → SomeConflictInto S Q u v
  conflicting_map P Q f u v c =
      let e = c.edge in
      record {
        i = c.i;
        j = c.j;
        edge = record { conflict = e.conflict; into = record { edge = e.into.edge; within = f _ _ e.into.within } };
      }

  pub head_of :
      (li lo fl u v : ℕ) → Reach M (SomeConflictInto S (Reach M (Cycle M fl) lo)) li u v → Head S (head_cost li lo fl) u v
  head_of li lo fl u v h =
      record {
        k = li;
        n = letter_cost + tail_cost lo fl;
        all = refl;
        reach =
            reach_map M (SomeConflictInto S (Reach M (Cycle M fl) lo)) (Marked S (letter_cost + tail_cost lo fl))
            (λ a b z. record { n = tail_cost lo fl; all = refl; edge = conflicting_map (Reach M (Cycle M fl) lo) (Tail M (tail_cost lo fl)) (tail_of M lo fl) a b z })
            li u v h;
      }

  pub record HeadLengths (m u v : ℕ) : Type 0 where
    pub li : ℕ
    pub lo : ℕ
    pub fl : ℕ
    pub all : head_cost li lo fl ≡ m
    pub reach : Reach M (SomeConflictInto S (Reach M (Cycle M fl) lo)) li u v

  pub head_lengths : (m u v : ℕ) → Head S m u v → HeadLengths m u v
  head_lengths m u v c =
      let w = reach_leads M (Marked S c.n) c.k u v c.reach in
      let d = w.within in
      let e = d.edge.edge in
      let t = tail_lengths M d.n _ _ e.into.within in
      record {
        li = c.k;
        lo = t.lo;
        fl = t.fl;
        all = omega (arith, c.all, d.all, t.all);
        reach = leads_reach (SomeConflictInto S (Reach M (Cycle M t.fl) t.lo)) w.leads (record {
          i = d.edge.i;
          j = d.edge.j;
          edge = record { conflict = e.conflict; into = record { edge = e.into.edge; within = t.reach } };
        });
      }

  pub head_to :
      (li lo fl u v : ℕ) → head_cost li lo fl < no_cost → Head S (head_cost li lo fl) u v →
      Reach M (SomeConflictInto S (Reach M (Cycle M fl) lo)) li u v
  head_to li lo fl u v l c =
      let w = head_lengths (head_cost li lo fl) u v c in
      let e = head_unique li lo fl w.li w.lo w.fl w.all l in
      rw (e.0, e.1, e.2) at w.reach
