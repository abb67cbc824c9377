-- A buffer that is written from the front.
use mathlib.Core.Path.{◌≡◌, refl, sym, ap, ◌∙◌}
use mathlib.Core.List.{List, ◌++◌}
use Prim.Native.Nat.{ℕ, ◌+◌, ◌-◌, ◌≤◌, ◌<◌}
use native.Mathlib.Decide.{dec_lt}
use native.Mathlib.Omega.{arith}
use lib.ListN.{length, get_or, set, drop, length-set, length-append, length-drop, get_or-append}
use lib.Seq.{get_or-set_same, get_or-set_other, get_or-drop, drop-drop, drop-set-lt, drop_at, ext_get_or}
use borrow.Author.Count.{below_more}
use Rattle.coder.specs.Table.{table}
use Rattle.coder.proofs.Fill.{length_table, get_or_table}
use Rattle.decoder.specs.Written.{Written}

pub written_none : (Q : ℕ → ℕ → Type 0) (l : List ℕ) → Written Q 0 l l
written_none Q l = record { size = refl; is = λ k p. absurd (omega arith); rest = refl }

pub written_more :
    {Q : ℕ → ℕ → Type 0} {k : ℕ} {before l : List ℕ} {v : ℕ} → Written Q k before l → k < length l → Q k v →
    Written Q (k + 1) before (set l k v)
written_more {Q} {k} {before} {l} {v} w p q =
    record {
      size = length-set l k v ∙ w.size;
      is =
          below_more (λ j. Q j (get_or (set l k v) j 0)) k
          (λ j lt. rw (get_or-set_other l k j v 0 (λ (z : j ≡ k). omega arith)) (w.is j lt))
          (rw (get_or-set_same l k v 0 p) q);
      rest =
          drop-set-lt (k + 1) l k v (omega arith) ∙ sym (drop-drop 1 k l) ∙ ap (drop 1) w.rest ∙ drop-drop 1 k before;
    }

-- what is asked of each byte may be exchanged, place by place
pub written_map :
    {Q R : ℕ → ℕ → Type 0} {m : ℕ} {before after : List ℕ} → ((k v : ℕ) → k < m → Q k v → R k v) →
    Written Q m before after → Written R m before after
written_map h w = record { size = w.size; is = λ k l. h k _ l (w.is k l); rest = w.rest }

-- the bytes of a list in front, the old bytes after them
pub written_bytes :
    {Q : ℕ → ℕ → Type 0} {n : ℕ} {before : List ℕ} (bytes : List ℕ) → length bytes ≡ n → n ≤ length before →
    ((k : ℕ) → k < n → Q k (get_or bytes k 0)) → Written Q n before (bytes ++ drop n before)
written_bytes {Q} {n} {before} bytes long l h =
    record {
      size = length-append bytes (drop n before) ∙ simp length-drop (omega arith);
      is = λ k p. rw (get_or-append bytes (drop n before) 0 k (omega arith)) (h k p);
      rest = drop_at bytes (drop n before) n long;
    }

-- and those of a function
pub written_front :
    {Q : ℕ → ℕ → Type 0} {n : ℕ} {before : List ℕ} (g : ℕ → ℕ) → n ≤ length before →
    ((k : ℕ) → k < n → Q k (g k)) → Written Q n before (table n g ++ drop n before)
written_front {Q} {n} g l h = written_bytes (table n g) (length_table n g) l (λ k p. rw (get_or_table n g k p) (h k p))

-- two buffers that were written alike are equal
pub written_unique :
    {Q : ℕ → ℕ → Type 0} {n : ℕ} {before after after' : List ℕ} →
    ((k x y : ℕ) → Q k x → Q k y → x ≡ y) → Written Q n before after → Written Q n before after' → after ≡ after'
written_unique {Q} {n} {before} {after} {after'} u p q =
    ext_get_or 0 after after' (p.size ∙ sym q.size)
    (λ i l. elim (dec_lt i n) [
      | yes b ↦ u i (get_or after i 0) (get_or after' i 0) (p.is i b) (q.is i b)
      | no b ↦
          let at : i ≡ n + (i - n) = omega arith in
          rw at
          (sym (get_or-drop n after (i - n) 0)
          ∙ ap (λ t. get_or t (i - n) 0) (p.rest ∙ sym q.rest)
          ∙ get_or-drop n after' (i - n) 0)
    ])
