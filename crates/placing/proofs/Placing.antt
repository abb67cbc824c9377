-- Laws of bytes that are written into a buffer.
use mathlib.Core.Path.{◌≡◌, refl, sym, ap, ◌∙◌}
use mathlib.Core.List.{List, [], ◌∷◌, ◌++◌, append_assoc}
use Prim.Native.Nat.{ℕ, suc, ◌+◌, ◌<◌, ◌≤◌}
use native.Mathlib.Numerals.{add-one}
use native.Mathlib.Omega.{arith}
use lib.ListN.{length, get_or, take, drop, set, replicate, length-append, length-replicate}
use lib.Seq.{sets, sets-eq, drop-drop, take_at, take-suc, length-sets, get_or-set_other}
use Rattle.placing.specs.Placed.{with_front, Placed}

-- ---- one after the other

sets_then : (before xs ys : List ℕ) (at next : ℕ) → next ≡ at + length xs → sets (sets before at xs) next ys ≡ sets before at (xs ++ ys)
sets_then before [] ys at next e = let p : next ≡ at = omega arith in rw p
sets_then before (x ∷ xs) ys at next e = sets_then (set before at x) xs ys (suc at) next (omega arith)

pub written_then :
    {before middle after xs ys : List ℕ} {at place next : ℕ} → Placed before at xs middle place → Placed middle place ys after next →
    Placed before at (xs ++ ys) after next
written_then {before} {middle} {after} {xs} {ys} {at} {place} {next} a b = record {
  buffer = b.buffer ∙ ap (λ (l : List ℕ). sets l place ys) a.buffer ∙ sets_then before xs ys at place a.end;
  end = omega (arith, a.end, b.end, length-append xs ys);
}

-- two at once behind what is there
pub written_both :
    {before middle after xs : List ℕ} {at place next : ℕ} (ys zs : List ℕ) → Placed before at xs middle place →
    Placed middle place (ys ++ zs) after next → Placed before at (xs ++ ys ++ zs) after next
written_both {before} {middle} {after} {xs} ys zs a b = rw (append_assoc xs ys zs) (written_then a b)

pub written_none : (before : List ℕ) (at : ℕ) → Placed before at [] before at
written_none before at = record { buffer = refl; end = omega arith }

pub written_one :
    {before bytes : List ℕ} {at : ℕ} (out : List ℕ) (place x next : ℕ) → Placed before at bytes out place → next ≡ place + 1 →
    Placed before at (bytes ++ (x ∷ [])) (set out place x) next
written_one out place x next a e = written_then a (record { buffer = refl; end = e })

-- one byte more of a slice
pub slice_more :
    {before out : List ℕ} {at place : ℕ} (bytes : List ℕ) (i next : ℕ) → i < length bytes → Placed before at (take i bytes) out place →
    next ≡ place + 1 → Placed before at (take (i + 1) bytes) (set out place (get_or bytes i 0)) next
slice_more {before} {out} {at} {place} bytes i next l a e = rw (add-one, take-suc bytes i 0 l) (written_one out place (get_or bytes i 0) next a e)

-- a part of the buffer is written anew
pub part_written :
    {before bytes xs : List ℕ} {at k next : ℕ} → xs ≡ bytes → k ≡ length bytes → at + k ≤ length before → next ≡ at + k →
    Placed before at bytes (take at before ++ (xs ++ drop k (drop at before))) next
part_written {before} {bytes} {xs} {at} {k} {next} e l m n = rw (e, l) (record {
  buffer =
      ap (λ z. take at before ++ (bytes ++ z)) (drop-drop (length bytes) at before)
      ∙ sym (append_assoc (take at before) bytes (drop (at + length bytes) before)) ∙ sym (sets-eq bytes before at (omega arith));
  end = omega arith;
})

pub fill_all :
    {before out : List ℕ} {at place : ℕ} (byte n m : ℕ) → n ≡ m → Placed before at (replicate n byte) out place →
    Placed before at (replicate m byte) out place
fill_all byte n m e a = rw e at a

pub fill_end : {before out : List ℕ} {at place : ℕ} (byte n : ℕ) → Placed before at (replicate n byte) out place → place ≡ at + n
fill_end byte n a = omega (arith, a.end, length-replicate {A = ℕ} n byte)

pub written_length : {before bytes after : List ℕ} {at next : ℕ} → Placed before at bytes after next → length after ≡ length before
written_length {before} {bytes} {after} {at} {next} a = ap length a.buffer ∙ length-sets before at bytes

-- ---- bytes at the front of a buffer

pub placed_front :
    {before bytes after : List ℕ} {n : ℕ} → Placed before 0 bytes after n → length bytes ≤ length before →
    (n ≡ length bytes) × (after ≡ with_front bytes before)
placed_front {before} {bytes} {after} {n} a l =
    let e : 0 + length bytes ≡ length bytes = omega arith in
    (a.end ∙ e, a.buffer ∙ sets-eq bytes before 0 (omega arith) ∙ ap (λ k. bytes ++ drop k before) e)

pub front_bytes :
    {before bytes after : List ℕ} {n : ℕ} → Placed before 0 bytes after n → length bytes ≤ length before → take n after ≡ bytes
front_bytes {before} {bytes} a l =
    let p = placed_front a l in
    rw (p.0, p.1) (take_at bytes (drop (length bytes) before) (length bytes) refl)

sets_past : (before bytes : List ℕ) (at k : ℕ) → at + length bytes ≤ k → get_or (sets before at bytes) k 0 ≡ get_or before k 0
sets_past before [] at k l = refl
sets_past before (x ∷ bytes) at k l =
    sets_past (set before at x) bytes (suc at) k (omega arith) ∙ get_or-set_other before at k x 0 (λ (e : k ≡ at). omega arith)

-- the bytes past those written are as they were
pub written_past :
    {before bytes after : List ℕ} {at n : ℕ} → Placed before at bytes after n → (k : ℕ) → n ≤ k → get_or after k 0 ≡ get_or before k 0
written_past {before} {bytes} {after} {at} {n} a k l = rw a.buffer (sets_past before bytes at k (omega (arith, a.end)))
