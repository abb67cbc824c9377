-- The decoder table, filled letter by letter.
use mathlib.Core.Path.{◌≡◌, refl, sym, ap, ◌∙◌}
use mathlib.Core.Bool.{Bool}
use mathlib.Core.List.{List, [], ◌∷◌, ◌++◌}
use Prim.Native.Nat.{ℕ, zero, suc, pred, ◌+◌, ◌-◌, ◌*◌, ◌^◌, ◌/◌, ◌≤◌, ◌<◌}
use native.Mathlib.Nat.{pow-zero, pow-suc, mul_comm, suc-mul, mul-le-mul_right, mul-div_cancel}
use native.Mathlib.Numerals.{add-one}
use native.Mathlib.Decide.{dec_lt, ℕ_discrete}
use native.Mathlib.Omega.{arith}
use lib.ListN.{length, get_or, set, take, drop, length-set, length-drop, get_or-append}
use lib.Seq.{get_or-take, get_or-append-add, length-take-le, get_or-set_same, get_or-set_other}
use lib.Dec.{eqb, lit<}
use borrow.Author.Count.{below_more}
use borrow.Rule.Slice.PartMut.{mid_of, post_of, put_mid, same_len_mid}
use Rattle.mealy.specs.Index.{window_at}
use Rattle.mealy.proofs.Indices.{length_window, window_digits}
use Rattle.mealy.specs.Machine.{Machine}
use Rattle.mealy.specs.Word.{Holds}
use Rattle.mealy.specs.Answer.{byte_of}
use Rattle.mealy.proofs.Words.{holds_map, holds_none, holds_one}
use Rattle.mealy.proofs.Members.{holds_member}
use Rattle.coder.specs.Table.{machine_of_coder, Sound}
use Rattle.coder.specs.declared.inner.tables.Coder.{Coder}
use Rattle.coder.proofs.Tables.{next_high}
use Rattle.coder.proofs.Fill.{get_or_table}
use Rattle.setting.specs.Words.{from_word, StartWord}
use Rattle.fitting.specs.Answer.{meaning, ByteOf, answer_of}
use Rattle.fitting.proofs.Answers.{byte_right}
use Rattle.fitting.proofs.Meaning.{some_far}
use Rattle.filling.specs.Runs.{Sets, SetAfter, From, EachWord, SetsIn, LetterAfter}
use Rattle.filling.specs.Sets.{advance, start_sets, RowsOf, RowsAsked}
use Rattle.filling.specs.Table.{FillAsked, TableFilled, PartAsked, PartFilled, LastAsked, LastFilled}
use Rattle.filling.proofs.Steps.{start_set}
use Rattle.filling.proofs.Sets.{advance_holds, sets_hold}
use Rattle.filling.proofs.Runs.{WithinStates, from_after, after_from, from_all, all_from, from_map, starting_sets, from_fits, fits_from}

byte_map :
    {P R : ℕ → Type 0} {v : ℕ} → ((x : ℕ) → P x → R x) → ((x : ℕ) → R x → P x) → ByteOf P v → ByteOf R v
byte_map f g h = record { word = h.word; holds = holds_map f g h.holds; byte = h.byte }

power_one : (o : ℕ) → o ^ 1 ≡ o
power_one o = pow-suc o 0 ∙ rw (pow-zero o) (omega arith)

sets_within : (c : Coder) (v : List ℕ) → WithinStates (machine_of_coder c) (SetsIn c v)
sets_within c v s x q = q.0

-- what filling a part is asked suffices for the functions that it calls
module _ {next start entries : List ℕ} {outputs : ℕ} {v : List ℕ} {left present : ℕ} {table : List ℕ}
    (a : PartAsked next start entries outputs v left present table) where
  pub part_rows : RowsAsked start entries
  part_rows = record { coder = a.coder; is = a.rows }

  pub part_next : (p : ℕ) → get_or next p 0 < 16
  part_next p = rw a.next_is (omega (arith, a.rows.sound.states_high, next_high a.coder a.rows.sound p))

  pub last_long : left ≡ 1 → length table ≡ outputs
  last_long z = a.size ∙ rw z (power_one outputs)

  pub last_asked : left ≡ 1 → LastAsked start entries (length table) v table
  last_asked z =
      record {
        rows = part_rows;
        words = a.words;
        outputs_high = rw (last_long z) a.outputs_high;
        size = refl;
      }

-- ---- the last letter

module _ (c : Coder) (v : List ℕ) (o p x : ℕ) (l : p ≤ 1) where
  abbrev M : Machine
  M = machine_of_coder c

  abbrev Later : Sets
  Later = SetAfter M (SetsIn c v) o (eqb p 1)

  last_from : LetterAfter c v o (eqb p 1) x → From M (SetsIn c v) (o ∷ []) p x
  last_from a =
      let e : 0 ≡ pred p = omega arith in
      from_after M (SetsIn c v) o [] p x (rw e at (from_all M Later x (a.t, a.is)))

  from_last : From M (SetsIn c v) (o ∷ []) p x → LetterAfter c v o (eqb p 1) x
  from_last f =
      let e : pred p ≡ 0 = omega arith in
      let q = all_from M Later x (rw e at (after_from M (SetsIn c v) o [] p x (sets_within c v) f)) in
      record { t = q.0; is = q.1 }

window_one : (o k : ℕ) → window_at o 1 k ≡ k ∷ []
unfolding window_at
window_one o k = rw (pow-zero o) (ap (λ n. n ∷ []) (omega arith))

pub part_last :
    {c : Coder} {v : List ℕ} {o left present : ℕ} {table : List ℕ} → left ≡ 1 → present ≤ left → length table ≡ o ^ left →
    LastFilled c v (eqb present 1) o table → PartFilled c v o left present table
part_last {c} {v} {o} {left} {present} {table} z p n f =
    let low : present ≤ 1 = omega arith in
    record {
      size = n;
      is = λ k l.
          rw (z, window_one o k)
          (byte_map (λ x. last_from c v k present x low) (λ x. from_last c v k present x low) (f k (rw (z, power_one o) at l)));
    }

-- the loop over the last letters
pub record LastFilling (start entries v : List ℕ) (here : Bool) (outputs : ℕ) (table : List ℕ) (o : ℕ) : Type 0 where
  pub bound : o ≤ outputs
  pub size : length table ≡ outputs
  pub is : (c : Coder) → RowsOf c start entries → LastFilled c v here o table

pub last_none :
    {start entries v table : List ℕ} {here : Bool} {outputs : ℕ} → length table ≡ outputs →
    LastFilling start entries v here outputs table 0
last_none e = record { bound = omega arith; size = e; is = λ c a k l. absurd (omega arith) }

pub last_more :
    {start entries v table : List ℕ} {here : Bool} {outputs o u x : ℕ} → LastFilling start entries v here outputs table o →
    o < outputs → ((c : Coder) → RowsOf c start entries → Holds (LetterAfter c v o here) u) →
    x ≡ byte_of (meaning (answer_of u 0)) → LastFilling start entries v here outputs (set table o x) (o + 1)
last_more {v = v} {table = table} {here = here} {o = o} {u = u} {x = x} f l h e =
    let z = f.size in
    record {
      bound = omega arith;
      size = length-set table o x ∙ f.size;
      is = λ c a.
          below_more (λ j. ByteOf (LetterAfter c v j here) (get_or (set table o x) j 0)) o
          (λ j q. rw (get_or-set_other table o j x 0 (λ (y : j ≡ o). omega arith)) (f.is c a j q))
          (rw (get_or-set_same table o x 0 (omega arith)) (record { word = u; holds = h c a; byte = e }));
    }

-- ---- a letter that is not the last

-- the sets after the letter o
module _ {c : Coder} (sound : Sound c) (v : List ℕ) {to : List ℕ} (o : ℕ) (here : Bool) (words : EachWord v)
    (e : to ≡ advance c c.next v o here) where
  after_holds : (t : ℕ) → t < 16 → Holds (SetAfter (machine_of_coder c) (SetsIn c v) o here t) (get_or to t 0)
  after_holds t l = rw e (advance_holds c sound (SetsIn c v) v o here (sets_hold c sound v words) t l)

  pub after_words : EachWord to
  after_words s l = (after_holds s l).bound

  sets_after : (s x : ℕ) → SetsIn c to s x → SetAfter (machine_of_coder c) (SetsIn c v) o here s x
  sets_after s x q = holds_member (after_holds s (let n = sound.states_high in omega (arith, q.0))) x q.1

  after_sets : (s x : ℕ) → SetAfter (machine_of_coder c) (SetsIn c v) o here s x → SetsIn c to s x
  after_sets s x a =
      let l : s < c.states = rw a.to at (sound.next_state a.s a.i) in
      (l, (after_holds s (let n = sound.states_high in omega arith)).has x a)

-- the byte of the letter o and the index j of the letters after it
byte_digits :
    {c : Coder} {left size j x : ℕ} {to : List ℕ} (v : List ℕ) (outputs m present o : ℕ) → Sound c → EachWord v → left ≡ suc m →
    size ≡ outputs ^ m → j < size → to ≡ advance c c.next v o (eqb present 1) →
    ByteOf (From (machine_of_coder c) (SetsIn c to) (window_at outputs m j) (pred present)) x →
    ByteOf (From (machine_of_coder c) (SetsIn c v) (window_at outputs left (o * size + j)) present) x
byte_digits {c} {j = j} v outputs m present o sound words e q l t h =
    let M = machine_of_coder c in
    let w = window_at outputs m j in
    rw (e, q, window_digits outputs m o _ (rw q at l))
    (byte_map
    (λ x f. from_after M (SetsIn c v) o w present x (from_map (sets_after sound v o (eqb present 1) words t) f))
    (λ x f. from_map (after_sets sound v o (eqb present 1) words t) (after_from M (SetsIn c v) o w present x (sets_within c v) f))
    h)

pub less_one : (n : ℕ) → n - 1 ≡ pred n
less_one zero = omega arith
less_one (suc n) = omega arith

-- the parts of the first o letters are filled
pub record Filling (next start entries : List ℕ) (outputs : ℕ) (v : List ℕ) (left present size after : ℕ)
    (table : List ℕ) (o : ℕ) : Type 0 where
  pub bound : o ≤ outputs
  pub more : 1 < left
  pub after_is : after ≡ pred present
  pub part : size ≡ outputs ^ (left - 1)
  pub whole : outputs ^ left ≡ outputs * size
  pub length_is : length table ≡ outputs ^ left
  pub is :
      (c : Coder) → RowsOf c start entries → next ≡ c.next → (k : ℕ) → k < o * size →
      ByteOf (From (machine_of_coder c) (SetsIn c v) (window_at outputs left k) present) (get_or table k 0)

power : (o left : ℕ) → 0 < left → o ^ left ≡ o ^ (left - 1) * o
power o zero l = absurd (omega arith)
power o (suc m) l =
    let e : suc m - 1 ≡ m = omega arith in
    rw (pow-suc, e)

module _ {next start entries : List ℕ} {outputs : ℕ} {v : List ℕ} {left present after : ℕ} {table : List ℕ}
  where
    pub filling_start :
        PartAsked next start entries outputs v left present table → (left ≡ 1 → ⊥) → after ≡ pred present →
        Filling next start entries outputs v left present (length table / outputs) after table 0
    filling_start q n e =
        let l = q.more in
        let s = power outputs left l in
        let d : length table / outputs ≡ outputs ^ (left - 1) =
        rw (q.size, s) (mul-div_cancel (outputs ^ (left - 1)) q.outputs_low) in
        record {
          bound = omega arith;
          more = omega arith;
          after_is = e;
          part = d;
          whole = s ∙ mul_comm _ outputs ∙ ap (λ n. outputs * n) (sym d);
          length_is = q.size;
          is = λ c a p k lt. absurd (omega (arith, lt));
        }

module _ {next start entries : List ℕ} {outputs : ℕ} {v : List ℕ} {left present size after : ℕ} {table : List ℕ}
    {o : ℕ} (f : Filling next start entries outputs v left present size after table o) where
  pub filling_room : o < outputs → o * size + size ≤ length table
  filling_room l = omega (arith, f.whole, f.length_is, mul-le-mul_right size l, suc-mul o size)

  pub filling_part : o < outputs → length (take (o * size + size - o * size) (drop (o * size) table)) ≡ outputs ^ (left - 1)
  filling_part l =
      let room = filling_room l in
      let e : o * size + size - o * size ≡ size = omega arith in
      rw e (length-take-le size (drop (o * size) table) (simp length-drop (omega arith)) ∙ f.part)

  -- what the call for the letter o is asked
  pub filling_asked :
      {table₀ to : List ℕ} (x : ℕ) (here : Bool) → PartAsked next start entries outputs v left present table₀ → o < outputs →
      ((c : Coder) → RowsOf c start entries → to ≡ advance c next v x here) →
      PartAsked next start entries outputs to (left - 1) after (take (o * size + size - o * size) (drop (o * size) table))
  filling_asked x here a l advanced =
      record {
        coder = a.coder;
        rows = a.rows;
        next_is = a.next_is;
        words =
            let e = rw a.next_is at (advanced a.coder a.rows) in after_words a.rows.sound v x here a.words e;
        outputs_low = a.outputs_low;
        outputs_high = a.outputs_high;
        more = omega (arith, f.more);
        inside = omega (arith, f.after_is, a.inside);
        size = filling_part l;
      }

  -- the table with the bytes ys in the place of the part of letter o
  pub filling_more :
      (to ys : List ℕ) → EachWord v → o < outputs →
      ((c : Coder) → RowsOf c start entries → to ≡ advance c next v o (eqb present 1)) →
      ((c : Coder) → RowsOf c start entries → next ≡ c.next → PartFilled c to outputs (left - 1) after ys) →
      length ys ≡ length (mid_of (o * size) (o * size + size - o * size) table) →
      Filling next start entries outputs v left present size after
      (put_mid (o * size) (o * size + size - o * size) table ys) (o + 1)
  filling_more to ys words l advanced filled kept =
      let rest = post_of (o * size) (o * size + size - o * size) table in
      let room = filling_room l in
      let front : length (take (o * size) table) ≡ o * size = length-take-le (o * size) table (omega arith) in
      record {
        bound = omega arith;
        more = f.more;
        after_is = f.after_is;
        part = f.part;
        whole = f.whole;
        length_is = same_len_mid (o * size) (o * size + size - o * size) table ys kept ∙ f.length_is;
        is = λ c a p k lt. elim (dec_lt k (o * size)) [
          | yes b ↦
              rw (get_or-append (take (o * size) table) (ys ++ rest) 0 k (omega arith), get_or-take (o * size) table k 0 b)
              (f.is c a p k b)
          | no b ↦
              let j = k - o * size in
              let at : k ≡ o * size + j = omega arith in
              let below : j < size = omega (arith, add-one o, suc-mul o size, ap (λ n. n * size) (add-one o)) in
              let q = filled c a p in
              let long : length ys ≡ size = q.size ∙ sym f.part in
              let there : get_or (take (o * size) table ++ (ys ++ rest)) (o * size + j) 0 ≡ get_or ys j 0 =
              ap (λ n. get_or (take (o * size) table ++ (ys ++ rest)) (n + j) 0) (sym front)
              ∙ get_or-append-add (take (o * size) table) (ys ++ rest) j 0
              ∙ get_or-append ys rest 0 j (omega arith) in
              rw (at, there)
              (byte_digits v outputs (left - 1) present o a.sound words (omega (arith, f.more)) f.part below
              (rw p at (advanced c a)) (rw f.after_is at (q.is j (omega (arith, f.part)))))
        ];
      }

  pub filling_end : outputs ≤ o → (c : Coder) → RowsOf c start entries → next ≡ c.next → PartFilled c v outputs left present table
  filling_end l c a p =
      let e : o ≡ outputs = omega (arith, f.bound) in
      record { size = f.length_is; is = λ k lt. f.is c a p k (rw e (omega (arith, f.whole))) }

-- ---- the whole table

module _ (c : Coder) (sound : Sound c) (starts : ℕ) where
  pub start_holds : (s : ℕ) → s < c.states → Holds (starting_sets (from_word c starts) s) (get_or (start_sets starts) s 0)
  start_holds s l =
      let n = sound.states_high in
      let low : s < 16 = omega arith in
      rw (get_or_table 16 (start_set starts) s low)
      (elim (ℕ_discrete (start_set starts s) 1) [
        | yes e ↦ rw e (holds_one 0 (lit< tt) (e, refl) (λ y q. q.1))
        | no e ↦
            let z : start_set starts s ≡ 0 = omega arith in
            rw z (holds_none (λ y q. e q.0))
      ])

start_words : (starts : ℕ) → EachWord (start_sets starts)
start_words starts s l = rw (get_or_table 16 (start_set starts) s l) (omega arith)

pub fill_asked :
    {next start entries table v : List ℕ} {outputs n b p : ℕ} (starts : ℕ) → FillAsked next start entries outputs n b table →
    v ≡ start_sets starts → p ≤ n → PartAsked next start entries outputs v n p table
fill_asked starts a e l =
    record {
      coder = a.coder;
      rows = a.rows;
      next_is = a.next_is;
      words = rw e (start_words starts);
      outputs_low = a.outputs_low;
      outputs_high = a.outputs_high;
      more = omega (arith, a.inside);
      inside = l;
      size = a.size;
    }

pub table_filled :
    {c : Coder} {o n b starts : ℕ} {v table : List ℕ} → Sound c → v ≡ start_sets starts →
    StartWord c starts → b < n → PartFilled c v o n (b + 1) table → TableFilled c starts o n b table
table_filled {c} {o} {n} {b} {starts} {v} {table} sound e h l f =
    let S = from_word c starts in
    record {
      size = f.size;
      is = λ k m.
          let w = window_at o n k in
          let long : b < length w = omega (arith, length_window o n k) in
          byte_right S w b long (some_far sound h w)
          (byte_map
          (λ x g. fits_from S w b x long (from_map to g))
          (λ x g. from_map from (from_fits S w b x g))
          (rw add-one at (f.is k m)));
    }
  where
    to : (s x : ℕ) → SetsIn c v s x → starting_sets (from_word c starts) s x
    to s x q = holds_member (start_holds c sound starts s q.0) x (rw e at q.1)

    from : (s x : ℕ) → starting_sets (from_word c starts) s x → SetsIn c v s x
    from s x q = let l = h.low s q.0 in (l, rw e ((start_holds c sound starts s l).has x q))
