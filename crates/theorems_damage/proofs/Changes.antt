-- Damage letter by letter: where the letters of a window were kept, the same letters stand in the string sent and in the one received, and
-- at which places.
use mathlib.Core.Path.{◌≡◌, refl, sym, ap, ap₂, ◌∙◌}
use mathlib.Core.List.{List, [], ◌∷◌, ◌++◌, append_assoc}
use Prim.Native.Nat.{ℕ, zero, suc, ◌+◌, ◌≤◌, ◌<◌}
use native.Mathlib.Omega.{arith}
use lib.ListN.{length, take, drop, take-append-drop, length-append}
use lib.Seq.{take_at, drop_at}
use Rattle.mealy.specs.Machine.{Letters}
use Rattle.theorems_damage.specs.Change.{Change, kept, altered, lost, added, sent_of, received_of, string_of, sent, received}
use Rattle.theorems_damage.specs.Change.{Keeps, InPlace, NewBelow, Each, KeptAt, AlteredAt, KeptFrom}

-- ---- strings by parts, sent and received alike

module _ (of : Change → List ℕ) where
  string_append : (cs ds : List Change) → string_of of (cs ++ ds) ≡ string_of of cs ++ string_of of ds
  string_append [] ds = refl
  string_append (c ∷ cs) ds = rw (string_append cs ds) (sym (append_assoc (of c) (string_of of cs) (string_of of ds)))

  pub length_string :
      (cs ds : List Change) → length (string_of of (cs ++ ds)) ≡ length (string_of of cs) + length (string_of of ds)
  length_string cs ds = ap length (string_append cs ds) ∙ length-append (string_of of cs) (string_of of ds)

  -- the letters of the changes `part` stand where those of the changes in front of it end
  part_at :
      (front part back : List Change) (n k : ℕ) → length (string_of of part) ≡ n → length (string_of of front) ≡ k →
      take n (drop k (string_of of (front ++ (part ++ back)))) ≡ string_of of part
  part_at front part back n k long place =
      rw (string_append front (part ++ back), string_append part back)
      (ap (take n) (drop_at (string_of of front) (string_of of part ++ string_of of back) k place) ∙
      take_at (string_of of part) (string_of of back) n long)

  part_inside :
      (front part back : List Change) (n k : ℕ) → length (string_of of part) ≡ n → length (string_of of front) ≡ k →
      k + n ≤ length (string_of of (front ++ (part ++ back)))
  part_inside front part back n k long place = omega (arith, length_string front (part ++ back), length_string part back)

  -- with one letter for each change
  length_each :
      (P : Change → Type 0) → ((c : Change) → P c → length (of c) ≡ 1) → (cs : List Change) → Each P cs →
      length (string_of of cs) ≡ length cs
  length_each P one [] e = refl
  length_each P one (c ∷ cs) e =
      omega (arith, length-append (of c) (string_of of cs), one c e.0, length_each P one cs e.1)

-- ---- each

pub each_map : {P Q : Change → Type 0} → ((c : Change) → P c → Q c) → (cs : List Change) → Each P cs → Each Q cs
each_map f [] e = tt
each_map f (c ∷ cs) e = (f c e.0, each_map f cs e.1)

each_front : (P : Change → Type 0) (cs ds : List Change) → Each P (cs ++ ds) → Each P cs
each_front P [] ds e = tt
each_front P (c ∷ cs) ds e = (e.0, each_front P cs ds e.1)

pub in_place : (c : Change) → Keeps c → InPlace c
in_place (kept x) k = tt
in_place (altered x y) k = tt
in_place (lost x) k = absurd k
in_place (added y) k = absurd k

-- ---- lengths

sent_one : (c : Change) → InPlace c → length (sent_of c) ≡ 1
sent_one (kept x) k = refl
sent_one (altered x y) k = refl
sent_one (lost x) k = refl
sent_one (added y) k = absurd k

received_one : (c : Change) → InPlace c → length (received_of c) ≡ 1
received_one (kept x) k = refl
received_one (altered x y) k = refl
received_one (lost x) k = absurd k
received_one (added y) k = refl

pub length_sent : (cs : List Change) → Each InPlace cs → length (sent cs) ≡ length cs
length_sent = length_each sent_of InPlace sent_one

pub length_received : (cs : List Change) → Each InPlace cs → length (received cs) ≡ length cs
length_received = length_each received_of InPlace received_one

-- ---- letters that were kept

kept_same : (c : Change) → Keeps c → received_of c ≡ sent_of c
kept_same (kept x) k = refl
kept_same (altered x y) k = absurd k
kept_same (lost x) k = absurd k
kept_same (added y) k = absurd k

each_same : (cs : List Change) → Each Keeps cs → received cs ≡ sent cs
each_same [] e = refl
each_same (c ∷ cs) e = ap₂ ◌++◌ (kept_same c e.0) (each_same cs e.1)

-- The n letters from place k on of the string sent are the n letters from place k' on of the string received, and lie in both.
pub record SamePart (cs : List Change) (n k k' : ℕ) : Type 0 where
  pub inside : k + n ≤ length (sent cs)
  pub inside' : k' + n ≤ length (received cs)
  pub same : take n (drop k' (received cs)) ≡ take n (drop k (sent cs))

pub same_part : (cs : List Change) (n k k' : ℕ) → KeptFrom cs n k k' → SamePart cs n k k'
same_part cs n k k' h = rw h.parts (of_parts h.front h.part h.back h.kept h.letters h.place h.place')
  where
    of_parts :
        (front part back : List Change) → Each Keeps part → length part ≡ n → length (sent front) ≡ k → length (received front) ≡ k' →
        SamePart (front ++ (part ++ back)) n k k'
    of_parts front part back keeps letters place place' =
        let long = length_sent part (each_map in_place part keeps) ∙ letters in
        let long' = length_received part (each_map in_place part keeps) ∙ letters in
        record {
          inside = part_inside sent_of front part back n k long place;
          inside' = part_inside received_of front part back n k' long' place';
          same =
              part_at received_of front part back n k' long' place' ∙ each_same part keeps ∙
              sym (part_at sent_of front part back n k long place);
        }

-- ---- where letters were kept

-- changes taken apart at the letters j to j + n
record Parted (cs : List Change) (j n : ℕ) : Type 0 where
  front : List Change
  part : List Change
  back : List Change
  parts : cs ≡ front ++ (part ++ back)
  kept : Each Keeps part
  letters : length part ≡ n
  place : length front ≡ j

kept_taken :
    (n : ℕ) (cs : List Change) → ((i : ℕ) → i < n → KeptAt cs i) → Each Keeps (take n cs) × (length (take n cs) ≡ n)
kept_taken zero cs h = (tt, refl)
kept_taken (suc n) [] h = absurd (h 0 (omega arith))
kept_taken (suc n) (c ∷ cs) h =
    let r = kept_taken n cs (λ i l. h (suc i) (omega arith)) in
    ((h 0 (omega arith), r.0), ap suc r.1)

parted : (cs : List Change) (j n : ℕ) → 0 < n → ((i : ℕ) → j ≤ i → i < j + n → KeptAt cs i) → Parted cs j n
parted cs zero n some h =
    let r = kept_taken n cs (λ i l. h i (omega arith) (omega arith)) in
    record {
      front = [];
      part = take n cs;
      back = drop n cs;
      parts = sym (take-append-drop n cs);
      kept = r.0;
      letters = r.1;
      place = refl;
    }
parted [] (suc j) n some h = absurd (h (suc j) (omega arith) (omega arith))
parted (c ∷ cs) (suc j) n some h =
    let p = parted cs j n some (λ i l m. h (suc i) (omega arith) (omega arith)) in
    record {
      front = c ∷ p.front;
      part = p.part;
      back = p.back;
      parts = ap (λ l. c ∷ l) p.parts;
      kept = p.kept;
      letters = p.letters;
      place = ap suc p.place;
    }

-- of changes `rest` without a loss or an addition, behind others
pub kept_behind :
    (front rest : List Change) (j n k k' : ℕ) → 0 < n → Each InPlace rest → ((i : ℕ) → j ≤ i → i < j + n → KeptAt rest i) →
    length (sent front) + j ≡ k → length (received front) + j ≡ k' → KeptFrom (front ++ rest) n k k'
kept_behind front rest j n k k' some places h e e' =
    let p = parted rest j n some h in
    let ahead : Each InPlace p.front = each_front InPlace p.front (p.part ++ p.back) (rw p.parts at places) in
    record {
      front = front ++ p.front;
      part = p.part;
      back = p.back;
      parts = ap (λ l. front ++ l) p.parts ∙ sym (append_assoc front p.front (p.part ++ p.back));
      kept = p.kept;
      letters = p.letters;
      place = omega (arith, length_string sent_of front p.front, length_sent p.front ahead, p.place);
      place' = omega (arith, length_string received_of front p.front, length_received p.front ahead, p.place);
    }

-- of changes with others behind them
pub kept_ahead : (front rest : List Change) (n k k' : ℕ) → KeptFrom front n k k' → KeptFrom (front ++ rest) n k k'
kept_ahead front rest n k k' h =
    record {
      front = h.front;
      part = h.part;
      back = h.back ++ rest;
      parts =
          ap (λ l. l ++ rest) h.parts ∙ append_assoc h.front (h.part ++ h.back) rest ∙
          ap (λ l. h.front ++ l) (append_assoc h.part h.back rest);
      kept = h.kept;
      letters = h.letters;
      place = h.place;
      place' = h.place';
    }

-- every letter that was kept
pub each_at : (cs : List Change) → Each Keeps cs → (i : ℕ) → i < length cs → KeptAt cs i
each_at [] e i l = absurd (omega arith)
each_at (c ∷ cs) e zero l = e.0
each_at (c ∷ cs) e (suc i) l = each_at cs e.1 i (omega arith)

-- and every letter of a string without losses and additions that was not altered
pub unaltered_at : (cs : List Change) → Each InPlace cs → (i : ℕ) → i < length cs → (AlteredAt cs i → ⊥) → KeptAt cs i
unaltered_at [] e i l h = absurd (omega arith)
unaltered_at (kept x ∷ cs) e zero l h = tt
unaltered_at (altered x y ∷ cs) e zero l h = absurd (h tt)
unaltered_at (lost x ∷ cs) e zero l h = absurd e.0
unaltered_at (added y ∷ cs) e zero l h = absurd e.0
unaltered_at (c ∷ cs) e (suc i) l h = unaltered_at cs e.1 i (omega arith) h

-- ---- letters below O

pub received_below : (n : ℕ) (cs : List Change) → Each (NewBelow n) cs → Letters n (sent cs) → Letters n (received cs)
received_below n [] e l = tt
received_below n (kept x ∷ cs) e l = (l.0, received_below n cs e.1 l.1)
received_below n (altered x y ∷ cs) e l = (omega (arith, e.0, l.0), received_below n cs e.1 l.1)
received_below n (lost x ∷ cs) e l = received_below n cs e.1 l.1
received_below n (added y ∷ cs) e l = (e.0, received_below n cs e.1 l)
