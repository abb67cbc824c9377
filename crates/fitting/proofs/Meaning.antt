-- What the tables of a coder mean: the letters that fit by the tables are those that fit by the coder's runs.
use mathlib.Core.Path.{◌≡◌, sym, ◌∙◌}
use mathlib.Core.Bool.{Bool, true, false}
use mathlib.Core.List.{List, [], ◌∷◌}
use Prim.Native.Nat.{ℕ, ◌+◌, ◌*◌, ◌/◌, ◌%◌, ◌<◌, ◌≤◌}
use native.Mathlib.Omega.{arith}
use native.Mathlib.Decide.{dec_lt}
use lib.ListN.{length, get_or, take, get_or-eq_default}
use Rattle.coder.proofs.Fill.{length_table, get_or_table}
use Rattle.mealy.specs.Machine.{Machine, Letters, Total}
use Rattle.mealy.specs.Word.{Has, Holds}
use Rattle.mealy.specs.HowFar.{NoRun, HowFar}
use Rattle.mealy.specs.Answer.{Fits}
use Rattle.mealy.specs.Image.{Transitions, Reached, FarIn, Entry, Successor}
use Rattle.mealy.proofs.Words.{holds_map, holds_empty}
use Rattle.mealy.proofs.Members.{holds_member, holds_itself}
use Rattle.mealy.proofs.Images.{All, following_within, fitting_within, fitting_fits, fits_fitting}
use Rattle.mealy.proofs.RunParts.{letters_take}
use Rattle.mealy.proofs.Possible.{far_map, far_runs}
use Rattle.mealy.proofs.ImageWords.{far_word, far_word_lem}
use Rattle.mealy.proofs.Answers.{no_fit↔no_run}
use Rattle.coder.specs.Table.{machine_of_coder, Sound}
use Rattle.coder.specs.declared.inner.tables.Coder.{Coder}
use Rattle.coder.proofs.Tables.{table_at_lem, table_place, next_high, output_high}
use Rattle.chains.specs.Parts.{place_part, place_parts}
use Rattle.setting.specs.Words.{from_word, StartWord}
use Rattle.fitting.specs.Answer.{answer_of}
use Rattle.fitting.specs.declared.Answer.{Answer}
use Rattle.fitting.specs.Tables.{GivenBelow, EntriesAsked, ByOutput, Leads, OnLetter, FittingIn, TablesAsked, TablesOf, DecodedIn}

-- what making the tables asks, of a sound coder
part_low : (letters : Bool) (p : ℕ) → p < 256 → place_part letters p < 16
part_low true p l = omega arith
part_low false p l = omega arith

pub parts_high : (letters : Bool) (p : ℕ) → get_or (place_parts letters) p 0 < 16
parts_high letters p =
    elim (dec_lt p 256) [
      | yes l ↦ rw (get_or_table 256 (place_part letters) p l) (part_low letters p l)
      | no l ↦
          let n = length_table 256 (place_part letters) in
          let m : length (place_parts letters) ≤ p = omega arith in
          rw (get_or-eq_default (place_parts letters) 0 m) (omega arith)
    ]

module _ {c : Coder} (s : Sound c) where
  pub next_low : (p : ℕ) → get_or c.next p 0 < 16
  next_low p = omega (arith, next_high c s p, s.states_high)

  pub entries_asked :
      (keys values : List ℕ) → ((p : ℕ) → get_or keys p 0 < 16) → ((p : ℕ) → get_or values p 0 < 16) → EntriesAsked keys values c.output c.states
  entries_asked keys values k v =
      record {
        states_high = s.states_high;
        keys_high = k;
        values_high = v;
        output_high = λ p. omega (arith, output_high c s p, s.outputs_high);
      }

module _ (c : Coder) (sound : Sound c) where
  abbrev M : Machine
  M = machine_of_coder c

  -- a place of the tables and the entry there
  place_entry :
      (keys values : List ℕ) {o s y : ℕ} (g : GivenBelow keys values c.output c.inputs (16 * c.states) o s y) →
      Entry M (g.p % 16) o (g.p / 16) (get_or c.next g.p 0)
  place_entry keys values g =
      let b = g.below in
      record {
        state = omega arith;
        letter = g.gives.0;
        output = table_at_lem c.output g.p ∙ g.out;
        to = table_at_lem c.next g.p;
      }

  entry_place :
      {x o s t : ℕ} (keys values : List ℕ) {k y : ℕ} → Entry M x o s t → get_or keys (16 * s + x) 0 ≡ k → get_or values (16 * s + x) 0 ≡ y →
      GivenBelow keys values c.output c.inputs (16 * c.states) o k y
  entry_place {x} {o} {s} keys values e f q =
      let l = e.state in
      let m = e.letter in
      let h = sound.inputs_high in
      let i : (16 * s + x) % 16 ≡ x = omega arith in
      record {
        p = 16 * s + x;
        below = omega arith;
        key = f;
        out = table_place c.output s x (omega arith) ∙ e.output;
        gives = (rw i m, q);
      }

  -- the parts of a place
  part_at : (letters : Bool) (p : ℕ) → p < 16 * c.states → get_or (place_parts letters) p 0 ≡ place_part letters p
  part_at letters p l = let h = sound.states_high in get_or_table 256 (place_part letters) p (omega arith)

  -- an entry of state s, in the tables
  module _ {o s t : ℕ} (e : Successor M o s t) where
    abbrev x : ℕ
    x = e.x

    low : s < 16
    low = let m = e.entry.state in let n = sound.states_high in omega arith

    small : x < 16
    small = let j = e.entry.letter in let i = sound.inputs_high in omega arith

    to_at : get_or c.next (16 * s + x) 0 ≡ t
    to_at = table_place c.next s x small ∙ e.entry.to

    in_table : 16 * s + x < 16 * c.states
    in_table = let m = e.entry.state in let y = small in omega arith

    state_at_lem : get_or (place_parts false) (16 * s + x) 0 ≡ s
    state_at_lem = part_at false (16 * s + x) in_table ∙ (let y = small in omega arith)

  -- the table of successors
  module _ {successors : List ℕ} (are : ByOutput (place_parts false) c.next c.output c.states c.inputs successors) where
    pub leads_successor : (o s t : ℕ) → o < 64 → Leads successors o s t → Successor M o s t
    leads_successor o s t l h =
        let g = holds_member (are.holds o s l h.0) t h.1 in
        let e : g.p / 16 ≡ s = sym (part_at false g.p g.below) ∙ g.key in
        record { x = g.p % 16; entry = rw (g.gives.1, e) at (place_entry (place_parts false) c.next g) }

    pub successor_leads : (o s t : ℕ) → o < 64 → Successor M o s t → Leads successors o s t
    successor_leads o s t l e =
        (low e, (are.holds o s l (low e)).has t (entry_place (place_parts false) c.next e.entry (state_at_lem e) (to_at e)))

module _ {c : Coder} {next successors predecessors letters : List ℕ} {starts : ℕ}
    (k : TablesOf c next successors predecessors letters starts) where
  abbrev N : Machine
  N = machine_of_coder c

  to_successor : (o s t : ℕ) → o < 64 → Leads successors o s t → Successor N o s t
  to_successor = leads_successor c k.sound k.sets.successors_are

  from_successor : (o s t : ℕ) → o < 64 → Successor N o s t → Leads successors o s t
  from_successor = successor_leads c k.sound k.sets.successors_are

  successor_back : (o s t : ℕ) → o < 64 → Successor N o s t → Leads predecessors o t s
  successor_back o s t l e =
      let at = to_at c k.sound e in
      let m : t < 16 = rw at at (next_low k.sound (16 * s + e.x)) in (
        m,
        (k.sets.predecessors_are.holds o t l m).has s
            (entry_place c k.sound c.next (place_parts false) e.entry at (state_at_lem c k.sound e)),
      )

  back_successor : (o s t : ℕ) → o < 64 → Leads predecessors o t s → Successor N o s t
  back_successor o s t l h =
      let g = holds_member (k.sets.predecessors_are.holds o t l h.0) s h.1 in
      let e : g.p / 16 ≡ s = sym (part_at c k.sound false g.p g.below) ∙ g.gives.1 in
      record { x = g.p % 16; entry = rw (g.key, e) at (place_entry c k.sound c.next (place_parts false) g) }

  pub tables_asked : TablesAsked next successors predecessors letters
  tables_asked =
      record {
        next_high = λ p. rw k.next_is (next_low k.sound p);
        successors_words = λ o s l m. (k.sets.successors_are.holds o s l m).bound;
        predecessors_words = λ o s l m. (k.sets.predecessors_are.holds o s l m).bound;
        letters_words = λ o s l m. (k.sets.letters_are.holds o s l m).bound;
        turned = λ o s t l h. successor_back o s t l (to_successor o s t l h);
        turned' = λ o s t l h. from_successor o s t l (back_successor o s t l h);
      }

  on_entry : (x o s t : ℕ) → o < 64 → OnLetter next letters x o s t → Entry N x o s t
  on_entry x o s t l h =
      let g = holds_member (k.sets.letters_are.holds o s l h.state) x h.letter in
      let e : g.p / 16 ≡ s = sym (part_at c k.sound false g.p g.below) ∙ g.key in
      let f : g.p % 16 ≡ x = sym (part_at c k.sound true g.p g.below) ∙ g.gives.1 in
      let at : 16 * s + x ≡ g.p = omega arith in
      let to : get_or c.next g.p 0 ≡ t = rw (k.next_is, at) at h.to in
      rw (f, to, e) at (place_entry c k.sound (place_parts false) (place_parts true) g)

  entry_on : (x o s t : ℕ) → o < 64 → Entry N x o s t → OnLetter next letters x o s t
  entry_on x o s t l e =
      let m = e.state in
      let n = k.sound.states_high in
      let i = k.sound.inputs_high in
      let j = e.letter in
      let b : s < 16 = omega arith in
      let in_table : 16 * s + x < 16 * c.states = omega arith in
      record {
        state = b;
        letter =
            (k.sets.letters_are.holds o s l b).has x
            (entry_place c k.sound (place_parts false) (place_parts true) e
            (part_at c k.sound false (16 * s + x) in_table ∙ omega arith)
            (part_at c k.sound true (16 * s + x) in_table ∙ omega arith));
        to = rw k.next_is (table_place c.next s x (omega arith) ∙ e.to);
      }

  -- the transitions of the tables are those of the coder, for every letter
  all : (R R' : Transitions) (f : (o s t : ℕ) → o < 64 → R o s t → R' o s t) (w : List ℕ) → Letters 64 w → All R R' (λ o. o < 64) f w
  all R R' f [] l = tt
  all R R' f (o ∷ w) l = (l.0, all R R' f w l.1)

  sound_total : Total N
  sound_total s i p l = k.sound.next_state s i

  -- the letters that fit
  pub fits_in : (w : List ℕ) (b : ℕ) {u : ℕ} → Letters 64 w → Holds (FittingIn next successors letters (Has starts) w b) u →
      Holds (Fits (from_word c starts) w b) u
  fits_in w b l =
      let S = from_word c starts in
      holds_map
      (λ x f.
      fitting_fits S w b x S.Start
      (fitting_within (Leads successors) (Successor N) (λ o. o < 64) to_successor (OnLetter next letters) (Entry N) on_entry w
      (all (Leads successors) (Successor N) to_successor w l) b x (λ s h. h) f))
      (λ x f.
      fitting_within (Successor N) (Leads successors) (λ o. o < 64) from_successor (Entry N) (OnLetter next letters) entry_on w
      (all (Successor N) (Leads successors) from_successor w l) b x (λ s h. h)
      (fits_fitting S sound_total k.starts_are.low w b x f))

  -- where a part of the letters leads to some state by R it does by R'
  led :
      (R R' : Transitions) (f : (o s t : ℕ) → o < 64 → R o s t → R' o s t) (w : List ℕ) → Letters 64 w → (m : ℕ) →
      Reached R (Has starts) (take m w) → Reached R' (Has starts) (take m w)
  led R R' f w l m r =
      record {
        t = r.t;
        is =
            following_within R R' (λ o. o < 64) f (take m w) (all R R' f (take m w) (letters_take 64 m w l))
            {P = Has starts} {P' = Has starts} (λ s q. q) r.t r.is;
      }

  -- the letters that lead to some state: some run produces them
  far_in :
      (w : List ℕ) {n : ℕ} → Letters 64 w → NoRun (from_word c starts) w → FarIn (Leads successors) (Has starts) w n →
      HowFar (from_word c starts) w n
  far_in w l none h =
      far_runs (from_word c starts) sound_total k.starts_are.low w none
      (far_map (led (Leads successors) (Successor N) to_successor w l) (led (Successor N) (Leads successors) from_successor w l) h)

  pub decoded_in :
      (w : List ℕ) (b : ℕ) {u far : ℕ} {v : Answer} → Letters 64 w → b < length w →
      Holds (FittingIn next successors letters (Has starts) w b) u → (u ≡ 0 → FarIn (Leads successors) (Has starts) w far) →
      v ≡ answer_of u far → DecodedIn (from_word c starts) w b v
  decoded_in w b l m h leads e =
      let fits = fits_in w b l h in
      record {
        letters = _;
        far = _;
        fits = fits;
        count = λ z. far_in w l ((no_fit↔no_run (from_word c starts) w b m).0 (holds_empty fits z)) (leads z);
        is = e;
      }

-- Where no run from the states of the word gives the letters, there is a count.
pub some_far :
    {c : Coder} {starts : ℕ} → Sound c → StartWord c starts → (w : List ℕ) → NoRun (from_word c starts) w →
    (k : ℕ) × HowFar (from_word c starts) w k
some_far {c} {starts} sound s w none = (
  far_word (machine_of_coder c) starts w,
  far_word_lem (from_word c starts) (λ t i p l. sound.next_state t i) sound.states_high s.low starts (holds_itself s.bound) s.some w
      none,
)
