-- What the decoder's core gives on the tables of an accepted file: the letters that fit, right answers and right bytes.
use mathlib.Core.Path.{◌≡◌, refl, sym, ap, subst}
use mathlib.Core.List.{List, ◌++◌}
use Prim.Native.Nat.{ℕ, ◌^◌, ◌≤◌, ◌<◌}
use native.Mathlib.Omega.{arith}
use lib.ListN.{length, take, drop}
use Rattle.mealy.specs.Machine.{Machine, Letters}
use Rattle.mealy.proofs.Letters.{letters_higher}
use Rattle.coder.specs.Limits.{max_outputs}
use Rattle.mealy.specs.Setting.{Same, after_letters}
use Rattle.mealy.specs.Answer.{Fits}
use Rattle.mealy.proofs.Words.{holds_map, holds_empty}
use Rattle.mealy.proofs.SameSettings.{fits_same, far_same, same_sym}
use Rattle.mealy.proofs.Answers.{no_fit↔no_run}
use Rattle.mealy.proofs.ImageWords.{far_word, far_word_lem}
use Rattle.mealy.proofs.StartStates.{start_some, after_bounded}
use Rattle.mealy.specs.Index.{window_at}
use Rattle.mealy.specs.Word.{Holds}
use Rattle.coder.specs.File.{file_refusal, outputs_of, machine_of, setting_after}
use Rattle.coder.specs.Table.{coder_of, Sound}
use Rattle.coder.specs.declared.inner.tables.Coder.{Coder}
use Rattle.coder.proofs.Accepted.{accepted}
use Rattle.coder.proofs.Tables.{total, some_state}
use Rattle.starts.proofs.Computed.{starts_word, starts_hold}
use Rattle.setting.specs.Words.{setting_of_coder, from_word, StartWord}
use Rattle.setting.proofs.Same.{coder_sound, coder_machine, same_word, start_word}
use Rattle.chains.specs.Chain.{Keys}
use Rattle.chains.proofs.Entries.{output_keys}
use Rattle.chains.specs.Rows.{Rowed}
use Rattle.fitting.specs.Answer.{Right, RightByte, answer_of}
use Rattle.fitting.specs.declared.Answer.{Answer}
use Rattle.fitting.proofs.Answers.{holds_right, byte_same}
use Rattle.filling.specs.Sets.{RowsOf}
use Rattle.filling.specs.Table.{TableFilled}
use Rattle.fitting.specs.Tables.{SetsOf, TablesOf, DecodedIn}
use Rattle.filling.specs.Window.{fitting_word}
use Rattle.filling.proofs.Window.{word_fits}
use Rattle.values.specs.Window.{size}
use Rattle.values.specs.declared.Window.{Window}
use Rattle.decoder_refusal.specs.Refusal.{table_size, places}
use Rattle.decoder.specs.Written.{Written}
use Rattle.decoder.specs.Places.{ByteAt, PlacesDecoded}
use Rattle.decoder.specs.Table.{EntryOf}
use Rattle.decoder.proofs.Writing.{written_map, written_bytes}

-- c is the coder of the accepted file f
pub record CoderOf (c : Coder) (f : List ℕ) : Type 0 where
  pub is : c ≡ coder_of f
  pub file : file_refusal f ≡ 0

pub coder_itself : {f : List ℕ} → file_refusal f ≡ 0 → CoderOf (coder_of f) f
coder_itself z = record { is = refl; file = z }

module _ {c : Coder} {f : List ℕ} (h : CoderOf c f) where
  -- it meets what the functions on tables ask
  pub sound_of : Sound c
  sound_of = coder_sound h.is (accepted f h.file)

  pub outputs_of_lem : c.outputs ≡ outputs_of f
  unfolding coder_of
  outputs_of_lem = ap (λ (d : Coder). d.outputs) h.is

  -- the output letters of the file are among all output letters
  pub low_letters : (received : List ℕ) → Letters (outputs_of f) received → Letters max_outputs received
  low_letters received =
      letters_higher (outputs_of f) max_outputs received (omega (arith, sound_of.outputs_high, outputs_of_lem))

  pub keys_of : Keys c.output c.states c.inputs
  keys_of = output_keys c sound_of

  pub rows_of :
      {start entries : List ℕ} →
      Rowed c.output c.states c.inputs (record { start = start; entries = entries }) → RowsOf c start entries
  rows_of k = record { sound = sound_of; rowed = k }

  -- what is right from the states of a word is right for the file's windows with the settle count whose start states these are
  module _ (p : ℕ) {starts : ℕ} (s : Holds (setting_of_coder c p).Start starts) where
    same_file : Same (from_word c starts) (setting_after f p)
    same_file =
        subst (λ (M : Machine). Same (from_word c starts) (after_letters M p)) (coder_machine h.is (accepted f h.file))
        (same_word c p s)

    pub fits_of : (w : List ℕ) (b : ℕ) {u : ℕ} → Holds (Fits (from_word c starts) w b) u → Holds (Fits (setting_after f p) w b) u
    fits_of w b = holds_map (fits_same same_file w b) (fits_same (same_sym same_file) w b)

    pub decoded_of : (w : List ℕ) (b : ℕ) {v : Answer} → DecodedIn (from_word c starts) w b v → Right (setting_after f p) w b v
    decoded_of w b d = rw d.is (holds_right (fits_of w b d.fits) (λ z. far_same same_file w _ (d.count z)))

    pub byte_of : (w : List ℕ) (b : ℕ) {v : ℕ} → RightByte (from_word c starts) w b v → RightByte (setting_after f p) w b v
    byte_of w b {v} r = byte_same same_file w b v r

    pub starts_of_lem : StartWord c starts
    starts_of_lem = start_word c p s sound_of

    -- the tables by output letter
    pub tables_of :
        {successors predecessors letters : List ℕ} → SetsOf c successors predecessors letters →
        TablesOf c c.next successors predecessors letters starts
    tables_of k = record { sound = sound_of; next_is = refl; sets = k; starts_are = starts_of_lem }

  module _ (w : Window) {starts : ℕ} (s : Holds (setting_of_coder c w.settle).Start starts) where
    -- a string
    pub places_right :
        (received : List ℕ) {n m : ℕ} {before after : List ℕ} → n ≡ size w → m ≡ places (length received) w →
        PlacesDecoded c starts received w.before n m before after →
        Written (ByteAt f received w) (places (length received) w) before after
    places_right received {n} {m} en em d =
        rw (← em)
        (written_map {Q = λ k v. RightByte (from_word c starts) (take n (drop k received)) w.before v}
        (λ k v l q. byte_of w.settle s (take (size w) (drop k received)) w.before (rw en at q))
        d)

    -- a table, of which the first bytes were lent and are now ys
    pub table_right :
        {o n count : ℕ} {before ys : List ℕ} → o ≡ outputs_of f → n ≡ size w → count ≡ table_size (outputs_of f) w →
        count ≤ length before → TableFilled c starts o n w.before ys →
        Written (EntryOf f w) (table_size (outputs_of f) w) before (ys ++ drop count before)
    table_right {o} {n} {count} {before} {ys} eo en ec room g =
        let long : length ys ≡ count = rw (eo, en, ← ec) at g.size in
        rw (← ec)
        (written_bytes ys long room (λ k l.
        let there : k < o ^ n = rw (eo, en, ← ec) l in
        rw (← eo, ← en) (byte_of w.settle s (window_at o n k) w.before (g.is k there))))

-- the start states of a file's machine for a settle count
abbrev pub starts_of : List ℕ → ℕ → ℕ
starts_of f p = starts_word (machine_of f) p

pub file_starts : (f : List ℕ) → file_refusal f ≡ 0 → (p : ℕ) → Holds (setting_after f p).Start (starts_of f p)
unfolding machine_of
file_starts f z =
    let a = accepted f z in
    starts_hold (machine_of f) (total f a) (some_state f a) a.entries.limits.states_high

-- the letters that fit a window of an accepted file, and the answer
pub file_fits :
    (f : List ℕ) → file_refusal f ≡ 0 → (p : ℕ) (w : List ℕ) (b : ℕ) → b < length w →
    Holds (Fits (setting_after f p) w b) (fitting_word (coder_of f) (starts_of f p) w b)
file_fits f z p w b l =
    let h = coder_itself z in
    let same = coder_machine h.is (accepted f z) in
    let s = subst (λ M. Holds (after_letters M p).Start (starts_of f p)) (sym same) (file_starts f z p) in
    fits_of h p s w b (word_fits (coder_of f) (sound_of h) (starts_of f p) w b (starts_of_lem h p s).low l)

abbrev pub decoded : List ℕ → ℕ → List ℕ → ℕ → Answer
decoded f p w b = answer_of (fitting_word (coder_of f) (starts_of f p) w b) (far_word (machine_of f) (starts_of f p) w)

pub file_right :
    (f : List ℕ) → file_refusal f ≡ 0 → (p : ℕ) (w : List ℕ) (b : ℕ) → b < length w → Right (setting_after f p) w b (decoded f p w b)
unfolding machine_of
file_right f z p w b l =
    let a = accepted f z in
    let M = machine_of f in
    let S = setting_after f p in
    let fits = file_fits f z p w b l in
    let starts = file_starts f z p in
    let some = start_some M a.entries.limits.inputs_low p in
    holds_right fits
    (λ e.
    far_word_lem S (total f a) a.entries.limits.states_high (after_bounded M (total f a) (some_state f a) p) (starts_of f p) starts
    (λ n. holds_empty starts n some.0 some.1) w ((no_fit↔no_run S w b l).0 (holds_empty fits e)))
